-- `pti::pti_replay` meets its contract: the numbers of the answer are those of what `replay` promises, and the buffer is
-- as it left it.
use Rattle.std.proofs.Common.{ap, ◌∙◌, refl}
use Rattle.spec.specs.Values.{as_numbers}
use Rattle.replaying.specs.Replaying.{replay_of}
use Rattle.pti.proofs.Answered.{by_cases}
use Rattle.pti.proofs.pti_replay.Goals as goal

pub returns : goal.returns
returns c =
    let o = c.replay.ensures in
    record { answer = c.numbers_of.ensures ∙ ap as_numbers (by_cases replay_of _ _ _ (λ x. refl) (λ e. refl) ∙ o.answer); buffer = o.buffer }
