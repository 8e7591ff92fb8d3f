-- `pti::pti_check` meets its contract: the numbers of the answer are those of what `check` promises, and the buffer is
-- as it left it.
use Rattle.std.proofs.Common.{ap, ◌∙◌, refl}
use Rattle.spec.specs.Values.{as_numbers}
use Rattle.checking.specs.Checking.{check_of}
use Rattle.pti.proofs.Answered.{by_cases}
use Rattle.pti.proofs.pti_check.Goals as goal

pub returns : goal.returns
returns c =
    let o = c.check.ensures in
    record { answer = c.numbers_of.ensures ∙ ap as_numbers (by_cases check_of _ _ _ (λ x. refl) (λ e. refl) ∙ o.answer); buffer = o.buffer }
