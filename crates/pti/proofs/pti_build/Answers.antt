-- `pti::pti_build` meets its contract: the numbers of the answer are those of what `build` promises, and the buffer is
-- as it left it.
use Rattle.std.proofs.Common.{ap, ◌∙◌, refl}
use Rattle.spec.specs.Values.{as_numbers}
use Rattle.building.specs.Answers.{build_answer}
use Rattle.pti.proofs.Answered.{by_cases}
use Rattle.pti.proofs.pti_build.Goals as goal

pub returns : goal.returns
returns c =
    let o = c.build.ensures in
    record { answer = c.numbers_of.ensures ∙ ap as_numbers (by_cases build_answer _ _ _ (λ x. refl) (λ e. refl) ∙ o.answer); buffer = o.buffer }
