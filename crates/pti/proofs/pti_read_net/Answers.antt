-- `pti::pti_read_net` meets its contract: the numbers of the answer are those of what `net_answer` promises.
use Rattle.std.proofs.Common.{ap, ◌∙◌, refl}
use Rattle.spec.specs.Values.{as_numbers}
use Rattle.net.specs.NetArrays.{answer_of}
use Rattle.pti.proofs.Answered.{by_cases}
use Rattle.pti.proofs.pti_read_net.Goals as goal

pub returns : goal.returns
returns c = c.numbers_of.ensures ∙ ap as_numbers (by_cases answer_of _ _ _ (λ x. refl) (λ e. refl) ∙ c.net_answer.ensures)
