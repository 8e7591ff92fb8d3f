-- `pti::pti_program` meets its contract: the numbers are those of the count that `program` promises, and the buffer is
-- as it left it.
use mathlib.Core.Path.{ap, ◌∙◌}
use Prim.Native.Nat.{ℕ}
use Rattle.spec.specs.Answer.{gives}
use Rattle.spec.specs.Values.{as_numbers}
use Rattle.pti.proofs.pti_program.Goals as goal

pub returns : goal.returns
returns c =
    let o = c.program.ensures in
    record {
      answer = c.returned.ensures ∙ ap (λ (n : ℕ). as_numbers (gives (n, 0, 0))) o.count;
      buffer = o.buffer;
    }
