-- `fields::needless_zero` meets its contract: `needless_zero` asks for two bytes or more, and then for the digit 0, just
-- as the code does. The digit value that the first byte's entry has is the byte's (`value_read`).
use Prim.Native.Nat.{ℕ, ◌≤◌}
use mathlib.Core.Path.{ap}
use native.Mathlib.Omega.{arith}
use lib.Dec.{eqb}
use lib.ListN.{length}
use borrow.Author.Tests.{lt-ltb, le-ltb}
use Rattle.spec.specs.Text.{needless_zero}
use Rattle.fields.proofs.Pieces.{value_read}
use Rattle.fields.proofs.needless_zero.Goals as goal

pub returns-then-p-gt1 : goal.returns-then-p-gt1
unfolding needless_zero
returns-then-p-gt1 c =
    rw (lt-ltb 1 _ c.if-p-gt1.true)
    (ap (λ (z : ℕ). eqb z 0) (value_read _ c.entry_of.ensures c.digit_in.ensures.0))

pub returns-else-p-gt1 : goal.returns-else-p-gt1
unfolding needless_zero
returns-else-p-gt1 c = let s : length c.args.p.now ≤ 1 = omega arith in rw (le-ltb 1 _ s)
