-- `lines::ended_to` meets its contract. The loop's invariant: no line end stands from i on; so the first one met from the
-- end of the text is the last.
use Prim.Native.Nat.{ℕ, ◌≤◌, ◌<◌}
use mathlib.Core.Path.{◌≡◌}
use mathlib.Core.Bool.{false}
use lib.ListN.{length, get_or}
use Rattle.spec.specs.Text.{is_a}
use Rattle.spec.specs.declared.Class.TheVariants.{LineEnd}
use Rattle.lines.proofs.ended_to.Given as goal

abbrev pub invariant-loop-i : goal.invariant-loop-i
invariant-loop-i l = (k : ℕ) → l.i ≤ k → k < length l.s → is_a LineEnd (get_or l.s k 0) ≡ false
