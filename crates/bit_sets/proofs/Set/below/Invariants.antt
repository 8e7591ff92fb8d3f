-- `bit_sets::Set::below` meets its contract. The loop's invariant: the set has every number below i and none from i on.
use Prim.Native.Nat.{ℕ, ◌≤◌, ◌<◌}
use mathlib.Core.Path.{◌≡◌}
use Rattle.bit_sets.specs.Sets.{has}
use Rattle.bit_sets.proofs.Set.below.Given as goal

abbrev pub invariant-loop-i : goal.invariant-loop-i
invariant-loop-i l = ((f : ℕ) → f < l.i → has l.r f ≡ 1) × ((f : ℕ) → l.i ≤ f → has l.r f ≡ 0)
