-- The weights of the places of the set below d are added up, at most 16 for each, and the iterator has the others.
use Prim.Native.Nat.{ℕ, ◌*◌, ◌≤◌}
use mathlib.Core.Path.{◌≡◌}
use Rattle.spec.specs.Lists.{sum_of, up_to}
use Rattle.arc_sets.specs.Walk.{Left}
use Rattle.run_counts.specs.Tally.{weighed}
use Rattle.run_counts.proofs.weights_in.Given as goal

abbrev pub invariant-loop-p : goal.invariant-loop-p
invariant-loop-p l = (d : ℕ) × (d ≤ 32) × Left l.set l.p-iterator.left d × (l.r ≤ 16 * d) × (l.r ≡ sum_of (weighed l.sets l.row l.set) (up_to d))
