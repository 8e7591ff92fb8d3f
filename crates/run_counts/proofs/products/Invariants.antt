-- The products of the places up to the next are added up.
use Prim.Native.Nat.{◌*◌, ◌≤◌}
use mathlib.Core.Path.{◌≡◌}
use Rattle.spec.specs.Lists.{sum_of, up_to}
use Rattle.columns.specs.Columns.{column}
use Rattle.run_counts.specs.Tally.{times_at}
use Rattle.run_counts.proofs.products.Given as goal

abbrev pub invariant-loop-p : goal.invariant-loop-p
invariant-loop-p l = (l.r ≤ 6553600 * l.p) × (l.r ≡ sum_of (times_at (column 0 32 l.counts) (column 32 32 l.counts)) (up_to l.p))
