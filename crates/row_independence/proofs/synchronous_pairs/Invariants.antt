-- `row_independence::synchronous_pairs` meets its contract. The loop's invariant: the pairs of the events below e are
-- counted, each at its higher event, and those of them that are on loops are sorted by their rows.
use Prim.Native.Nat.{◌*◌, ◌≤◌}
use mathlib.Core.Path.{◌≡◌}
use Rattle.reach.specs.Rows.{cell_of}
use Rattle.row_independence.specs.Pairs.{synchronous_pairs}
use Rattle.row_independence.specs.Alike.{ByRows}
use Rattle.row_independence.proofs.synchronous_pairs.Given as goal

abbrev pub invariant-loop-e : goal.invariant-loop-e
invariant-loop-e l =
    (l.pairs ≤ 128 * l.e) × (l.pairs ≡ synchronous_pairs l.e (cell_of l.w)) × ByRows l.n (cell_of l.w) l.e l.sets
