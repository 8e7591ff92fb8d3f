-- `reach::close_along` meets its contract. The loop's invariant: the rows stand between the pairs and the closed order,
-- and those of the events that had their turn are in the closed order (`Closing`, with the events done); at the end all
-- are.
use Prim.Native.Nat.{ℕ, ◌<◌}
use mathlib.Core.Path.{◌≡◌}
use lib.ListN.{length}
use Rattle.bit_sets.specs.Sets.{has}
use Rattle.reach.specs.Rows.{words, turn_of}
use Rattle.reach.proofs.Laws.{Closing}
use Rattle.reach.proofs.close_along.Given as goal

abbrev pub invariant-loop-i : goal.invariant-loop-i
invariant-loop-i l = (length l.w ≡ words) × Closing l.initial.w l.n l.full l.done l.w × ((k : ℕ) → k < l.i → has l.done (turn_of l.up l.n k) ≡ 1)
