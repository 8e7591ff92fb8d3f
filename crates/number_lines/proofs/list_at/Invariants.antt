-- `number_lines::list_at` meets its contract. The loop's invariant, `Walked`: the letter and the numbers so far stand
-- before `end`, the array has as many of them as it has room for, `high` is the greatest of them, the byte at `end` has the
-- entry `stop`, and a line end is ahead. A comma there and a number behind it go on; an ending there makes the line.
use Prim.Native.Nat.{◌-◌}
use lib.ListN.{length}
use Rattle.number_lines.proofs.Listing.{Walked}
use Rattle.number_lines.proofs.list_at.Given as goal

abbrev pub invariant-loop-stop : goal.invariant-loop-stop
invariant-loop-stop l =
    Walked l.text l.at l.xs l.seen l.high l.end l.stop

abbrev pub decreases-loop-stop : goal.decreases-loop-stop
decreases-loop-stop l = length l.text - l.end
