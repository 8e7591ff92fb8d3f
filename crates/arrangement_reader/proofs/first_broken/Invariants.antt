-- `arrangement_reader::first_broken` meets its contract. The loop's invariant: `broken` is the lowest line behind the first
-- k that breaks the order, and `late` has what an event in none of the first k lines is not later than.
use Rattle.arrangement_reader.proofs.Lateness.{Behind}
use Rattle.arrangement_reader.proofs.first_broken.Given as goal

abbrev pub invariant-loop-k : goal.invariant-loop-k
invariant-loop-k l = Behind l.n l.lines l.w l.stands l.lined l.k l.broken l.late
