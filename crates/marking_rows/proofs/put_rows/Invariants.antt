-- `marking_rows::put_rows` meets its contract. The loop's invariant: rows 0 to k are written, and the sums are those of the
-- events of the first k lines; what is behind the last row is cleared at the end.
use Rattle.marking_rows.proofs.Sums.{Putting}
use Rattle.marking_rows.proofs.put_rows.Given as goal

abbrev pub invariant-loop-k : goal.invariant-loop-k
invariant-loop-k l = Putting l.places l.tokens l.arcs l.trans l.lined l.initial.out l.k l.sums l.out
