-- `marking_rows::put_row` meets its contract. The loop's invariant: the first p counts of the row are written, and the others
-- are as they were.
use Rattle.lists.specs.Stretch.{MappedFrom}
use Rattle.marking_rows.specs.Rows.{left_of}
use Rattle.marking_rows.proofs.put_row.Given as goal

abbrev pub invariant-loop-p : goal.invariant-loop-p
invariant-loop-p l = MappedFrom l.initial.out l.start l.p (left_of l.sums) l.out
