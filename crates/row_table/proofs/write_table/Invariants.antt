-- `row_table::write_table` meets its contract. The loop's invariant: the rows below e have their entries, the rest of
-- the table is 0, and what is behind the table is as it was.
use Rattle.row_table.proofs.Laws.{Written}
use Rattle.row_table.proofs.write_table.Given as goal

abbrev pub invariant-loop-e : goal.invariant-loop-e
invariant-loop-e l = Written l.initial.out l.w l.n l.e l.out
