-- `marking_rows::add_arcs` meets its contract. The loop's invariant: the first p places have their arcs added. A sum has room
-- for one byte more.
use Rattle.marking_rows.specs.Rows.{AddsArcs}
use Rattle.marking_rows.proofs.add_arcs.Given as goal

abbrev pub invariant-loop-p : goal.invariant-loop-p
invariant-loop-p l = AddsArcs l.initial.sums l.arcs l.start l.p l.sums
