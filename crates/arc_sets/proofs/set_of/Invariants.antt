-- `arc_sets::set_of` meets its contract. The loop's invariant: the set has, of the first p places of the row, those
-- where something stands, and no other place.
use Rattle.arc_sets.specs.Sets.{RowSet}
use Rattle.arc_sets.proofs.set_of.Given as goal

abbrev pub invariant-loop-p : goal.invariant-loop-p
invariant-loop-p l = RowSet l.arcs l.row l.p l.set
