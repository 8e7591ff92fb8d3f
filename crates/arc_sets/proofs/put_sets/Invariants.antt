-- `arc_sets::put_sets` meets its contract. The loop's invariant: the rows of the first t transitions stand there, of each
-- kind, and no other row does.
use Prim.Native.Nat.{◌*◌}
use Rattle.arc_sets.proofs.Making.{RowsTo}
use Rattle.arc_sets.proofs.put_sets.Given as goal

abbrev pub invariant-loop-t : goal.invariant-loop-t
invariant-loop-t l = RowsTo l.arcs l.m (4 * l.t) l.sets
