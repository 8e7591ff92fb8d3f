-- `arc_sets::put_row` meets its contract. The loop's invariant: the weights of the set's places below d stand in the row, and
-- the iterator has the others.
use Prim.Native.Nat.{ℕ}
use Rattle.arc_sets.specs.Walk.{Left}
use Rattle.arc_sets.proofs.Making.{WeightsTo}
use Rattle.arc_sets.proofs.put_row.Given as goal

abbrev pub invariant-loop-p : goal.invariant-loop-p
invariant-loop-p l = (d : ℕ) × Left l.set l.p-iterator.left d × WeightsTo l.arcs l.row l.set d l.initial.sets l.sets
