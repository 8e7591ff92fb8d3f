-- The conditions that are read in the places of the set below d are in `reads`, and the iterator has the set's other places.
use Prim.Native.Nat.{ℕ}
use Rattle.arc_sets.specs.Walk.{Left}
use Rattle.held_conditions.specs.Held.{Passed}
use Rattle.held_conditions.proofs.Reading.{ReadTo}
use Rattle.held_conditions.proofs.reads_of.Given as goal

abbrev pub invariant-loop-p : goal.invariant-loop-p
invariant-loop-p l = (d : ℕ) × Left l.places l.p-iterator.left d × ReadTo l.m.rec.now l.m.steps.now l.places l.m.event l.m.conditions d l.reads × Passed l.m.rec.now l.m.steps.now l.m.event l.m.conditions l.nexts
