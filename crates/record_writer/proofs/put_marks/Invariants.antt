-- The marks of the events below e are put, the rows
-- that are known are the sets of their transitions, and what the cursors passed is not left for event e.
use Prim.Native.Nat.{◌<◌}
use Rattle.condition_sets.specs.Sets.{Ready}
use Rattle.held_conditions.specs.Held.{Passed}
use Rattle.record_writer.specs.Notes.{Puts, notes_to}
use Rattle.record_writer.proofs.put_marks.Given as goal

abbrev pub invariant-loop-e : goal.invariant-loop-e
invariant-loop-e l = Ready l.arcs l.places l.known l.watched
    × (l.e < l.s.events → Passed l.rec l.steps l.e l.s.conditions l.nexts) × Puts (notes_to l.arcs l.rec l.steps l.s.conditions l.e) l.initial.next l.initial.out l.initial.marks l.next l.out l.marks
