-- What the arcs of the row stand for at the places below d is made, and the iterator has the other places.
use Prim.Native.Nat.{ℕ, ◌≤◌}
use mathlib.Core.List.{map}
use lib.ListN.{get_or}
use Rattle.runs.specs.Consume.{made_of}
use Rattle.arc_sets.specs.Walk.{Left}
use Rattle.conditions.specs.Conditions.{tokens_of, MadeAt}
use Rattle.conditions.proofs.make_event.Given as goal

abbrev pub invariant-loop-p : goal.invariant-loop-p
invariant-loop-p l = (d : ℕ) × (d ≤ 64) × Left (get_or l.sets l.row 0) l.p-iterator.left d × MadeAt (map made_of (tokens_of l.sets l.row l.e d)) l.n l.initial.rec l.r l.rec
