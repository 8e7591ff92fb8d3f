-- What the places below d weigh is added, and the iterator has the others.
use Prim.Native.Nat.{ℕ}
use lib.ListN.{get_or}
use Rattle.arc_sets.specs.Sets.{weight_at}
use Rattle.arc_sets.specs.Walk.{Left}
use Rattle.steps.specs.StepArrays.{AddedTo}
use Rattle.steps.proofs.add_row.Given as goal

abbrev pub invariant-loop-p : goal.invariant-loop-p
invariant-loop-p l = (d : ℕ) × Left (get_or l.sets l.row 0) l.p-iterator.left d × AddedTo l.from (weight_at l.sets l.row) d l.initial.xs l.xs
