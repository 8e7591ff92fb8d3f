-- `steps::some_place` meets its contract. The loop's invariant: no place of the set below d is as asked, and the iterator
-- has the others.
use Prim.Native.Nat.{ℕ}
use Rattle.arc_sets.specs.Walk.{Left}
use Rattle.steps.specs.StepArrays.{is_filled}
use Rattle.steps.proofs.Walking.{NoneTo}
use Rattle.steps.proofs.some_place.Given as goal

abbrev pub invariant-loop-p : goal.invariant-loop-p
invariant-loop-p l = (d : ℕ) × Left l.set l.p-iterator.left d × NoneTo (is_filled l.filled) l.set d l.marking
