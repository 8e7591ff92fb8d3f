-- The conditions of the places up to the next are made.
use lib.ListN.{take}
use Rattle.spec.specs.Building.{initial_of}
use Rattle.conditions.specs.Conditions.{MadeAt}
use Rattle.history.proofs.start.Given as goal

abbrev pub invariant-loop-p : goal.invariant-loop-p
invariant-loop-p l = MadeAt (initial_of 0 (take l.p l.count-items)) 0 l.initial.rec l.r l.rec
