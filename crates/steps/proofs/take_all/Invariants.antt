-- What the events up to the next take is taken.
use lib.ListN.{take}
use Rattle.arc_sets.specs.Sets.{arc_at}
use Rattle.steps.specs.StepArrays.{Paid}
use Rattle.steps.proofs.take_all.Given as goal

abbrev pub invariant-loop-t : goal.invariant-loop-t
invariant-loop-t l = Paid (arc_at l.sets 0) (take l.t-index l.step) l.initial.marking l.marking
