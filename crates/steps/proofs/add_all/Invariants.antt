-- The rows of the events up to the next are added.
use lib.ListN.{take}
use Rattle.arc_sets.specs.Sets.{arc_at}
use Rattle.steps.specs.StepArrays.{Summed}
use Rattle.steps.proofs.add_all.Given as goal

abbrev pub invariant-loop-t : goal.invariant-loop-t
invariant-loop-t l = Summed (arc_at l.sets l.at) (take l.t-index l.step) l.from l.initial.xs l.xs
