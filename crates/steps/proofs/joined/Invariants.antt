-- `steps::joined` meets its contract. The loop's invariant: the sets of the events up to the next are joined.
use lib.ListN.{take}
use Rattle.arc_sets.specs.Sets.{arc_at}
use Rattle.steps.specs.StepArrays.{Joined}
use Rattle.steps.proofs.joined.Given as goal

abbrev pub invariant-loop-t : goal.invariant-loop-t
invariant-loop-t l = Joined (arc_at l.sets l.at) (take l.t-index l.step) l.set
