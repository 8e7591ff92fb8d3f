-- The tokens of the events up to the next are taken.
use lib.ListN.{take}
use Rattle.arc_sets.specs.Sets.{arc_at}
use Rattle.runs.specs.Flows.{flows}
use Rattle.conditions.specs.Conditions.{TookAt}
use Rattle.conditions.proofs.take_step.Given as goal

abbrev pub invariant-loop-i : goal.invariant-loop-i
invariant-loop-i l = TookAt (flows (arc_at l.sets 0) 64 l.e (take l.i l.step)) l.n l.initial.rec l.initial.counts l.rec l.counts
