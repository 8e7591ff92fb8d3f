-- The tokens of the events up to the next are made.
use mathlib.Core.List.{map}
use lib.ListN.{take}
use Rattle.arc_sets.specs.Sets.{arc_at}
use Rattle.runs.specs.Flows.{flows}
use Rattle.runs.specs.Consume.{made_of}
use Rattle.conditions.specs.Conditions.{MadeAt}
use Rattle.conditions.proofs.make_step.Given as goal

abbrev pub invariant-loop-i : goal.invariant-loop-i
invariant-loop-i l = MadeAt (map made_of (flows (arc_at l.sets 32) 64 l.e (take l.i l.step))) l.initial.r l.initial.rec l.r l.rec
