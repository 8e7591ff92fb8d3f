use mathlib.Core.Path.{sym, ap}
use native.Mathlib.Omega.{arith}
use Rattle.std.proofs.lemmas.List.{take_all}
use Rattle.arc_sets.specs.Sets.{arc_at}
use Rattle.runs.specs.Flows.{flows}
use Rattle.conditions.proofs.Tokens.{flows-none, inputs-next}
use Rattle.conditions.proofs.Lent.{takes-nothing, ready-after, takes-then, takes-as}
use Rattle.conditions.proofs.take_step.Goals as goal

pub loop-i-init : goal.loop-i-init
loop-i-init c = takes-as (takes-nothing c.requires.3) (sym (flows-none _ _ _))

pub take_event-requires : goal.take_event-requires
take_event-requires c = (omega arith, omega (arith, c.requires.1.known c.loop-i.i c.loop-i-test.true, c.from.ensures), c.requires.2, ready-after c.requires.3 c.loop-i.invariant)

pub loop-i-preserved : goal.loop-i-preserved
loop-i-preserved c = takes-as (takes-then c.loop-i.invariant c.take_event.ensures) (inputs-next c.args.sets.now _ _ c.loop-i.i _ c.loop-i-test.true c.from.ensures)

pub returns : goal.returns
returns c = takes-as c.loop-i.invariant (ap (flows (arc_at c.args.sets.now 0) 64 c.args.x.events) (take_all c.loop-i.i _ c.loop-i-test.false))
