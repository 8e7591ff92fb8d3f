use mathlib.Core.Path.{◌≡◌, ◌∙◌}
use native.Mathlib.Omega.{arith}
use mathlib.Core.List.{[]}
use Rattle.steps.proofs.Rows.{event-told, events-done, joined-none, joined-next}
use Rattle.steps.proofs.joined.Goals as goal

pub loop-t-init : goal.loop-t-init
loop-t-init c = joined-none _ [] _

pub loop-t-preserved : goal.loop-t-preserved
loop-t-preserved c = joined-next c.args.sets.now c.args.step.now _ (omega (arith, c.requires.0.long, c.requires.0.few)) (c.from.ensures ∙ event-told c.requires.0 c.loop-t-test.true) c.loop-t.invariant

pub returns : goal.returns
returns c = let e : c.loop-t.t-index ≡ c.args.count = events-done c.requires.0 c.loop-t.auto.t-index-end c.loop-t-test.false in rw (← e) c.loop-t.invariant
