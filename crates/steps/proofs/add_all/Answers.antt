use mathlib.Core.Path.{◌≡◌, ◌∙◌}
use Rattle.steps.proofs.Rows.{event-within, event-told, events-done, summed-none, summed-room, summed-next}
use Rattle.steps.proofs.add_all.Goals as goal

pub loop-t-init : goal.loop-t-init
loop-t-init c = summed-none _ _

pub add_row-requires : goal.add_row-requires
add_row-requires c = summed-room c.requires.0 c.requires.1 (event-within c.requires.0 c.loop-t-test.true) c.loop-t.invariant (c.from.ensures ∙ event-told c.requires.0 c.loop-t-test.true)

pub loop-t-preserved : goal.loop-t-preserved
loop-t-preserved c = summed-next c.requires.0 c.requires.1 (event-within c.requires.0 c.loop-t-test.true) c.loop-t.invariant (c.from.ensures ∙ event-told c.requires.0 c.loop-t-test.true) c.add_row.ensures

pub returns : goal.returns
returns c = let e : c.loop-t.t-index ≡ c.args.count = events-done c.requires.0 c.loop-t.auto.t-index-end c.loop-t-test.false in rw (← e) c.loop-t.invariant
