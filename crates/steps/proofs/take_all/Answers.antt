use mathlib.Core.Path.{◌≡◌, ◌∙◌}
use Rattle.steps.proofs.Rows.{event-within, event-told, events-done, paid-none, paid-room, paid-next}
use Rattle.steps.proofs.take_all.Goals as goal

pub loop-t-init : goal.loop-t-init
loop-t-init c = paid-none _ _

pub take_row-requires : goal.take_row-requires
take_row-requires c = let P = c.loop-t.invariant in let r = paid-room c.requires.0 c.requires.1 (event-within c.requires.0 c.loop-t-test.true) P (c.from.ensures ∙ event-told c.requires.0 c.loop-t-test.true) in (r.0, P.long ∙ c.requires.1.long, r.1)

pub loop-t-preserved : goal.loop-t-preserved
loop-t-preserved c = paid-next c.requires.0 c.requires.1 (event-within c.requires.0 c.loop-t-test.true) c.loop-t.invariant (c.from.ensures ∙ event-told c.requires.0 c.loop-t-test.true) c.take_row.ensures

pub returns : goal.returns
returns c = let e : c.loop-t.t-index ≡ c.args.count = events-done c.requires.0 c.loop-t.auto.t-index-end c.loop-t-test.false in rw (← e) c.loop-t.invariant
