use Rattle.std.proofs.Common.{◌<◌, arith, take_all}
use Rattle.arrangement_reader.proofs.Lateness.{grouped-none, grouped-more}
use Rattle.arrangement_reader.proofs.group_of.Goals as goal

pub loop-event-init : goal.loop-event-init
loop-event-init c = grouped-none c.args.w.now c.none-line.ensures c.none-path.ensures c.none-strict.ensures

pub loop-event-preserved : goal.loop-event-preserved
loop-event-preserved c =
    let low : c.from-e.result < 128 = omega (arith, c.from-e.ensures, c.requires c.loop-event.event-index (omega arith)) in
    grouped-more c.args.w.now c.args.events.now c.loop-event.event-index c.from-e.result c.one.result (omega arith) c.from-e.ensures low
    c.row_at-row.ensures c.one.ensures c.union-line.ensures c.union-path.ensures c.union-strict.ensures c.loop-event.invariant

pub returns : goal.returns
returns c = rw (take_all c.loop-event.event-index c.args.events.now (omega arith)) at c.loop-event.invariant
