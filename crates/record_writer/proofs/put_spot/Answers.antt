-- `record_writer::put_spot` meets its contract: the marks at a condition are that of the guard, if its place inhibits
-- the event, and behind it that of the reader.
use mathlib.Core.Path.{sym}
use Rattle.lists.specs.Laws
use Rattle.record_writer.proofs.Noting.{puts_none, puts-as, puts-after, room_as, room-behind}
use Rattle.record_writer.proofs.Marks.{spot-none, spot-read, spot-guard, spot-both, due-room}
use Rattle.record_writer.proofs.put_spot.Goals as goal

pub put_one-requires : goal.put_one-requires
put_one-requires c =
    (c.args.m.now.readable.event, c.requires.0, room_as (spot-read c.args.m.now.rec.now c.args.m.now.steps.now c.args.m.now.event c.args.spot.condition (Laws.not-is-true _ c.if-not-spot.true) c.if-spot.true) c.requires.2)

pub returns-then-spot : goal.returns-then-spot
returns-then-spot c =
    puts-as (sym (spot-read c.args.m.now.rec.now c.args.m.now.steps.now c.args.m.now.event c.args.spot.condition (Laws.not-is-true _ c.if-not-spot.true) c.if-spot.true)) c.put_one.ensures

pub returns-then-not-spot : goal.returns-then-not-spot
returns-then-not-spot c =
    puts-as (sym (spot-none c.args.m.now.rec.now c.args.m.now.steps.now c.args.m.now.event c.args.spot.condition (Laws.not-is-true _ c.if-not-spot.true) c.if-spot.false)) (puts_none _ _ _)

pub put_due-next-requires : goal.put_due-next-requires
put_due-next-requires c =
    let g = Laws.not-is-false _ c.if-not-spot.false in
    (c.requires.0, c.requires.1 g, due-room c.args.m.now.rec.now c.args.m.now.steps.now c.args.m.now.event c.args.spot.condition c.args.spot.read g c.requires.2)

pub put_one-requires-then-spot-2 : goal.put_one-requires-then-spot-2
put_one-requires-then-spot-2 c =
    (c.args.m.now.readable.event, c.requires.0, room-behind c.put_due-next.ensures (room_as (spot-both c.args.m.now.rec.now c.args.m.now.steps.now c.args.m.now.event c.args.spot.condition (Laws.not-is-false _ c.if-not-spot.false) c.if-spot-2.true) c.requires.2))

pub returns-then-spot-2 : goal.returns-then-spot-2
returns-then-spot-2 c =
    puts-as (sym (spot-both c.args.m.now.rec.now c.args.m.now.steps.now c.args.m.now.event c.args.spot.condition (Laws.not-is-false _ c.if-not-spot.false) c.if-spot-2.true)) (puts-after c.put_due-next.ensures c.put_one-then-spot-2.ensures)

pub returns : goal.returns
returns c =
    puts-as (sym (spot-guard c.args.m.now.rec.now c.args.m.now.steps.now c.args.m.now.event c.args.spot.condition (Laws.not-is-false _ c.if-not-spot.false) c.if-spot-2.false)) c.put_due-next.ensures
