use native.Mathlib.Omega.{arith}
use lib.ListN.{get_or}
use Rattle.record_writer.proofs.Marks.{row-none, row_room, row-consumer, row_next, row-end}
use Rattle.record_writer.proofs.put_row.Goals as goal

pub overflow_cast-t : goal.overflow_cast-t
overflow_cast-t c = omega (arith, c.requires.0)

pub loop-w-init : goal.loop-w-init
loop-w-init c = row-none _ _ _ _ _ _ _ _ _

pub overflow_mul-part : goal.overflow_mul-part
overflow_mul-part c = omega (arith, c.requires.0)

pub overflow_add-part : goal.overflow_add-part
overflow_add-part c = omega (arith, c.requires.0)

pub offset_bounds-watched-t : goal.offset_bounds-watched-t
offset_bounds-watched-t c = omega (arith, c.requires.0)

pub bounds-watched-t : goal.bounds-watched-t
bounds-watched-t c = omega (arith, c.requires.0)

pub put_part-next-requires : goal.put_part-next-requires
put_part-next-requires c = (
  omega arith,
  row-consumer c.args.watched.now c.args.reads.now c.args.m.now.rec.now c.args.m.now.steps.now c.args.m.now.event (get_or c.args.m.now.rec.now c.args.m.now.event 0) c.loop-w.w (omega arith) c.requires.1,
  row_room c.args.watched.now c.args.reads.now c.args.m.now.rec.now c.args.m.now.steps.now c.args.m.now.event (get_or c.args.m.now.rec.now c.args.m.now.event 0) c.loop-w.w (omega arith) c.loop-w.invariant c.requires.2,
)

pub loop-w-preserved : goal.loop-w-preserved
loop-w-preserved c =
    row_next c.args.watched.now c.args.reads.now c.args.m.now.rec.now c.args.m.now.steps.now c.args.m.now.event (get_or c.args.m.now.rec.now c.args.m.now.event 0) c.loop-w.w (omega arith) c.loop-w.invariant c.put_part-next.ensures

pub returns : goal.returns
returns c = row-end _ _ _ _ _ _ (omega arith) c.loop-w.invariant
