use native.Mathlib.Omega.{arith}
use lib.Bits.{or_lt}
use Rattle.arc_sets.specs.Walk.{left-all}
use Rattle.record_writer.proofs.Marks.{part_none, part_low, part_room, part-consumer, part-next, part_end}
use Rattle.record_writer.proofs.put_part.Goals as goal

pub loop-i-init : goal.loop-i-init
loop-i-init c =
    (0, omega arith, rw (c.into_iter-i-iterator.ensures.into_iter_gives, c.members-i-items.ensures) (left-all _ (or_lt 64 c.args.part.guards c.args.part.reads (omega arith) (omega arith))), part_none _ _ _ _ _ _ _ _ _)

pub is_set-requires : goal.is_set-requires
is_set-requires c =
    (part_low c.args.part.guards c.args.part.reads c.args.m.now.rec.now c.args.m.now.steps.now c.args.m.now.event c.args.part.first c.requires.0 c.loop-i.invariant.2 c.in-Some.ensures.steps.1 c.in-Some.ensures.steps.0 c.loop-i.invariant.3).0

pub is_set-requires-in-loop-i : goal.is_set-requires-in-loop-i
is_set-requires-in-loop-i c =
    (part_low c.args.part.guards c.args.part.reads c.args.m.now.rec.now c.args.m.now.steps.now c.args.m.now.event c.args.part.first c.requires.0 c.loop-i.invariant.2 c.in-Some.ensures.steps.1 c.in-Some.ensures.steps.0 c.loop-i.invariant.3).0

pub overflow_add-spot : goal.overflow_add-spot
overflow_add-spot c =
    omega (arith, (part_low c.args.part.guards c.args.part.reads c.args.m.now.rec.now c.args.m.now.steps.now c.args.m.now.event c.args.part.first c.requires.0 c.loop-i.invariant.2 c.in-Some.ensures.steps.1 c.in-Some.ensures.steps.0 c.loop-i.invariant.3).1)

pub put_spot-next-requires : goal.put_spot-next-requires
put_spot-next-requires c = (
  (part_low c.args.part.guards c.args.part.reads c.args.m.now.rec.now c.args.m.now.steps.now c.args.m.now.event c.args.part.first c.requires.0 c.loop-i.invariant.2 c.in-Some.ensures.steps.1 c.in-Some.ensures.steps.0 c.loop-i.invariant.3).1,
  part-consumer c.args.part.guards c.args.part.reads c.args.m.now.rec.now c.args.m.now.steps.now c.args.m.now.event c.args.part.first c.requires.0 c.loop-i.invariant.2 c.in-Some.ensures.steps.1 c.in-Some.ensures.steps.0 c.loop-i.invariant.3 c.is_set.ensures c.is_set-in-loop-i.ensures c.requires.1,
  part_room c.args.part.guards c.args.part.reads c.args.m.now.rec.now c.args.m.now.steps.now c.args.m.now.event c.args.part.first c.requires.0 c.loop-i.invariant.2 c.in-Some.ensures.steps.1 c.in-Some.ensures.steps.0 c.loop-i.invariant.3 c.is_set.ensures c.is_set-in-loop-i.ensures c.requires.2,
)

pub loop-i-preserved : goal.loop-i-preserved
loop-i-preserved c =
    rw c.in-Some.ensures.steps.2 (part-next c.args.part.guards c.args.part.reads c.args.m.now.rec.now c.args.m.now.steps.now c.args.m.now.event c.args.part.first c.requires.0 c.loop-i.invariant.2 c.in-Some.ensures.steps.1 c.in-Some.ensures.steps.0 c.loop-i.invariant.3 c.is_set.ensures c.is_set-in-loop-i.ensures c.put_spot-next.ensures)

pub returns : goal.returns
returns c = let v = c.loop-i.invariant in part_end _ _ _ _ _ _ v.2 v.1 c.in-None.ensures.steps.0 v.3
