use Rattle.std.proofs.Common.{arith, length-take-le, take_all}
use Rattle.lists.specs.Along.{take_more}
use Rattle.writing.proofs.Laws.{none, after, wrote-length}
use Rattle.byte_table.proofs.put_bytes.Goals as goal

pub loop-b-init : goal.loop-b-init
loop-b-init c = none _ _

pub put_byte-next-requires : goal.put_byte-next-requires
put_byte-next-requires c = let v = c.loop-b.invariant in
    omega (arith, v.next, wrote-length v, length-take-le c.loop-b.b-index c.args.bs.now (omega arith))

pub loop-b-preserved : goal.loop-b-preserved
loop-b-preserved c =
    rw (take_more 0 c.args.bs.now c.loop-b.b-index (omega arith)) (after c.loop-b.invariant c.put_byte-next.ensures)

pub returns : goal.returns
returns c = rw (take_all c.loop-b.b-index c.args.bs.now (omega arith)) at c.loop-b.invariant
