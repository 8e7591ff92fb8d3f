use native.Mathlib.Omega.{arith}
use Rattle.record_writer.specs.Bytes.{condition_bytes}
use Rattle.record_writer.proofs.Joining.{wrote_none, wrote-room, wrote-next, wrote-all}
use Rattle.record_writer.proofs.put_conditions.Goals as goal

pub loop-c-init : goal.loop-c-init
loop-c-init c = wrote_none _ _ _

pub put_condition-next-requires : goal.put_condition-next-requires
put_condition-next-requires c =
    wrote-room (condition_bytes c.args.rec.now) c.loop-c.c c.args.n c.loop-c.invariant (omega arith) c.requires.2

pub loop-c-preserved : goal.loop-c-preserved
loop-c-preserved c = wrote-next (condition_bytes c.args.rec.now) c.loop-c.c c.loop-c.invariant c.put_condition-next.ensures

pub returns : goal.returns
returns c = wrote-all _ (omega arith) c.loop-c.invariant
