use Prim.Native.Nat.{◌<◌}
use mathlib.Core.Path.{◌≡◌}
use native.Mathlib.Omega.{arith}
use lib.ListN.{length, take}
use lib.Seq.{get_or-take, length-take-le}
use Rattle.record_writer.specs.Bytes.{event_bytes}
use Rattle.record_writer.proofs.Joining.{wrote_none, wrote-room, wrote-next, wrote-all}
use Rattle.record_writer.proofs.put_events.Goals as goal
use Rattle.record_writer.proofs.put_events.Goals.{Start, In-loop-t}

-- as many events as the walk goes over
size : (c : Start) → length (take c.args.n c.args.rec.now) ≡ c.args.n
size c = length-take-le c.args.n c.args.rec.now (omega (arith, c.requires.0, c.requires.1))

below : (c : In-loop-t) → c.loop-t.t-index < c.args.n
below c = omega (arith, c.loop-t-test.true, length-take-le c.args.n c.args.rec.now (omega (arith, c.requires.0, c.requires.1)))

pub loop-t-init : goal.loop-t-init
loop-t-init c = wrote_none _ _ _

pub put_event-next-requires : goal.put_event-next-requires
put_event-next-requires c =
    let h = below (goal.at.put_event-next-requires c).In-loop-t in
    rw (get_or-take c.args.n c.args.rec.now c.loop-t.t-index 0 h) (wrote-room (event_bytes c.args.rec.now) c.loop-t.t-index c.args.n c.loop-t.invariant h c.requires.2)

pub loop-t-preserved : goal.loop-t-preserved
loop-t-preserved c =
    let h = below (goal.at.loop-t-preserved c).In-loop-t in
    wrote-next (event_bytes c.args.rec.now) c.loop-t.t-index c.loop-t.invariant (rw (get_or-take c.args.n c.args.rec.now c.loop-t.t-index 0 h) at c.put_event-next.ensures)

pub returns : goal.returns
returns c = wrote-all _ (omega (arith, size (goal.at.returns c).Start)) c.loop-t.invariant
