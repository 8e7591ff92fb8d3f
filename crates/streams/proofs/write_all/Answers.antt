use Rattle.streams.proofs.Joined.{Appends-more}
use Rattle.streams.proofs.write_all.Goals as goal

pub loop-written-preserved : goal.loop-written-preserved
loop-written-preserved g c = record {
  within = c.in_ok-more.ensures.fits;
  gave = Appends-more _ _ _ c.args.buf.now _ _ c.loop-written.invariant.gave c.in_ok-more.ensures.ok;
}
