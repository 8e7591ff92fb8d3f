use Rattle.std.proofs.Common.{◌∙◌}
use Rattle.streams.proofs.Joined.{Consumes-more}
use Rattle.streams.proofs.read_all.Goals as goal

pub loop-read-preserved : goal.loop-read-preserved
loop-read-preserved g c = record {
  same = c.read_some.ensures.same ∙ c.loop-read.invariant.same;
  within = c.in_ok-more.ensures.fits;
  took = Consumes-more _ _ _ c.loop-read.buf _ _ _ c.read_some.ensures.front c.loop-read.invariant.took c.in_ok-more.ensures.ok;
}
