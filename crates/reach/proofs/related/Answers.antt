-- `reach::related` meets its contract: the bit that it tests is that of `related-is`.
use Rattle.reach.proofs.Raising.{related-is}
use Rattle.reach.proofs.related.Goals as goal

pub returns : goal.returns
returns c = related-is _ c.args.e c.args.f c.requires.1 c.requires.2
