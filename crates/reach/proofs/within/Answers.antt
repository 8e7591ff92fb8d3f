-- `reach::within` meets its contract: a meet keeps each value in the set and makes it 0 outside.
use Rattle.reach.proofs.Laws.{within-is}
use Rattle.reach.proofs.within.Goals as goal

pub returns : goal.returns
returns c = within-is _ _ _ c.requires c.meet-path.ensures c.meet-strict.ensures
