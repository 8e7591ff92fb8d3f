-- `reach::absorb` meets its contract: joined sets have the greater value of each event. Behind a strict way all that k
-- reaches is strict, behind a weak one what k has strictly; that is the value joined with the way's.
use Rattle.reach.proofs.Laws.{absorb-is}
use Rattle.reach.proofs.absorb.Goals as goal

pub returns : goal.returns
returns c =
    absorb-is _ _ _ c.behind-more.result c.requires.0 c.requires.1 c.union-path.ensures c.union-strictly.ensures _
    c.behind-more.ensures
