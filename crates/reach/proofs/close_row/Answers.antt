-- `reach::close_row` meets its contract: the search finds the row in the closed order, what lies beyond the n events
-- is cut off, and no other row is touched.
use Rattle.reach.proofs.Laws.{row-closed}
use Rattle.reach.proofs.close_row.Goals as goal

pub search-r-requires : goal.search-r-requires
search-r-requires c = (c.requires.0, c.requires.2)

pub within-requires : goal.within-requires
within-requires c = c.search-r.ensures.sub

pub put_row-requires : goal.put_row-requires
put_row-requires c = (c.requires.0, c.requires.1)

pub returns : goal.returns
returns c =
    row-closed _ _ _ _ _ _ c.search-r.result c.within.result c.requires.2 c.search-r.ensures c.within.ensures
    c.put_row.ensures
