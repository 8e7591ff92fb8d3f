-- `reach::with_full` meets its contract: a row is empty where its path set is, since its strict set is within it; else
-- e is added, and no other event.
use Rattle.reach.proofs.Laws.{full-not, full-one}
use Rattle.reach.proofs.with_full.Goals as goal

pub returns-then-is_none : goal.returns-then-is_none
returns-then-is_none c = full-not _ _ _ c.requires.1 (c.is_none.ensures c.if-is_none.true)

pub returns : goal.returns
returns c = full-one _ _ _ _ _ c.one.ensures c.union.ensures
