-- `reach::covered` meets its contract: f is followed in any case; the row of an event that is done is in the closed
-- order, so that all behind it is followed with it.
use Rattle.reach.proofs.Laws.{covers_one, covers-all}
use Rattle.reach.proofs.covered.Goals as goal

pub returns-then-holds : goal.returns-then-holds
returns-then-holds c =
    covers-all _ _ _ _ c.one-o.ensures _ (c.holds.ensures.0 c.if-holds.true) c.union.ensures

pub returns : goal.returns
returns c = covers_one _ _ _ _ c.one-o.ensures
