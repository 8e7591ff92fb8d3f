-- `reach::weak` meets its contract: with no strict ones a value is 1 in the set and 0 elsewhere.
use Rattle.reach.proofs.Laws.{weak-is}
use Rattle.reach.proofs.weak.Goals as goal

pub returns : goal.returns
returns c = weak-is _ _ c.none-strict.ensures
