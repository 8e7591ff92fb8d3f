-- `reach::pick` meets its contract: what the set and the events done have in common is in the set, and an empty set
-- has no number.
use Rattle.reach.proofs.Laws.{picked}
use Rattle.reach.proofs.pick.Goals as goal

pub returns-then-is_none : goal.returns-then-is_none
returns-then-is_none c = λ f l. c.is_none.ensures c.if-is_none.true f

pub returns-in-Some : goal.returns-in-Some
returns-in-Some c = picked _ _ _ _ c.meet.ensures c.in-Some.ensures
