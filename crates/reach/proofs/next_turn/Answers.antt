-- `reach::next_turn` meets its contract: the sets picked from are what v has and x has not, among the events with full
-- rows; a strict one goes first, and where both sets are empty nothing is left to follow.
use Rattle.reach.proofs.Laws.{turn-strict, turn-weak, turn-none}
use Rattle.reach.proofs.next_turn.Goals as goal

pub returns-in-Some : goal.returns-in-Some
returns-in-Some c = turn-strict _ _ _ _ _ c.requires.0 c.requires.1 c.less.ensures c.meet-s.ensures _ c.in-Some.ensures

pub returns-in_err-event : goal.returns-in_err-event
returns-in_err-event c =
    rw c.from_residual.ensures
    (turn-none _ _ _ _ _ c.requires.0 c.requires.1 c.less.ensures c.meet-s.ensures _ _ c.less-2.ensures c.meet-p.ensures c.in_default.ensures c.in_err-event.ensures)

pub returns : goal.returns
returns c = turn-weak _ _ _ _ _ c.requires.0 c.requires.1 c.less.ensures c.meet-s.ensures _ _ c.less-2.ensures c.meet-p.ensures _ c.in_ok-event.ensures
