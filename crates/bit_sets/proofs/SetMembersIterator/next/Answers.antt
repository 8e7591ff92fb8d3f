-- `bit_sets::SetMembers::next` meets its contract: a set has fewer numbers without one of its own.
use Rattle.bit_sets.proofs.Laws.{others-stay, fewer-left}
use Rattle.bit_sets.proofs.SetMembersIterator.next.Goals as goal

pub returns-clause-steps : goal.returns-clause-steps
returns-clause-steps c =
    let p = c.in_ok-e.ensures.0 in
    let s = others-stay _ _ _ _ p.1 c.one.ensures c.less-self.ensures in
    (p.0, p.1, s.0, s.1, c.in_ok-e.ensures.1)

pub returns-clause-goes : goal.returns-clause-goes
returns-clause-goes c =
    let p = c.in_ok-e.ensures.0 in
    let h = fewer-left _ _ _ _ p.1 c.one.ensures c.less-self.ensures p.0 in
    record { on = λ f. (tt, tt, h); keeps = tt; rests = λ f. tt }
