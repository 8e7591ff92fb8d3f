-- `held_conditions::Moment::left` meets its contract: of another place nothing is left, and of this one what was not consumed
-- in an earlier step, as `left_at` says.
use Rattle.held_conditions.proofs.Reading.{left-of, not_left}
use Rattle.held_conditions.proofs.Moment.left.Goals as goal

pub returns-then-from-p : goal.returns-then-from-p
returns-then-from-p c =
    left-of c.args.self.now.rec.now c.args.self.now.steps.now c.args.p c.args.self.now.event c.args.c c.from.ensures c.if-from-p.true c.earlier.ensures

pub returns : goal.returns
returns c =
    not_left c.args.self.now.rec.now c.args.self.now.steps.now c.args.p c.args.self.now.event c.args.c c.from.ensures c.if-from-p.false
