-- `held_conditions::Moment::held` meets its contract: a condition that no event produced, or one of an earlier step, held if it
-- is left; any other did not.
use Rattle.held_conditions.proofs.Reading.{held-initial, held-earlier, held-later}
use Rattle.held_conditions.proofs.Moment.held.Goals as goal

pub returns-then-producer : goal.returns-then-producer
returns-then-producer c =
    held-initial c.args.self.now.rec.now c.args.self.now.steps.now c.args.p c.args.self.now.event c.args.c c.if-producer.true c.left.ensures

pub returns-then-earlier : goal.returns-then-earlier
returns-then-earlier c =
    held-earlier c.args.self.now.rec.now c.args.self.now.steps.now c.args.p c.args.self.now.event c.args.c c.earlier.ensures c.if-earlier.true c.left-then-earlier.ensures

pub returns : goal.returns
returns c =
    held-later c.args.self.now.rec.now c.args.self.now.steps.now c.args.p c.args.self.now.event c.args.c c.if-producer.false c.earlier.ensures c.if-earlier.false
