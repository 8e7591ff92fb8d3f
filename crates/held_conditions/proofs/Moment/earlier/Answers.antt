-- `held_conditions::Moment::earlier` meets its contract: without an event nothing is earlier, and of two events the steps are
-- compared, as `earlier_at` says.
use borrow.Author.Tests.{eq-eqb, ne_eqb}
use Rattle.held_conditions.specs.Held.{earlier_at}
use Rattle.held_conditions.proofs.Moment.earlier.Goals as goal

pub returns-then-end-eq-NO_EVENT : goal.returns-then-end-eq-NO_EVENT
unfolding earlier_at
returns-then-end-eq-NO_EVENT c = rw (eq-eqb _ _ c.if-end-eq-NO_EVENT.true)

pub returns : goal.returns
unfolding earlier_at
returns c = rw (ne_eqb _ _ c.if-end-eq-NO_EVENT.false)
