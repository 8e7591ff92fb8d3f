-- `checking::check` meets its contract: the paper's check is the check within the limits of the bench, which are what
-- `bench` gives.
use Rattle.spec.specs.Checking.{check as check_d}
use Rattle.checking.proofs.check.Goals as goal

pub returns : goal.returns
unfolding check_d
returns c = rw (← c.bench.ensures.0) c.check_within.ensures
