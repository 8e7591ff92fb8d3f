-- `demands::order_of_runs` meets its contract: the promises of the four calls, on the same net and record, together
-- are those of the third demand (`order-promised`).
use Rattle.demands.proofs.Demand.{order-promised}
use Rattle.demands.proofs.order_of_runs.Goals as goal

pub returns : goal.returns
returns c =
    order-promised _ _ _ _ c.pti_read_net-read.ensures c.pti_check-check.ensures c.pti_arrange-arrange.ensures
    c.pti_replay-replay.ensures
