-- `demands::run_recorded` meets its contract: the bytes that building wrote are a part of its buffer, and the other
-- calls are made on just these, so that their promise is of the record that was built (`run-promised`).
use Rattle.demands.proofs.Demand.{build-within, run-promised}
use Rattle.demands.proofs.run_recorded.Goals as goal

pub returns : goal.returns
returns c =
    run-promised _ _ _ _ _ c.pti_build-build.ensures c.order_of_runs-calls.ensures

pub slice_bounds-order_of_runs-end : goal.slice_bounds-order_of_runs-end
slice_bounds-order_of_runs-end c = build-within _ _ _ c.pti_build-build.ensures
