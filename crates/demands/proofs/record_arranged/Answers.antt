-- `demands::record_arranged` meets its contract: what the call promises of its numbers and its buffer is exact, by
-- `arranges-exactly`.
use Rattle.demands.proofs.Exactly.{arranges-exactly}
use Rattle.demands.proofs.record_arranged.Goals as goal

pub returns : goal.returns
returns c = arranges-exactly _ _ _ c.pti_arrange.ensures
