-- `demands::record_checked` meets its contract: what the call promises of its numbers and its table is exact, by
-- `checks-exactly`.
use Rattle.demands.proofs.Exactly.{checks-exactly}
use Rattle.demands.proofs.record_checked.Goals as goal

pub returns : goal.returns
returns c = checks-exactly _ _ _ c.pti_check.ensures
