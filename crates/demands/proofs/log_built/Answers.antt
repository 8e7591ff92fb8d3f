-- `demands::log_built` meets its contract: what the call promises of its numbers and its buffer is exact, by
-- `builds-exactly`.
use Rattle.demands.proofs.Exactly.{builds-exactly}
use Rattle.demands.proofs.log_built.Goals as goal

pub returns : goal.returns
returns c = builds-exactly _ _ _ c.pti_build.ensures
