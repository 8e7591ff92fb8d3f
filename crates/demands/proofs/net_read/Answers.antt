-- `demands::net_read` meets its contract: what the call promises of its numbers is exact, by `reads-exactly`.
use Rattle.demands.proofs.Exactly.{reads-exactly}
use Rattle.demands.proofs.net_read.Goals as goal

pub returns : goal.returns
returns c = reads-exactly _ c.pti_read_net.ensures
