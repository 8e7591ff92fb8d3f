-- `demands::pairs_counted` meets its contract: the number that the call returned is that of the check's answer
-- (`pairs-promised`).
use Rattle.demands.proofs.Swaps.{pairs-promised}
use Rattle.demands.proofs.pairs_counted.Goals as goal

pub returns : goal.returns
returns c = pairs-promised _ _ _ c.pti_check.ensures
