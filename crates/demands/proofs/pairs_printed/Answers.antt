-- `demands::pairs_printed` meets its contract: what the call left at the start of its buffer is what the program prints
-- (`print-promised`).
use Rattle.demands.proofs.Swaps.{print-promised}
use Rattle.demands.proofs.pairs_printed.Goals as goal

pub returns : goal.returns
returns c = print-promised _ _ c.pti_program.ensures
