-- `demands::energy_right` meets its contract: the energies that the call returned are those of the definitions, and these are
-- right (`energy-promised`).
use Rattle.demands.proofs.HoldUp.{energy-promised}
use Rattle.demands.proofs.energy_right.Goals as goal

pub returns : goal.returns
returns c = energy-promised _ _ _ c.pti_energy.ensures
