-- `pti::pti_energy` meets its contract: the numbers of the answer are those of what the operation promises.
use mathlib.Core.Path.{ap, ◌∙◌}
use Rattle.spec.specs.Energy.{as_energy}
use Rattle.pti.proofs.pti_energy.Goals as goal

pub returns : goal.returns
returns c = c.energies_of.ensures ∙ ap as_energy c.energy.ensures
