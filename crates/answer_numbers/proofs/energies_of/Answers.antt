-- `answer_numbers::energies_of` meets its contract: the energies are handed on, and a refusal has its number, its spot and none.
use Rattle.spec.specs.Energy.{as_energy}
use Rattle.answer_numbers.proofs.energies_of.Goals as goal

pub returns-in-Ok : goal.returns-in-Ok
unfolding as_energy
returns-in-Ok c = rw c.in-Ok.is
