-- `answer_numbers::without_energies` meets its contract: the constant is the float of 0.
use mathlib.Core.Path.{refl}
use lib.Ieee.{of_bits, round}
use Rattle.spec.specs.Rounding.{float_of}
use Rattle.spec.specs.Energy.{as_energy}
use Rattle.answer_numbers.proofs.without_energies.Goals as goal

pub returns : goal.returns
unfolding as_energy float_of of_bits round
returns c = refl
