-- `hold_up::float_of` meets its contract: a whole number up to 2 ^ 53 is a float, and the cast gives it.
use mathlib.Core.Path.{refl}
use lib.Dec.{le→leb}
use lib.Ieee.{in_float, of_int}
use Rattle.spec.specs.Rounding.{float_of}
use Rattle.hold_up.proofs.float_of.Goals as goal

pub int_to_float-result : goal.int_to_float-result
unfolding in_float
int_to_float-result c = le→leb _ _ c.requires

pub returns : goal.returns
unfolding of_int float_of
returns c = refl
