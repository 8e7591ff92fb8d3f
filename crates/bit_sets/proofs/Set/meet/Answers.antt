-- `bit_sets::Set::meet` meets its contract: bit for bit a & b is the lower of the two, and `both` carries that from the
-- words to the set.
use mathlib.Core.Path.{refl}
use Rattle.bit_sets.proofs.Laws.{has-and}
use Rattle.bit_sets.proofs.Set.meet.Goals as goal

pub returns : goal.returns
returns c = has-and _ _ _ refl refl
