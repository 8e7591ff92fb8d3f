-- `bit_sets::Set::union` meets its contract: bit for bit a | b is the higher of the two, and `both` carries that from the
-- words to the set.
use mathlib.Core.Path.{refl}
use Rattle.bit_sets.proofs.Laws.{has-or}
use Rattle.bit_sets.proofs.Set.union.Goals as goal

pub returns : goal.returns
returns c = has-or _ _ _ refl refl
