-- `bit_sets::Set::less` meets its contract: bit for bit a & (a ^ b) is a without b, and `both` carries that from the words
-- to the set.
use mathlib.Core.Path.{refl}
use Rattle.bit_sets.proofs.Laws.{has-less}
use Rattle.bit_sets.proofs.Set.less.Goals as goal

pub returns : goal.returns
returns c = has-less _ _ _ refl refl
