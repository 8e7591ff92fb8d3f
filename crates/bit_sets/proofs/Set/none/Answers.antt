-- `bit_sets::Set::none` meets its contract: words that are 0 have no bit.
use mathlib.Core.Path.{refl}
use Rattle.bit_sets.specs.Sets.{no_words}
use Rattle.bit_sets.proofs.Set.none.Goals as goal

pub returns : goal.returns
returns c = no_words _ refl refl
