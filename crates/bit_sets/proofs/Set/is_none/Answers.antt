-- `bit_sets::Set::is_none` meets its contract: two words that are 0 have no bit.
use Rattle.bit_sets.proofs.Laws.{none-says}
use Rattle.bit_sets.proofs.Set.is_none.Goals as goal

pub returns : goal.returns
returns c = none-says _
