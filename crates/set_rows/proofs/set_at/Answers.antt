-- `set_rows::set_at` meets its contract: the two words that are read are those of `set_of`.
use mathlib.Core.Path.{refl}
use Rattle.set_rows.specs.Sets.{set_of}
use Rattle.set_rows.proofs.set_at.Goals as goal

pub returns : goal.returns
unfolding set_of
returns c = refl
