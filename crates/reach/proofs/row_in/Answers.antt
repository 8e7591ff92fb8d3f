-- `reach::row_in` meets its contract: the four words that it loads are those that `row_of` names.
use mathlib.Core.Path.{refl}
use Rattle.reach.specs.Rows.{row_of}
use Rattle.reach.proofs.row_in.Goals as goal

pub returns : goal.returns
unfolding row_of
returns c = refl
