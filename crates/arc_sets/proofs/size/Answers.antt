-- `arc_sets::size` meets its contract: the ones of a word are counted bit by bit, as `sum_of` does (`size_is`), and a
-- word has 64 bits.
use mathlib.Core.Path.{refl}
use native.Mathlib.Omega.{arith}
use Rattle.arc_sets.proofs.Making.{size_is}
use Rattle.arc_sets.proofs.size.Goals as goal

pub returns : goal.returns
returns c = size_is c.args.set _ (omega arith) refl
