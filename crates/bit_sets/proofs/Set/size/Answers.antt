-- `bit_sets::Set::size` meets its contract: the ones of a word are the sum of its bits, and the sum below 128 is parted
-- at 64, one part for a word.
use native.Mathlib.Omega.{arith}
use Rattle.std.proofs.Common.{refl}
use Rattle.bit_sets.proofs.Laws.{size_is}
use Rattle.bit_sets.proofs.Set.size.Goals as goal

pub overflow_add-result : goal.overflow_add-result
overflow_add-result c = omega (arith, (size_is c.args.self _ _ (omega arith) (omega arith) refl refl).1)

pub returns : goal.returns
returns c = size_is c.args.self _ _ (omega arith) (omega arith) refl refl
