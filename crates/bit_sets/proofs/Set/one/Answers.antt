-- `bit_sets::Set::one` meets its contract: a power of 2 has one bit; it stands in the low word below 64, else 64 further
-- down in the high word.
use mathlib.Core.Path.{refl}
use native.Mathlib.Omega.{arith}
use Rattle.bit_sets.proofs.Laws.{one-low, one-high}
use Rattle.bit_sets.proofs.Set.one.Goals as goal

pub returns-then-f-lt64 : goal.returns-then-f-lt64
returns-then-f-lt64 c = one-low _ _ (omega arith) refl refl

pub returns-else-f-lt64 : goal.returns-else-f-lt64
returns-else-f-lt64 c = one-high _ _ (omega arith) (omega arith) refl refl
