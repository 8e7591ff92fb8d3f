-- `bit_sets::Set::holds` meets its contract: a word shifted down by a number has as its lowest bit the bit at that number,
-- which is `has`; the word is the one that has the number.
use native.Mathlib.Omega.{arith}
use Rattle.bit_sets.proofs.Laws.{test_low, test-high, test-says}
use Rattle.bit_sets.specs.Sets.{has-most}
use Rattle.bit_sets.proofs.Set.holds.Goals as goal

pub returns-then-f-lt64 : goal.returns-then-f-lt64
returns-then-f-lt64 c = test-says _ _ (test_low _ _ (omega arith)) (has-most _ _)

pub returns-else-f-lt64 : goal.returns-else-f-lt64
returns-else-f-lt64 c = test-says _ _ (test-high _ _ (omega arith)) (has-most _ _)
