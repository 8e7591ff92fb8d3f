-- `bit_sets::Set::first` meets its contract: fewer than 64 trailing zeros of the low word end at a bit that is set; with
-- 64 the low word is 0, and the high word tells in the same way.
use Rattle.std.proofs.Common.{refl}
use Rattle.bit_sets.proofs.Laws.{first-low, first-high, first_none, below-low, below-high}
use Rattle.bit_sets.proofs.Set.first.Goals as goal

pub returns-then-t-lt64 : goal.returns-then-t-lt64
returns-then-t-lt64 c = (first-low _ _ refl c.if-t-lt64.true, below-low _ _ refl c.if-t-lt64.true)

pub returns-then-u-lt64 : goal.returns-then-u-lt64
returns-then-u-lt64 c = (first-high _ _ _ refl c.if-t-lt64.false refl c.if-u-lt64.true, below-high _ _ _ refl c.if-t-lt64.false refl)

pub returns : goal.returns
returns c = (first_none _ _ _ refl c.if-t-lt64.false refl c.if-u-lt64.false, tt)
