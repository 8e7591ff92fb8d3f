-- `bit_sets::Set::last` meets its contract: fewer than 64 leading zeros of the high word stand above a bit that is set;
-- with 64 it is 0, and the low word tells in the same way, or is 0 too.
use native.Mathlib.Omega.{arith}
use Rattle.std.proofs.Common.{refl}
use Rattle.bit_sets.proofs.Laws.{last-high, last-low, last_none}
use Rattle.bit_sets.proofs.Set.last.Goals as goal

pub returns-then-t-lt64 : goal.returns-then-t-lt64
returns-then-t-lt64 c = last-high _ _ (omega arith) refl c.if-t-lt64.true

pub returns-then-u-lt64 : goal.returns-then-u-lt64
returns-then-u-lt64 c = last-low _ _ _ (omega arith) (omega arith) refl c.if-t-lt64.false refl c.if-u-lt64.true

pub returns : goal.returns
returns c = last_none _ _ _ (omega arith) (omega arith) refl c.if-t-lt64.false refl c.if-u-lt64.false
