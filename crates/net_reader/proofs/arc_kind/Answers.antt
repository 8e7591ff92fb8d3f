-- `net_reader::arc_kind` meets its contract: R's arcs stand behind the others, whose places follow their entries
-- (`kind-place`).
use mathlib.Core.Path.{sym}
use native.Mathlib.Omega.{arith}
use Rattle.net_reader.specs.Reads.{kind_by}
use Rattle.net_reader.proofs.Plain.{kind-place}
use Rattle.net_reader.proofs.arc_kind.Goals as goal

pub returns-then-letter-eq-LETTER_R : goal.returns-then-letter-eq-LETTER_R
unfolding kind_by
returns-then-letter-eq-LETTER_R c = sym (rw c.if-letter-eq-LETTER_R.true)

pub overflow_sub-place : goal.overflow_sub-place
overflow_sub-place c = (kind-place _ c.requires c.if-letter-eq-LETTER_R.false).0

pub overflow_cast-result : goal.overflow_cast-result
overflow_cast-result c = omega (arith, (kind-place _ c.requires c.if-letter-eq-LETTER_R.false).1)

pub overflow_mul-result : goal.overflow_mul-result
overflow_mul-result c = omega (arith, (kind-place _ c.requires c.if-letter-eq-LETTER_R.false).1)

pub returns : goal.returns
returns c = (kind-place _ c.requires c.if-letter-eq-LETTER_R.false).2
