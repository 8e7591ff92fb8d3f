-- `fields::digit_in` meets its contract: `digit_by` asks as the code does whether the entry is below 10, and what is
-- below 10 is at most 9.
use mathlib.Core.Path.{sym, ◌∙◌}
use native.Mathlib.Omega.{arith}
use borrow.Author.Tests.{lt-ltb, le-ltb}
use Rattle.byte_entries.specs.Entries.{digit_by}
use Rattle.fields.proofs.digit_in.Goals as goal

pub returns-then-e-lt10 : goal.returns-then-e-lt10
unfolding digit_by
returns-then-e-lt10 c = (c.from.ensures ∙ sym (rw (lt-ltb _ 10 c.if-e-lt10.true)), omega arith)

pub returns-else-e-lt10 : goal.returns-else-e-lt10
unfolding digit_by
returns-else-e-lt10 c = (sym (rw (le-ltb _ 10 c.if-e-lt10.false)), omega arith)
