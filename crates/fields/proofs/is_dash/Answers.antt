-- `fields::is_dash` meets its contract: a dash is a piece of one byte of that class, and the code tests both in that
-- order. A byte is of that class if its entry is the number of the class (`class-read`).
use native.Mathlib.Omega.{arith}
use borrow.Author.Tests.{eq-eqb, ne_eqb}
use Rattle.spec.specs.Text.{is_only, is_dash}
use Rattle.spec.specs.declared.Class.TheVariants.{Dash}
use Rattle.fields.proofs.Pieces.{class-read}
use Rattle.fields.proofs.is_dash.Goals as goal

pub returns-then-p-eq1 : goal.returns-then-p-eq1
unfolding is_dash is_only
returns-then-p-eq1 c =
    rw (eq-eqb _ _ c.if-p-eq1.true)
    (class-read _ c.entry_of.ensures Dash (omega arith))

pub returns-else-p-eq1 : goal.returns-else-p-eq1
unfolding is_dash is_only
returns-else-p-eq1 c = rw (ne_eqb _ _ c.if-p-eq1.false)
