-- `fields::letter_of` meets its contract: a piece of one byte has the class of that byte, which its entry names
-- (`class-named`), and any other is `Foreign`, as `letter_of` says.
use mathlib.Core.Path.{ap, ◌∙◌}
use borrow.Author.Tests.{eq-eqb, ne_eqb}
use Rattle.line_forms.specs.Rows.{letter_of}
use Rattle.byte_entries.specs.Entries.{class_by}
use Rattle.byte_entries.proofs.Classes.{class-named}
use Rattle.fields.proofs.letter_of.Goals as goal

pub returns-then-p-eq1 : goal.returns-then-p-eq1
unfolding letter_of
returns-then-p-eq1 c =
    rw (eq-eqb _ _ c.if-p-eq1.true)
    (c.class_of.ensures ∙ ap class_by c.entry_of.ensures ∙ class-named _)

pub returns-else-p-eq1 : goal.returns-else-p-eq1
unfolding letter_of
returns-else-p-eq1 c = rw (ne_eqb _ _ c.if-p-eq1.false)
