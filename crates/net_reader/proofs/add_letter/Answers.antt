-- `net_reader::add_letter` meets its contract: an arc of the letter's kind is added (`kind_by`), of which an output has its
-- numbers the other way round.
use mathlib.Core.Path.{◌∙◌}
use borrow.Author.Tests.{eq-eqb, ne_eqb}
use Rattle.spec.specs.declared.ArcKind.TheVariants.{Output}
use Rattle.net_reader.proofs.Plain.{offset-within}
use Rattle.net_reader.specs.Reads.{kind_by, add_letter}
use Rattle.net_reader.proofs.add_letter.Goals as goal

pub arc_kind-kind-requires : goal.arc_kind-kind-requires
arc_kind-kind-requires c = c.requires.0

pub add_arc-requires : goal.add_arc-requires
add_arc-requires c = (c.requires.1, rw c.arc_kind-kind.ensures (offset-within (kind_by _)))

pub returns-then-letter-eq-LETTER_O : goal.returns-then-letter-eq-LETTER_O
unfolding add_letter kind_by
returns-then-letter-eq-LETTER_O c = λ tokens b m d. rw (eq-eqb _ 16 c.if-letter-eq-LETTER_O.true) (c.add_arc.ensures Output tokens (c.arc_kind-kind.ensures ∙ rw (eq-eqb _ 16 c.if-letter-eq-LETTER_O.true)) tt m d)

pub add_arc-requires-2 : goal.add_arc-requires-2
add_arc-requires-2 c = (c.requires.1, rw c.arc_kind-kind.ensures (offset-within (kind_by _)))

pub returns : goal.returns
unfolding add_letter
returns c = λ tokens b m d. rw (ne_eqb _ 16 c.if-letter-eq-LETTER_O.false) (c.add_arc-2.ensures (kind_by _) tokens c.arc_kind-kind.ensures b m d)
