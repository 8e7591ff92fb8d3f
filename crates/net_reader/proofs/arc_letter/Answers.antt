-- `net_reader::arc_letter` meets its contract: where it says yes a comma was seen, and the test that is taken names the
-- letter that it is.
use mathlib.Core.Bool.{false≢true}
use mathlib.Core.Logic.{inl, inr}
use borrow.Author.Tests.{eqb-true}
use Rattle.net_reader.proofs.arc_letter.Goals as goal

pub returns-then-o-ne-COMMA : goal.returns-then-o-ne-COMMA
returns-then-o-ne-COMMA c = λ h. absurd (false≢true h)

pub returns-then-o-eq-LETTER_I : goal.returns-then-o-eq-LETTER_I
returns-then-o-eq-LETTER_I c = λ h. record { letter = inl c.if-o-eq-LETTER_I.true; comma = c.if-o-ne-COMMA.false }

pub returns-then-o-eq-LETTER_O : goal.returns-then-o-eq-LETTER_O
returns-then-o-eq-LETTER_O c = λ h. record { letter = inr (inl c.if-o-eq-LETTER_O.true); comma = c.if-o-ne-COMMA.false }

pub returns-then-o-eq-LETTER_H : goal.returns-then-o-eq-LETTER_H
returns-then-o-eq-LETTER_H c = λ h. record { letter = inr (inr (inl c.if-o-eq-LETTER_H.true)); comma = c.if-o-ne-COMMA.false }

pub returns : goal.returns
returns c = λ h. record { letter = inr (inr (inr (eqb-true _ _ h))); comma = c.if-o-ne-COMMA.false }
