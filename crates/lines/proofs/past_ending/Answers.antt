-- `lines::past_ending` meets its contract: each answer is the case of the definition that the entries compared are in.
use mathlib.Core.Path.{sym}
use mathlib.Core.Bool.{and-false}
use native.Mathlib.Omega.{arith}
use borrow.Author.Tests.{eq-eqb, ne_eqb}
use Rattle.lines.specs.Lines.{past_by}
use Rattle.lines.proofs.past_ending.Goals as goal

pub returns-then-entry-eq-LINE_END : goal.returns-then-entry-eq-LINE_END
unfolding past_by
returns-then-entry-eq-LINE_END c = sym (rw (eq-eqb _ _ c.if-entry-eq-LINE_END.true))

pub returns-then-entry-ne-RETURN : goal.returns-then-entry-ne-RETURN
unfolding past_by
returns-then-entry-ne-RETURN c = sym (rw (ne_eqb _ _ c.if-entry-eq-LINE_END.false, ne_eqb _ _ c.if-entry-ne-RETURN.true))

pub overflow_add-at : goal.overflow_add-at
overflow_add-at c = omega (arith, c.requires.1)

pub bounds-s-at : goal.bounds-s-at
bounds-s-at c = c.requires.0 c.if-entry-ne-RETURN.false

pub returns-then-entry_of-ne-LINE_END : goal.returns-then-entry_of-ne-LINE_END
unfolding past_by
returns-then-entry_of-ne-LINE_END c = sym (rw (ne_eqb _ _ c.if-entry-eq-LINE_END.false, ← c.entry_of.ensures, ne_eqb _ _ c.if-entry_of-ne-LINE_END.true, and-false _))

pub overflow_add-result-2 : goal.overflow_add-result-2
overflow_add-result-2 c = omega (arith, c.requires.1)

pub returns : goal.returns
unfolding past_by
returns c = sym (rw (ne_eqb _ _ c.if-entry-eq-LINE_END.false, eq-eqb _ _ c.if-entry-ne-RETURN.false, ← c.entry_of.ensures, eq-eqb _ _ c.if-entry_of-ne-LINE_END.false))
