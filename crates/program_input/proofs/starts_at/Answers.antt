-- `program_input::starts_at` meets its contract: a line starts at 0, and behind a line end.
use mathlib.Core.Path.{ap, ◌∙◌}
use native.Mathlib.Omega.{arith}
use lib.Dec.{eqb}
use borrow.Author.Tests.{eq-eqb}
use Prim.Native.Nat.{ℕ}
use Rattle.lines.proofs.Lines.{ten-told}
use Rattle.program_input.proofs.Laws.{first-starts, behind-end}
use Rattle.program_input.proofs.starts_at.Goals as goal

pub returns-then-at-eq0 : goal.returns-then-at-eq0
returns-then-at-eq0 c = eq-eqb _ 0 c.if-at-eq0.true ∙ first-starts _ _ c.if-at-eq0.true

pub overflow_sub-at : goal.overflow_sub-at
overflow_sub-at c = omega (arith, c.if-at-eq0.false)

pub bounds-s-at : goal.bounds-s-at
bounds-s-at c = omega (arith, c.if-at-eq0.false, c.requires)

pub returns-else-at-eq0 : goal.returns-else-at-eq0
returns-else-at-eq0 c = ap (λ (e : ℕ). eqb e 12) c.entry_of.ensures ∙ ten-told _ ∙ behind-end _ _ c.if-at-eq0.false
