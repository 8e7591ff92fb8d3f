-- `lines::line_at` meets its contract: what stands up to its line end is the line where that does not end it, where nothing
-- stands in front of it, or a byte that is no return; else the line is one byte shorter (`return-line`).
use Prim.Native.Nat.{◌<◌}
use mathlib.Core.Path.{◌≡◌, sym, ◌∙◌}
use mathlib.Core.Logic.{⊎_elim}
use mathlib.Core.Bool.{true, not}
use native.Mathlib.Omega.{arith}
use lib.Dec.{leb}
use borrow.Author.Tests.{leb-true, leb-false, not-true, not-false}
use Rattle.lists.specs.Laws.{or-true, or-false}
use Rattle.lines.proofs.Lines.{unended-line, empty-line, ten-line, return-line, return-entry, no-return-entry}
use Rattle.lines.proofs.line_at.Goals as goal
use Rattle.lines.proofs.line_at.Goals.{Else-raw-end}

pub raw_line_at-raw-requires : goal.raw_line_at-raw-requires
raw_line_at-raw-requires c = c.requires

pub returns-then-raw-end : goal.returns-then-raw-end
returns-then-raw-end c = let h = c.raw_line_at-raw.ensures in let r = c.raw_line_at-raw.result in ⊎_elim (λ t. unended-line h c.requires (not-true _ t)) (λ t. empty-line h c.requires (leb-true _ _ t)) (or-true (not r.ended) (leb r.end c.args.at) c.if-raw-end.true)

-- a line end ends the line, and a byte stands in front of it
stands : (c : Else-raw-end) → let r = c.raw_line_at-raw.result in (r.ended ≡ true) × (c.args.at < r.end)
stands c =
    let r = c.raw_line_at-raw.result in
    let z = or-false (not r.ended) (leb r.end c.args.at) c.if-raw-end.false in
    (not-false r.ended z.0, leb-false _ _ z.1)

pub overflow_sub-end : goal.overflow_sub-end
overflow_sub-end c = omega (arith, (stands (goal.at.overflow_sub-end c).Else-raw-end).1)

pub bounds-s-end : goal.bounds-s-end
bounds-s-end c = omega (arith, (stands (goal.at.bounds-s-end c).Else-raw-end).1, c.raw_line_at-raw.ensures.end)

pub returns-then-entry_of-ne-RETURN : goal.returns-then-entry_of-ne-RETURN
returns-then-entry_of-ne-RETURN c = ten-line c.raw_line_at-raw.ensures c.requires (stands (goal.at.returns-then-entry_of-ne-RETURN c).Else-raw-end).0 (stands (goal.at.returns-then-entry_of-ne-RETURN c).Else-raw-end).1
    (no-return-entry _ (λ z. c.if-entry_of-ne-RETURN.true (c.entry_of.ensures ∙ z)))

pub overflow_sub-result : goal.overflow_sub-result
overflow_sub-result c = omega (arith, (stands (goal.at.overflow_sub-result c).Else-raw-end).1)

pub returns : goal.returns
returns c = return-line c.raw_line_at-raw.ensures c.requires (stands (goal.at.returns c).Else-raw-end).0 (stands (goal.at.returns c).Else-raw-end).1
    (return-entry _ (sym c.entry_of.ensures ∙ c.if-entry_of-ne-RETURN.false))
