-- `program_input::log_from` meets its contract: where the text ends at the position, or behind a return, no ending stands
-- there; else two bytes can be looked at as far as they are needed (`past-told`).
-- a return is no line end
use mathlib.Core.Path.{◌≡◌, sym, subst, ◌∙◌}
use Prim.Native.Nat.{ℕ, ◌+◌, ◌<◌}
use native.Mathlib.Omega.{arith}
use lib.Dec.{eqb}
use lib.ListN.{length}
use borrow.Author.Tests.{leb-true, leb-false, eqb-true, eq-eqb}
use Rattle.lists.specs.Laws.{and-true}
use Rattle.spec.specs.declared.Class.TheVariants.{Return}
use Rattle.byte_entries.specs.Entries.{code_of, entry_of}
use Rattle.lines.specs.Lines.{PastEnding}
use Rattle.lines.proofs.Lines.{no_bytes, one_byte, past-told, ten-told}
use Rattle.program_input.proofs.log_from.Goals as goal
use Rattle.program_input.proofs.log_from.Goals.{Else-entry-s}

no_end : (b : ℕ) → entry_of b ≡ code_of Return → b ≡ 10 → ⊥
no_end b q t = omega (arith, eqb-true (entry_of b) 12 (ten-told b ∙ eq-eqb b 10 t))

pub returns-then-s-at : goal.returns-then-s-at
returns-then-s-at c = no_bytes c.if-s-at.true

pub bounds-s-at : goal.bounds-s-at
bounds-s-at c = omega (arith, c.if-s-at.false)

pub overflow_add-second : goal.overflow_add-second
overflow_add-second c = omega (arith, c.requires)

pub returns-then-entry-s : goal.returns-then-entry-s
returns-then-entry-s c = let e = c.entry_of-entry in let z = and-true (eqb e.result (code_of Return)) _ c.if-entry-s.true in
    one_byte (leb-true _ _ z.1) (no_end _ (sym e.ensures ∙ eqb-true e.result (code_of Return) z.0))

-- behind a return a byte stands
second : (c : Else-entry-s) → c.entry_of-entry.result ≡ code_of Return → c.args.at + 1 < length c.args.s.now
second c q = leb-false _ _ (rw (eq-eqb c.entry_of-entry.result (code_of Return) q) at c.if-entry-s.false)

pub past_ending-requires : goal.past_ending-requires
past_ending-requires c = (second (goal.at.past_ending-requires c).Else-entry-s, c.requires)

pub returns : goal.returns
returns c = subst (PastEnding _ _) (sym c.past_ending.ensures) (past-told _ _ c.entry_of-entry.ensures (omega (arith, c.if-s-at.false)) (second (goal.at.returns c).Else-entry-s))
