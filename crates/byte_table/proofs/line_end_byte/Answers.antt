use Rattle.std.proofs.Common.{◌≡◌, sym, ◌∙◌, arith}
use Rattle.byte_table.proofs.Entries.{sought-first, sought-here, sought-on, sought-end}
use Rattle.byte_table.proofs.line_end_byte.Goals as goal

pub loop-b-init : goal.loop-b-init
loop-b-init c = sought-first

pub returns-then-entry_of-eq-LINE_END : goal.returns-then-entry_of-eq-LINE_END
returns-then-entry_of-eq-LINE_END c = sought-here _ (omega arith) (sym c.entry_of.ensures ∙ c.if-entry_of-eq-LINE_END.true) c.loop-b.invariant

pub loop-b-preserved : goal.loop-b-preserved
loop-b-preserved c = sought-on _ (omega arith) (λ e. c.if-entry_of-eq-LINE_END.false (c.entry_of.ensures ∙ e)) c.loop-b.invariant

pub returns : goal.returns
returns c = let e : c.loop-b.b ≡ 256 = omega arith in sym e ∙ sought-end _ (omega arith) c.loop-b.invariant
