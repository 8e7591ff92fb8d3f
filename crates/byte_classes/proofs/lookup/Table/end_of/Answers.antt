use mathlib.Core.Path.{◌≡◌, sym, ◌∙◌}
use native.Mathlib.Omega.{arith}
use lib.ListN.{length}
use borrow.Author.Tests.{eq-eqb, ne_eqb}
use Rattle.byte_entries.proofs.Scans.{before_on, before_here, before-end}
use Rattle.byte_classes.proofs.lookup.Table.end_of.Goals as goal

pub returns-then-entry_of-entry : goal.returns-then-entry_of-entry
returns-then-entry_of-entry c =
    (before_here _ c.args.s.now _ (omega arith) (rw (← c.entry_of.ensures) (eq-eqb _ _ c.if-entry_of-entry.true)) ∙ c.loop-i.invariant, omega arith)

pub loop-i-preserved : goal.loop-i-preserved
loop-i-preserved c =
    before_on _ c.args.s.now _ (omega arith) (rw (← c.entry_of.ensures) (ne_eqb _ _ c.if-entry_of-entry.false)) ∙ c.loop-i.invariant

pub returns : goal.returns
returns c =
    let s = c.args.s.now in
    let at_end : c.loop-i.i ≡ length s = omega arith in
    (sym at_end ∙ before-end _ s _ c.loop-i-test.false ∙ c.loop-i.invariant, omega arith)
