use Prim.Native.Nat.{ℕ, ◌+◌, ◌-◌}
use mathlib.Core.Path.{◌≡◌, sym, ap, ◌∙◌}
use native.Mathlib.Decide.{ℕ_discrete}
use native.Mathlib.Omega.{arith}
use lib.ListN.{get_or}
use Rattle.spec.specs.Text.{is_a}
use Rattle.spec.specs.declared.Class.TheVariants.{LineEnd}
use Rattle.lines.proofs.Lines.{end-entry, no-end-entry}
use Rattle.lines.proofs.ended_to.Goals as goal

pub returns-then-entry_of-eq-LINE_END : goal.returns-then-entry_of-eq-LINE_END
returns-then-entry_of-eq-LINE_END c =
    let i : c.loop-i.i - 1 + 1 ≡ c.loop-i.i = omega arith in
    rw i (record {
      within = omega arith;
      ends = λ p. end-entry _ (sym c.entry_of.ensures ∙ c.if-entry_of-eq-LINE_END.true);
      last = c.loop-i.invariant;
    })

pub loop-i-preserved : goal.loop-i-preserved
loop-i-preserved c = λ k p q. elim (ℕ_discrete k (c.loop-i.i - 1)) [
  | yes e ↦ ap (λ (j : ℕ). is_a LineEnd (get_or c.args.s.now j 0)) e ∙ no-end-entry _ (λ z. c.if-entry_of-eq-LINE_END.false (c.entry_of.ensures ∙ z))
  | no d ↦ c.loop-i.invariant k (omega arith) q
]
