use mathlib.Core.Path.{◌≡◌, refl}
use native.Mathlib.Omega.{arith}
use Rattle.arc_sets.proofs.Making.{row-none, row_next}
use Rattle.arc_sets.proofs.set_of.Goals as goal
use Rattle.arc_sets.proofs.set_of.Goals.{then-arcs-row-gt0, else-arcs-row-gt0}

pub loop-p-init : goal.loop-p-init
loop-p-init c = row-none

pub loop-p-preserved : goal.loop-p-preserved
loop-p-preserved c = elim c.if-arcs-row-gt0.branch [
  | then-arcs-row-gt0 w ↦ rw w.set-is (row_next c.loop-p.invariant (omega arith) (λ h. refl, λ h. absurd (omega (arith, w.if-arcs-row-gt0.true))))
  | else-arcs-row-gt0 w ↦ rw w.set-is (row_next c.loop-p.invariant (omega arith) (λ h. absurd (omega (arith, w.if-arcs-row-gt0.false)), λ h. refl))
]

pub returns : goal.returns
returns c = let e : c.loop-p.p ≡ c.args.m = omega arith in rw (← e) c.loop-p.invariant
