use Prim.Native.Nat.{◌-◌}
use mathlib.Core.Path.{sym, ap, ◌∙◌}
use borrow.Author.Tests.{eqb-true, eqb-false}
use native.Mathlib.Omega.{arith}
use Rattle.energy_reader.specs.Reads.{made_of}
use Rattle.energy_reader.proofs.Reading.{Stores, stored, no_room, capacitor-read, capacitor-no, draw-read, draw-no, line-no, empty-text, other-count, text-read}
use Rattle.energy_reader.proofs.read_energy.Goals as goal
use Rattle.energy_reader.proofs.read_energy.Goals.{Joined-k-lt-DRAWS, then-k-lt-DRAWS, else-k-lt-DRAWS}

pub returns-then-is_empty : goal.returns-then-is_empty
returns-then-is_empty c = empty-text _ _ (omega (arith, eqb-true _ 0 (sym c.is_empty.ensures ∙ c.if-is_empty.true)))

pub capacitor_at-head-requires : goal.capacitor_at-head-requires
capacitor_at-head-requires c = let d = eqb-false _ 0 (sym c.is_empty.ensures ∙ c.if-is_empty.false) in omega arith

pub returns-in_default : goal.returns-in_default
returns-in_default c = line-no _ _ (capacitor-no c.capacitor_at-head.ensures (ap made_of c.in_default.is))

pub loop-at-init : goal.loop-at-init
loop-at-init c =
    let h = c.capacitor_at-head.ensures in
    (omega (arith, h.found.within), omega (arith, h.found.on), omega arith, omega arith, capacitor-read h _ (ap made_of c.in-Some.is))

pub draw_at-line-requires : goal.draw_at-line-requires
draw_at-line-requires c = (omega arith, c.ended_to-ended.ensures)

pub returns-in_default-draw : goal.returns-in_default-draw
returns-in_default-draw c = line-no _ _ (draw-no c.loop-at.invariant.4 c.draw_at-line.ensures (ap made_of c.in_default-draw.is))

pub loop-at-smaller : goal.loop-at-smaller
loop-at-smaller c = let h = c.draw_at-line.ensures in omega (arith, h.found.on, h.found.within)

stores : (c : Joined-k-lt-DRAWS) → let l = c.loop-at in Stores l.draws (l.k - 2) c.in-Some-draw.draw c.if-k-lt-DRAWS.draws
stores c = let l = c.loop-at in
    elim c.if-k-lt-DRAWS.branch [
      | then-k-lt-DRAWS w ↦ rw w.draws-is (stored l.draws (l.k - 2) _ l.invariant.3 w.if-k-lt-DRAWS.true)
      | else-k-lt-DRAWS w ↦ rw w.draws-is (no_room l.draws (l.k - 2) _ l.invariant.3 w.if-k-lt-DRAWS.false)
    ]

pub loop-at-preserved : goal.loop-at-preserved
loop-at-preserved c = let h = c.draw_at-line.ensures in let s = stores (goal.at.loop-at-preserved c).Joined-k-lt-DRAWS in (
  omega (arith, h.found.within),
  omega (arith, h.found.on),
  omega arith,
  s.long,
  draw-read c.loop-at.invariant.4 h (ap made_of c.in-Some-draw.is) s,
)

pub returns-then-k-transitions : goal.returns-then-k-transitions
returns-then-k-transitions c = other-count _ _ c.loop-at.invariant.4 c.loop-at-test.false c.if-k-transitions.true

pub returns : goal.returns
returns c = text-read _ _ c.loop-at.invariant.4 c.loop-at-test.false c.requires c.if-k-transitions.false
