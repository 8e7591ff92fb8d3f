use Prim.Native.Nat.{ℕ, ◌+◌, ◌*◌}
use mathlib.Core.Path.{◌≡◌, sym, ap, subst, ◌∙◌}
use mathlib.Core.List.{List}
use native.Mathlib.Omega.{arith}
use lib.ListN.{length, get_or}
use borrow.Author.Tests.{eq-eqb, ne_eqb}
use Rattle.spec.specs.declared.Class.TheVariants.{Comma}
use Rattle.byte_entries.proofs.Scans.{before_here, before-end}
use Rattle.fields.specs.Fields.{ReadsPiece}
use Rattle.fields.proofs.Pieces.{class-read, digit-read, value_read}
use Rattle.byte_entries.proofs.Tens.{small}
use Rattle.fields.proofs.Pieces.{walk_start, walk-on, walk_end, piece-stops, piece-over}
use Rattle.fields.proofs.piece_at.Goals as goal
use Rattle.fields.proofs.piece_at.Goals.{then-i-at, else-i-at, After-entry_of-e}

pub loop-i-init : goal.loop-i-init
loop-i-init c = walk_start c.requires.1

abbrev text : After-entry_of-e → List ℕ
text c = c.args.l.now

abbrev byte : After-entry_of-e → ℕ
byte c = get_or (text c) c.loop-i.i 0

pub overflow_sub-i : goal.overflow_sub-i
overflow_sub-i c = c.loop-i.invariant.start

pub overflow_mul-value : goal.overflow_mul-value
overflow_mul-value c =
    omega (arith, small _ _ (c.loop-i.invariant.low (omega arith)) (omega arith))

pub overflow_add-value : goal.overflow_add-value
overflow_add-value c =
    omega (arith, small _ _ (c.loop-i.invariant.low (omega arith)) (omega arith))

pub returns : goal.returns
returns c =
    let o = c.loop-i-test.false in
    let e : c.loop-i.i ≡ length c.args.l.now = omega (arith, c.loop-i.invariant.within) in
    let a = c.args in
    subst (λ (i : ℕ). ReadsPiece a.most a.l.now a.at (record { end = i; number = c.then_some-2.result })) e
    (walk_end c.loop-i.invariant c.then_some-2.ensures (piece-over _ _ o) (before-end _ _ _ o))

pub returns-then-e-eq-COMMA : goal.returns-then-e-eq-COMMA
returns-then-e-eq-COMMA c =
    let l = c.loop-i in
    let e = sym (class-read (byte (goal.at.returns-then-e-eq-COMMA c).After-entry_of-e) c.entry_of-e.ensures Comma (omega arith)) ∙ eq-eqb _ _ c.if-e-eq-COMMA.true in
    walk_end l.invariant c.then_some.ensures (piece-stops (text (goal.at.returns-then-e-eq-COMMA c).After-entry_of-e) _ (omega arith) e) (before_here _ (text (goal.at.returns-then-e-eq-COMMA c).After-entry_of-e) _ (omega arith) e)

pub loop-i-preserved : goal.loop-i-preserved
loop-i-preserved c =
    let w = c.loop-i.invariant in
    let b = byte (goal.at.loop-i-preserved c).After-entry_of-e in
    let t = c.entry_of-e.ensures in
    let n = sym (class-read b t Comma (omega arith)) ∙ ne_eqb _ _ c.if-e-eq-COMMA.false in
    rw (digit-read b t)
    (walk-on w _ (omega arith) n
    (elim c.if-i-at.branch [
      | then-i-at w ↦ λ g. w.value-is ∙ ap (λ (z : ℕ). c.loop-i.value * 10 + z) (value_read b t w.digit_in.ensures.0)
      | else-i-at w ↦ λ g. absurd (omega (arith, w.if-i-at.false))
    ]))
