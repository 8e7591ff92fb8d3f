-- `net_reader::add_at` meets its contract: a plain line, known by the entries of its first two bytes, is added as the
-- definitions add it, and so is any other, which is read as a line and then by its fields; both tell where the next line
-- starts.
use mathlib.Core.Path.{◌≡◌, refl, sym, ◌∙◌}
use Rattle.std.specs.Prelude.{Err}
use native.Mathlib.Omega.{arith}
use lib.Dec.{eqb}
use borrow.Author.Tests.{eqb-true}
use Rattle.spec.specs.Net.{add_place, add_transition}
use Rattle.lists.specs.Laws.{and-true}
use Rattle.plain_lines.proofs.Plain.{letter-entry, opened, lettered, listed}
use Rattle.net_reader.specs.Reads.{ArcLetter}
use Rattle.net_reader.proofs.Plain.{arc-entry, arc-tells, place-line, transition-line, arc-takes, plain-takes}
use Rattle.net_reader.proofs.add_at.Goals as goal
use Rattle.net_reader.proofs.add_at.Goals.{Then-arc_letter, Then-opens_with}

pub open_at-open-requires : goal.open_at-open-requires
open_at-open-requires c = (c.requires.0, c.requires.1.within)

-- an arc's letter and a comma
arc : (c : Then-arc_letter) → ArcLetter c.open_at-open.result
arc c = c.arc_letter.ensures c.if-arc_letter.true

pub arc_line_at-requires : goal.arc_line_at-requires
arc_line_at-requires c = let o = c.open_at-open.ensures in let a = arc (c) in
    listed _ c.args.c c.requires.1 o (arc-tells a) (arc-entry a) a.comma

pub add_letter-requires : goal.add_letter-requires
add_letter-requires c = ((arc (goal.at.add_letter-requires c).Then-arc_letter).letter, c.requires.2)

pub returns-in_err-size : goal.returns-in_err-size
returns-in_err-size c = let o = c.open_at-open.ensures in let a = arc (goal.at.returns-in_err-size c).Then-arc_letter in
    let gone : c.from_residual.result ≡ Err c.in_err-size.field-0.0 = grind arith in
    rw gone (arc-takes _ _ c.in-Some.ensures a.letter
    (opened _ c.args.c c.requires.1 o (arc-tells a)).letter tt (c.in_err-size.ensures _))

pub returns-in-Some : goal.returns-in-Some
returns-in-Some c = let o = c.open_at-open.ensures in let a = arc (goal.at.returns-in-Some c).Then-arc_letter in
    arc-takes _ _ c.in-Some.ensures a.letter
    (opened _ c.args.c c.requires.1 o (arc-tells a)).letter refl (c.in_ok-size.ensures _)

-- a place's letter and a comma
place : (c : Then-opens_with) → let o = c.open_at-open.result in (o.letter ≡ 13) × (o.behind ≡ 10)
place c =
    let o = c.open_at-open.result in
    let z = and-true (eqb o.letter 13) (eqb o.behind 10) (sym c.opens_with.ensures ∙ c.if-opens_with.true) in
    (eqb-true _ _ z.0, eqb-true _ _ z.1)

pub one_at-f-requires : goal.one_at-f-requires
one_at-f-requires c = let o = c.open_at-open.ensures in let p = place (c) in
    (omega arith, omega arith, listed _ c.args.c c.requires.1 o (λ z. omega (arith, p.0)) (letter-entry _ (omega (arith, p.0)) (omega (arith, p.0))) p.1)

pub add_place-requires : goal.add_place-requires
add_place-requires c = c.requires.2

pub returns-in_err-size-2 : goal.returns-in_err-size-2
returns-in_err-size-2 c = let o = c.open_at-open.ensures in let p = place (goal.at.returns-in_err-size-2 c).Then-opens_with in
    let gone : c.from_residual-in_err-size-2.result ≡ Err c.in_err-size-2.field-0.0 = grind arith in
    rw gone (plain-takes _ (add_place _ _) c.one_at-f.ensures c.if-at-f.true
    (λ m l. place-line _ m l (sym (opened _ c.args.c c.requires.1 o (λ z. omega (arith, p.0))).letter ∙ p.0)) tt (c.in_err-size-2.ensures _))

pub returns-then-at-f : goal.returns-then-at-f
returns-then-at-f c = let o = c.open_at-open.ensures in let p = place (goal.at.returns-then-at-f c).Then-opens_with in
    plain-takes _ (add_place _ _) c.one_at-f.ensures c.if-at-f.true
    (λ m l. place-line _ m l (sym (opened _ c.args.c c.requires.1 o (λ z. omega (arith, p.0))).letter ∙ p.0)) refl (c.in_ok-size-2.ensures _)

pub alone_at-next-requires : goal.alone_at-next-requires
alone_at-next-requires c = let o = c.open_at-open.ensures in let t = c.if-open-eq-LETTER_T.true in
    lettered _ c.args.c c.requires.1 o (λ z. omega (arith, t)) (letter-entry _ (omega (arith, t)) (omega (arith, t)))

pub returns-in_err-size-3 : goal.returns-in_err-size-3
returns-in_err-size-3 c = let o = c.open_at-open.ensures in let t = c.if-open-eq-LETTER_T.true in
    let gone : c.from_residual-in_err-size-3.result ≡ Err c.in_err-size-3.field-0.0 = grind arith in
    rw gone (plain-takes _ (add_transition _) (c.alone_at-next.ensures 4) c.if-at-next.true
    (λ m l. transition-line _ m l (sym (opened _ c.args.c c.requires.1 o (λ z. omega (arith, t))).letter ∙ t)) tt (c.in_err-size-3.ensures _))

pub returns-then-at-next : goal.returns-then-at-next
returns-then-at-next c = let o = c.open_at-open.ensures in let t = c.if-open-eq-LETTER_T.true in
    plain-takes _ (add_transition _) (c.alone_at-next.ensures 4) c.if-at-next.true
    (λ m l. transition-line _ m l (sym (opened _ c.args.c c.requires.1 o (λ z. omega (arith, t))).letter ∙ t)) refl (c.in_ok-size-3.ensures _)

pub add_any-requires : goal.add_any-requires
add_any-requires c = (c.requires.0, c.requires.2)
