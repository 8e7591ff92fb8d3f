-- `net_reader::arc_line_at` meets its contract: the numbers that were read, each with the comma or the ending behind it, are
-- the line, put together from its end; behind the second stands the ending or, where the letter may have a weight, a comma and
-- the third. Where one is missing, no line is told.
use Prim.Native.Nat.{◌<◌}
use mathlib.Core.Path.{◌≡◌, refl}
use mathlib.Core.Logic.{inl, inr}
use native.Mathlib.Omega.{arith}
use borrow.Author.Tests.{eqb-true, leb-false}
use Rattle.lists.specs.Laws.{or-false, not-is-false}
use Rattle.plain_lines.proofs.Plain.{last-field, more-fields, plain-line, returns-on, Parted, parted-by, ended_by}
use Rattle.net_reader.proofs.Plain.{passes}
use Rattle.net_reader.proofs.arc_line_at.Goals as goal
use Rattle.net_reader.proofs.arc_line_at.Goals.{Else-x-ne-COMMA, Else-y-letter}

pub overflow_add-at : goal.overflow_add-at
overflow_add-at c = omega (arith, c.requires.begins.within)

pub number_from-x-requires : goal.number_from-x-requires
number_from-x-requires c = (omega arith, omega arith, c.requires.ahead)

-- a comma stands behind the first number
first : (c : Else-x-ne-COMMA) → Parted c.number_from-x.ensures.number
first c = parted-by c.number_from-x.ensures.number c.if-x-ne-COMMA.false

pub overflow_add-x : goal.overflow_add-x
overflow_add-x c = omega (arith, (first (goal.at.overflow_add-x c).Else-x-ne-COMMA).comma.within)

pub number_from-y-requires : goal.number_from-y-requires
number_from-y-requires c = (omega arith, omega arith, (first (goal.at.number_from-y-requires c).Else-x-ne-COMMA).ahead)

pub past_ending-next-requires : goal.past_ending-next-requires
past_ending-next-requires c = let n = c.number_from-y.ensures in (returns-on n.number, n.within)

pub returns-then-next-y : goal.returns-then-next-y
returns-then-next-y c = let f = first (goal.at.returns-then-next-y c).Else-x-ne-COMMA in let l = c.requires in
    let e = ended_by c.number_from-y.ensures.number c.past_ending-next.ensures c.if-next-y.true in record {
      on = omega (arith, f.field.start, e.field.start, passes _ _ _ _ c.past_ending-next.ensures c.if-next-y.true);
      within = e.within;
      line = inl (plain-line l.begins l.comma (more-fields f.field.start f.field.field f.comma (last-field e.field.start e.field.field e.ending)), refl);
    }

-- a comma stands behind the second, and the letter may have a weight
tests : (c : Else-y-letter) → let y = c.number_from-y.result in (y.stop ≡ 10) × (c.args.letter < 17)
tests c = let z = or-false _ _ c.if-y-letter.false in (eqb-true _ 10 (not-is-false _ z.0), leb-false 17 _ z.1)

second : (c : Else-y-letter) → Parted c.number_from-y.ensures.number
second c = parted-by c.number_from-y.ensures.number (tests c).0

pub overflow_add-y : goal.overflow_add-y
overflow_add-y c = omega (arith, (second (goal.at.overflow_add-y c).Else-y-letter).comma.within)

pub number_from-z-requires : goal.number_from-z-requires
number_from-z-requires c = (omega arith, omega arith, (second (goal.at.number_from-z-requires c).Else-y-letter).ahead)

pub past_ending-next-requires-2 : goal.past_ending-next-requires-2
past_ending-next-requires-2 c = let n = c.number_from-z.ensures in (returns-on n.number, n.within)

pub returns : goal.returns
returns c = let s = second (goal.at.returns c).Else-y-letter in
    let f = first (goal.at.returns c).Else-x-ne-COMMA in let l = c.requires in
    let e = ended_by c.number_from-z.ensures.number c.past_ending-next-2.ensures c.if-next-z.false in record {
      on = omega (arith, f.field.start, s.field.start, e.field.start, passes _ _ _ _ c.past_ending-next-2.ensures c.if-next-z.false);
      within = e.within;
      line = inr (plain-line l.begins l.comma (more-fields f.field.start f.field.field f.comma (more-fields s.field.start s.field.field s.comma (last-field e.field.start e.field.field e.ending))), (tests (goal.at.returns c).Else-y-letter).1);
    }
