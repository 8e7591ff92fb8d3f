-- `plain_lines::three_at` meets its contract: the fields that were read, each with the comma or the ending behind it, are
-- the line, put together from its end (`last-field`, `more-fields`, `plain-line`). Where one is missing, the position
-- stays.
use native.Mathlib.Omega.{arith}
use Rattle.plain_lines.proofs.Plain.{last-field, more-fields, plain-line, returns-on, Parted, parted-by, ended_by, stays-three}
use Rattle.plain_lines.proofs.three_at.Goals as goal
use Rattle.plain_lines.proofs.three_at.Goals.{Else-x-ne-COMMA, Else-y-ne-COMMA}

pub overflow_add-at : goal.overflow_add-at
overflow_add-at c = omega (arith, c.requires.2.begins.within)

pub number_from-x-requires : goal.number_from-x-requires
number_from-x-requires c = (c.requires.0, c.requires.1, c.requires.2.ahead)

pub returns-then-x-ne-COMMA : goal.returns-then-x-ne-COMMA
returns-then-x-ne-COMMA c = stays-three c.requires.2.begins.within

-- a comma stands behind the number, and behind the second field
number : (c : Else-x-ne-COMMA) → Parted c.number_from-x.ensures.number
number c = parted-by c.number_from-x.ensures.number c.if-x-ne-COMMA.false

second : (c : Else-y-ne-COMMA) → Parted c.field_from-y.ensures.field
second c = parted-by c.field_from-y.ensures.field c.if-y-ne-COMMA.false

pub overflow_add-x : goal.overflow_add-x
overflow_add-x c = omega (arith, (number (goal.at.overflow_add-x c).Else-x-ne-COMMA).comma.within)

pub field_from-y-requires : goal.field_from-y-requires
field_from-y-requires c = (c.requires.0, c.requires.1, (number (goal.at.field_from-y-requires c).Else-x-ne-COMMA).ahead)

pub returns-then-y-ne-COMMA : goal.returns-then-y-ne-COMMA
returns-then-y-ne-COMMA c = stays-three c.requires.2.begins.within

pub overflow_add-y : goal.overflow_add-y
overflow_add-y c = omega (arith, (second (goal.at.overflow_add-y c).Else-y-ne-COMMA).comma.within)

pub field_from-z-requires : goal.field_from-z-requires
field_from-z-requires c = (c.requires.0, c.requires.1, (second (goal.at.field_from-z-requires c).Else-y-ne-COMMA).ahead)

pub past_ending-next-requires : goal.past_ending-next-requires
past_ending-next-requires c = let n = c.field_from-z.ensures in (returns-on n.field, n.within)

pub returns-then-next-z : goal.returns-then-next-z
returns-then-next-z c = stays-three c.requires.2.begins.within

pub returns : goal.returns
returns c = let l = c.requires.2 in let n = number (goal.at.returns c).Else-x-ne-COMMA in let u = second (goal.at.returns c).Else-y-ne-COMMA in
    let e = ended_by c.field_from-z.ensures.field c.past_ending-next.ensures c.if-next-z.false in record {
      read = record {
        within = e.within;
        line = λ h. plain-line l.begins l.comma
            (more-fields n.field.start n.field.field n.comma (more-fields u.field.start u.field.field u.comma (last-field e.field.start e.field.field e.ending)));
      };
      second = λ h. c.field_from-y.ensures.kind;
      third = λ h. c.field_from-z.ensures.kind;
    }
