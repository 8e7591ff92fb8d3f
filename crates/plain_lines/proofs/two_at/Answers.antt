-- `plain_lines::two_at` meets its contract: the numbers that were read, each with the comma or the ending behind it, are the
-- line, put together from its end (`last-field`, `more-fields`, `plain-line`). Where one is missing, the position stays.
use native.Mathlib.Omega.{arith}
use Rattle.plain_lines.proofs.Plain.{last-field, more-fields, plain-line, returns-on, Parted, parted-by, ended_by, stays}
use Rattle.plain_lines.proofs.two_at.Goals as goal
use Rattle.plain_lines.proofs.two_at.Goals.{Else-x-ne-COMMA}

pub overflow_add-at : goal.overflow_add-at
overflow_add-at c = omega (arith, c.requires.2.begins.within)

pub number_from-x-requires : goal.number_from-x-requires
number_from-x-requires c = (c.requires.0, c.requires.1, c.requires.2.ahead)

pub returns-then-x-ne-COMMA : goal.returns-then-x-ne-COMMA
returns-then-x-ne-COMMA c = stays c.requires.2.begins.within

-- a comma stands behind the first number
number : (c : Else-x-ne-COMMA) → Parted c.number_from-x.ensures.number
number c = parted-by c.number_from-x.ensures.number c.if-x-ne-COMMA.false

pub overflow_add-x : goal.overflow_add-x
overflow_add-x c = omega (arith, (number (goal.at.overflow_add-x c).Else-x-ne-COMMA).comma.within)

pub number_from-y-requires : goal.number_from-y-requires
number_from-y-requires c = (c.requires.0, c.requires.1, (number (goal.at.number_from-y-requires c).Else-x-ne-COMMA).ahead)

pub past_ending-next-requires : goal.past_ending-next-requires
past_ending-next-requires c = let n = c.number_from-y.ensures in (returns-on n.number, n.within)

pub returns-then-next-y : goal.returns-then-next-y
returns-then-next-y c = stays c.requires.2.begins.within

pub returns : goal.returns
returns c = let l = c.requires.2 in let n = number (goal.at.returns c).Else-x-ne-COMMA in
    let e = ended_by c.number_from-y.ensures.number c.past_ending-next.ensures c.if-next-y.false in record {
      within = e.within;
      line = λ h. plain-line l.begins l.comma (more-fields n.field.start n.field.field n.comma (last-field e.field.start e.field.field e.ending));
    }
