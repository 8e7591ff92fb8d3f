-- `plain_lines::one_at` meets its contract: the letter, its comma, the number that was read and the ending behind it are
-- the line (`plain-line`). Where the number or the ending is missing, the position stays.
use native.Mathlib.Omega.{arith}
use Rattle.plain_lines.proofs.Plain.{last-field, plain-line, returns-on, ended_by, stays}
use Rattle.plain_lines.proofs.one_at.Goals as goal

pub overflow_add-at : goal.overflow_add-at
overflow_add-at c = omega (arith, c.requires.2.begins.within)

pub number_from-x-requires : goal.number_from-x-requires
number_from-x-requires c = (c.requires.0, c.requires.1, c.requires.2.ahead)

pub past_ending-next-requires : goal.past_ending-next-requires
past_ending-next-requires c = let n = c.number_from-x.ensures in (returns-on n.number, n.within)

pub returns-then-next-x : goal.returns-then-next-x
returns-then-next-x c = stays c.requires.2.begins.within

pub returns : goal.returns
returns c = let l = c.requires.2 in
    let e = ended_by c.number_from-x.ensures.number c.past_ending-next.ensures c.if-next-x.false in record {
      within = e.within;
      line = λ h. plain-line l.begins l.comma (last-field e.field.start e.field.field e.ending);
    }
