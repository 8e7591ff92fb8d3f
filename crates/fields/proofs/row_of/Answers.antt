-- `fields::row_of` meets its contract: each field is the first of those left, or `Absent` where none is (`first_left`), so that the
-- four are the first four of the line (`row_made`).
use Rattle.std.proofs.Common.{◌∙◌}
use Rattle.fields.proofs.Laws.{first_left, row_made}
use Rattle.fields.proofs.row_of.Goals as goal

pub returns : goal.returns
returns c =
    row_made _ _ c.letter_at-k.ensures.letter (c.fields_from-fields.ensures ∙ c.letter_at-k.ensures.fields _) (first_left _ c.next.ensures.steps c.unwrap_or.ensures) (first_left _ c.next-2.ensures.steps c.unwrap_or-2.ensures)
    (first_left _ c.next-3.ensures.steps c.unwrap_or-3.ensures) (first_left _ c.next-4.ensures.steps c.unwrap_or-4.ensures)
