-- `fields::fields_of` meets its contract: the fields from behind the letter's comma on are those of the line.
use Rattle.std.proofs.Common.{◌∙◌}
use Rattle.fields.proofs.fields_of.Goals as goal

pub returns : goal.returns
returns c = c.fields_from.ensures ∙ c.letter_at.ensures.fields _
