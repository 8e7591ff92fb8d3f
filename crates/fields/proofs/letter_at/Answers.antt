-- `fields::letter_at` meets its contract: the bytes up to the first comma are the first piece, the line's letter
-- (`letter-first`), and the pieces behind that comma are its fields (`fields-first`).
use mathlib.Core.Path.{◌∙◌}
use native.Mathlib.Omega.{arith}
use Rattle.spec.specs.declared.Class.TheVariants.{Comma}
use Rattle.byte_entries.proofs.Scans.{first-of-class}
use Rattle.fields.proofs.Laws.{letter-first, fields-first}
use Rattle.fields.proofs.letter_at.Goals as goal

pub end_of-end-requires : goal.end_of-end-requires
end_of-end-requires c = omega arith

pub returns : goal.returns
returns c = let e = first-of-class Comma (omega arith) 0 _ _ c.end_of-end.ensures.0 in record {
  letter = c.letter_of-letter.ensures ∙ letter-first _ _ e;
  fields = fields-first _ _ e;
  next = omega arith;
}
