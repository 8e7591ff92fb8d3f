-- `fields::field_at` meets its contract: the piece is walked to its end, `field_of` says what it is, and the fields
-- that follow are those from behind its comma on (`fields-here`).
use native.Mathlib.Omega.{arith}
use Rattle.fields.proofs.Laws.{fields-here}
use Rattle.fields.proofs.Pieces.{piece-read}
use Rattle.fields.proofs.field_at.Goals as goal

pub piece_at-piece-requires : goal.piece_at-piece-requires
piece_at-piece-requires c = c.requires

pub slice_bounds-field_of-count : goal.slice_bounds-field_of-count
slice_bounds-field_of-count c = omega (arith, c.piece_at-piece.ensures.end)

pub field_of-field-requires : goal.field_of-field-requires
field_of-field-requires c =
    piece-read c.piece_at-piece.ensures

pub overflow_add-result : goal.overflow_add-result
overflow_add-result c = omega (arith, c.piece_at-piece.ensures.within)

pub returns : goal.returns
returns c = let p = c.piece_at-piece.ensures in record {
  fields = rw c.field_of-field.ensures (fields-here _ _ _ c.requires.1 _ p.end);
  on = omega (arith, p.end);
  next = omega (arith, p.within);
}
