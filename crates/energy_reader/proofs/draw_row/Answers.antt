-- `energy_reader::draw_row` meets its contract: its tests are those of `row_draw`, in their order, and each says what
-- `row_draw` says there.
use mathlib.Core.Path.{sym, ◌∙◌}
use Rattle.energy_reader.specs.Reads.{row_draw}
use Rattle.energy_reader.proofs.draw_row.Goals as goal

pub returns-then-is_one : goal.returns-then-is_one
unfolding row_draw
returns-then-is_one c = rw (sym c.is_one.ensures ∙ c.if-is_one.true, ← c.number_in.ensures) c.pulse_in.ensures

pub returns-then-is_two : goal.returns-then-is_two
unfolding row_draw
returns-then-is_two c = rw (sym c.is_one.ensures ∙ c.if-is_one.false, sym c.is_two.ensures ∙ c.if-is_two.true, ← c.number_in-then-is_two.ensures, ← c.number_in-then-is_two-2.ensures) c.load_in.ensures

pub returns : goal.returns
unfolding row_draw
returns c = rw (sym c.is_one.ensures ∙ c.if-is_one.false, sym c.is_two.ensures ∙ c.if-is_two.false) tt
