-- `record_writer::note_mark` meets its contract: where there are words for marks, the value that is raised is that of
-- the mark's kind in the row of its slot; where there are none, nothing is noted.
use native.Mathlib.Omega.{arith}
use Rattle.record_columns.proofs.Marks.{slot-few}
use Rattle.record_writer.proofs.Noting.{noting, unnoted}
use Rattle.record_writer.proofs.note_mark.Goals as goal

pub returns-then-marks-lt-MARK_WORDS : goal.returns-then-marks-lt-MARK_WORDS
returns-then-marks-lt-MARK_WORDS c = unnoted _ _ (omega arith)

pub mark_row-requires : goal.mark_row-requires
mark_row-requires c = (c.requires.0, omega (arith, c.slot_of.ensures, slot-few c.args.x))

pub raise-requires : goal.raise-requires
raise-requires c = (omega (arith, c.requires.0, c.mark_row.ensures, c.slot_of.ensures, slot-few c.args.x), c.requires.1, c.requires.2 _)

pub returns : goal.returns
returns c =
    noting _ (rw (c.mark_row.ensures, c.slot_of.ensures, c.is_after.ensures) at c.raise.ensures)
