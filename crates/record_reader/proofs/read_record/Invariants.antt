-- `record_reader::read_record` meets its contract. The loop's invariant: the lines so far leave a record that the bytes
-- and words hold, and what is left of the text goes on from it; a line that is refused is the answer. There are eight bytes
-- before it for each condition that was entered, so that there are words for its marks. The table, and how far the text is
-- made of ended lines, are found before the loop and stay.
use Prim.Native.Nat.{◌+◌, ◌-◌, ◌*◌, ◌≤◌}
use mathlib.Core.Path.{◌≡◌}
use lib.ListN.{length}
use Rattle.record_reader.proofs.Reading.{Reading}
use Rattle.record_columns.specs.Layout.{condition_words}
use Rattle.record_reader.proofs.read_record.Given as goal

abbrev pub invariant-loop-at : goal.invariant-loop-at
invariant-loop-at l = (l.at ≤ length l.text + 1) × (l.k ≤ l.at + 1) × (condition_words * l.s.conditions ≤ l.at) × (condition_words * l.s.conditions ≤ length l.text) × (length l.rec ≡ length l.initial.rec) × (length l.marks ≡ length l.initial.marks) × Reading l.b l.text l.k l.at l.s l.rec l.marks

abbrev pub decreases-loop-at : goal.decreases-loop-at
decreases-loop-at l = length l.text + 1 - l.at
