-- `arrangement_reader::read_lines` meets its contract. The loop's invariant: the lines up to a position are taken, and
-- what is left of the text goes on from them; a line that is refused ends the reading.
use Rattle.std.proofs.Common.{◌≡◌, ◌+◌, ◌-◌, ◌≤◌, length}
use Rattle.arrangement_reader.proofs.Reading.{Reading}
use Rattle.arrangement_reader.proofs.read_lines.Given as goal

abbrev pub invariant-loop-at : goal.invariant-loop-at
invariant-loop-at l =
    (l.at ≤ length l.text + 1) × (length l.events ≡ 128) × Reading l.n l.text l.lines l.at l.stands l.lined

abbrev pub decreases-loop-at : goal.decreases-loop-at
decreases-loop-at l = length l.text + 1 - l.at
