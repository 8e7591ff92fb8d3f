-- `energy_reader::read_energy` meets its contract. The loop's invariant: the lines so far leave a capacitor and draws that are
-- held, and what is left of the text goes on from them; with the lines that are left, those so far are the lines of the text.
-- A line that says nothing is the answer. The table, and how far the text is made of ended lines, are found before the loop
-- and stay.
use Prim.Native.Nat.{◌+◌, ◌-◌, ◌≤◌}
use mathlib.Core.Path.{◌≡◌}
use lib.ListN.{length}
use Rattle.energy_reader.proofs.Reading.{Reading}
use Rattle.energy_reader.proofs.read_energy.Given as goal

abbrev pub invariant-loop-at : goal.invariant-loop-at
invariant-loop-at l = (l.at ≤ length l.text + 1) × (l.k ≤ l.at + 1) × (2 ≤ l.k) × (length l.draws ≡ 32) × Reading l.text l.capacitor l.draws l.k l.at

abbrev pub decreases-loop-at : goal.decreases-loop-at
decreases-loop-at l = length l.text + 1 - l.at
