-- `net_reader::add_lines` meets its contract. The loop's invariant: the lines so far leave a net that the arrays hold,
-- and what is left of the text goes on from it; a line that is refused is the answer.
use Prim.Native.Nat.{◌+◌, ◌-◌, ◌≤◌}
use lib.ListN.{length}
use Rattle.net.specs.NetArrays.{arrays_at, Draft}
use Rattle.spec.specs.Net.{add_line, empty_net}
use Rattle.lines.proofs.ByLines.{Running}
use Rattle.net_reader.proofs.add_lines.Given as goal

abbrev pub invariant-loop-at : goal.invariant-loop-at
invariant-loop-at l =
    (l.at ≤ length l.text + 1) × (l.k ≤ l.at + 1) × Running add_line l.text empty_net l.k l.at (Draft l.s (arrays_at l.tokens l.arcs))

abbrev pub decreases-loop-at : goal.decreases-loop-at
decreases-loop-at l = length l.text + 1 - l.at
