-- `refused_lines::find_line` meets its contract. The loop's invariant: the line sought is the one in front of which
-- `left` line ends stand from `at` on (`Running`). Without one left it is the line here, and only then its ending is taken
-- off; behind the text there is none.
use Prim.Native.Nat.{◌+◌, ◌-◌}
use lib.ListN.{length}
use Rattle.refused_lines.specs.Shown.{Running}
use Rattle.refused_lines.proofs.find_line.Given as goal

abbrev pub invariant-loop-at : goal.invariant-loop-at
invariant-loop-at l = Running l.text l.line l.left l.at

abbrev pub decreases-loop-at : goal.decreases-loop-at
decreases-loop-at l = length l.text + 1 - l.at
