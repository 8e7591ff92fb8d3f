-- `digits::number_from` meets its contract. The loop's invariant, `Reading`: the bytes from the position on are digits of
-- this value, below ten to their count, and what stands behind them has the entry `stop`. A zero is a number alone, and
-- other digits are one since the first of them is not 0; without a first digit nothing is promised.
use Prim.Native.Nat.{◌-◌, ◌≤◌}
use Rattle.digits.proofs.Digits.{Reading}
use Rattle.digits.proofs.number_from.Given as goal

abbrev pub invariant-loop-stop : goal.invariant-loop-stop
invariant-loop-stop l = (l.most ≤ 18) × Reading l.most l.s l.at l.end l.value l.stop

abbrev pub decreases-loop-stop : goal.decreases-loop-stop
decreases-loop-stop l = l.most - (l.end - l.at)
