-- `reach::fulls` meets its contract. The loop's invariant: the set has no event from e on, and an event below e that
-- it lacks has an empty row.
use Rattle.reach.proofs.Laws.{FullsBelow}
use Rattle.reach.proofs.fulls.Given as goal

abbrev pub invariant-loop-e : goal.invariant-loop-e
invariant-loop-e l = FullsBelow l.w l.e l.r
