-- `reach::search` meets its contract. The loop's invariant: v, what is found, stands between the pairs of e and the
-- closed order, and holds all behind x, what was followed. Each turn follows one more value of one event; when none is
-- left, v is closed under one more pair, and the closed order is the least such.
use Rattle.reach.specs.Rows.{Sub}
use Rattle.reach.proofs.Laws.{Searching, left-of}
use Rattle.reach.proofs.search.Given as goal

abbrev pub invariant-loop-t : goal.invariant-loop-t
invariant-loop-t l = Sub l.v × Sub l.x × Searching l.w l.e l.full l.done l.v l.x

abbrev pub decreases-loop-t : goal.decreases-loop-t
decreases-loop-t l = left-of l.x
