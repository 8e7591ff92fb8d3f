-- The events up to the next are added.
use Prim.Native.Nat.{◌+◌}
use lib.ListN.{take}
use Rattle.history.specs.HistoryColumns.{AddedAt}
use Rattle.history.proofs.add_events.Given as goal

abbrev pub invariant-loop-i : goal.invariant-loop-i
invariant-loop-i l = AddedAt l.k (take l.i l.step) l.n l.initial.rec l.initial.steps (l.n + l.i) l.rec l.steps
