-- The conditions up to the next are made.
use Prim.Native.Nat.{◌-◌}
use lib.ListN.{replicate}
use Rattle.conditions.specs.Conditions.{fresh, MadeAt}
use Rattle.conditions.proofs.make_times.Given as goal

abbrev pub invariant-loop-i : goal.invariant-loop-i
invariant-loop-i l = MadeAt (replicate (l.i - l.n) (fresh l.v l.p)) l.n l.initial.rec l.i l.rec
