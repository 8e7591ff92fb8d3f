-- `arc_rules::arcs_wrong` meets its contract. The loop's invariant: `wrong`, or a wrong place from p on, is whether
-- some place is wrong.
use Prim.Native.Nat.{◌-◌}
use mathlib.Core.Path.{◌≡◌}
use mathlib.Core.Bool.{◌||◌}
use Rattle.spec.specs.Lists.{any, from}
use Rattle.columns.specs.Columns.{column}
use Rattle.arc_rules.specs.Tests.{arc_wrong, any_arc_wrong}
use Rattle.arc_rules.proofs.arcs_wrong.Given as goal

abbrev pub invariant-loop-p : goal.invariant-loop-p
invariant-loop-p l = ((l.wrong || any (arc_wrong l.counts l.e (column l.at 1024 l.arcs) l.t) (from l.p (l.end - l.p))) ≡ any_arc_wrong l.counts l.e (column l.at 1024 l.arcs) l.t l.end)
