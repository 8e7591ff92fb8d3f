-- `net_reader::finish` meets its contract. The loop's invariant: the lowest transition from t on that lacks an input or
-- an output is the lowest of all.
use Prim.Native.Nat.{◌-◌}
use mathlib.Core.Path.{◌≡◌}
use Rattle.spec.specs.Lists.{from, first, lowest}
use Rattle.columns.specs.Columns.{column}
use Rattle.net_reader.specs.Reads.{lacks_of}
use Rattle.net_reader.proofs.finish.Given as goal

abbrev pub invariant-loop-t : goal.invariant-loop-t
invariant-loop-t l = first (lacks_of (column 0 1024 l.arcs) (column 1024 1024 l.arcs) l.size.places) (from l.t (l.t-end - l.t)) ≡ lowest (lacks_of (column 0 1024 l.arcs) (column 1024 1024 l.arcs) l.size.places) l.t-end
