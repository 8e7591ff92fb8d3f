-- The sizes of the events up to the next are added up.
use Prim.Native.Nat.{◌*◌, ◌≤◌}
use mathlib.Core.Path.{◌≡◌}
use lib.ListN.{take}
use Rattle.spec.specs.Lists.{sum_of}
use Rattle.run_counts.specs.Tally.{size_of}
use Rattle.run_counts.proofs.sizes_all.Given as goal

abbrev pub invariant-loop-t : goal.invariant-loop-t
invariant-loop-t l = (l.r ≤ 512 * l.t-index) × (l.r ≡ sum_of (size_of l.sets l.at) (take l.t-index l.step))
