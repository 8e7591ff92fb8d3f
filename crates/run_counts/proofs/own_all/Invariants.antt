-- What each event makes in the places that both its sets have is added up.
use Prim.Native.Nat.{◌*◌, ◌≤◌}
use mathlib.Core.Path.{◌≡◌}
use lib.ListN.{take}
use Rattle.spec.specs.Lists.{sum_of}
use Rattle.run_counts.specs.Tally.{both_of}
use Rattle.run_counts.proofs.own_all.Given as goal

abbrev pub invariant-loop-id : goal.invariant-loop-id
invariant-loop-id l = (l.r ≤ 512 * l.id-index) × (l.r ≡ sum_of (both_of l.sets) (take l.id-index l.step))
