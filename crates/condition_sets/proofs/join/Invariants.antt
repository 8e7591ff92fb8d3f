-- The first w words of the row are joined.
use Prim.Native.Nat.{◌+◌, ◌*◌}
use lib.Bits.{bit_or}
use lib.ListN.{get_or}
use Rattle.lists.specs.Stretch.{MappedFrom}
use Rattle.condition_sets.proofs.join.Given as goal

abbrev pub invariant-loop-w : goal.invariant-loop-w
invariant-loop-w l = MappedFrom l.initial.watched (8 * l.t) l.w (λ i. bit_or (get_or l.initial.watched (8 * l.t + i) 0) (get_or l.places (8 * l.p + i) 0)) l.watched
