use Prim.Native.Nat.{◌+◌, ◌*◌}
use mathlib.Core.Path.{ap}
use native.Mathlib.Omega.{arith}
use lib.Bits.{bit_or}
use lib.ListN.{get_or}
use Rattle.lists.specs.Stretch.{from-none, from_more, from_end}
use Rattle.condition_sets.proofs.join.Goals as goal

pub loop-w-init : goal.loop-w-init
loop-w-init c = from-none _ _ _

pub loop-w-preserved : goal.loop-w-preserved
loop-w-preserved c = from_more _ (omega arith) (ap (λ x. bit_or x (get_or c.args.places.now (8 * c.args.p + c.loop-w.w) 0)) (c.loop-w.invariant.beyond _ (omega arith))) c.loop-w.invariant

pub returns : goal.returns
returns c = from_end _ (omega arith) c.loop-w.invariant
