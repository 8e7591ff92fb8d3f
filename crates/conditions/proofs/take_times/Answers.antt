use mathlib.Core.Path.{◌≡◌}
use native.Mathlib.Omega.{arith}
use Rattle.conditions.proofs.Lent.{takes-nothing, ready-after, takes-again, takes-as}
use Rattle.conditions.proofs.take_times.Goals as goal

pub loop-init : goal.loop-init
loop-init c = takes-nothing c.requires.2

pub take_one-requires : goal.take_one-requires
take_one-requires c = (c.requires.0, c.requires.1, ready-after c.requires.2 c.loop.invariant)

pub loop-preserved : goal.loop-preserved
loop-preserved c = takes-again c.loop.counter c.loop.invariant c.take_one.ensures

pub returns : goal.returns
returns c = let e : c.loop.counter ≡ c.args.count = omega arith in takes-as c.loop.invariant (rw e)
