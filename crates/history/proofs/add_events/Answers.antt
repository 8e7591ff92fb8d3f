use mathlib.Core.Path.{◌≡◌}
use native.Mathlib.Omega.{arith}
use lib.ListN.{length}
use Rattle.std.proofs.lemmas.List.{take_all}
use Rattle.history.proofs.Adding.{adds_none, adds-next, adds-as}
use Rattle.history.proofs.add_events.Goals as goal

pub loop-i-init : goal.loop-i-init
loop-i-init c = adds_none c.requires.2 c.requires.3

pub loop-i-preserved : goal.loop-i-preserved
loop-i-preserved c = adds-next _ c.loop-i.i c.loop-i-test.true (omega arith) c.loop-i.invariant

pub returns : goal.returns
returns c =
    let e : c.loop-i.i ≡ length c.args.step.now = omega arith in
    adds-as c.loop-i.invariant (take_all c.loop-i.i _ c.loop-i-test.false) (rw e)
