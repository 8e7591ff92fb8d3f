use Rattle.arrangement_reader.proofs.Finishing.{missing-start, missing-hit, missing-on, missing-end}
use Rattle.arrangement_reader.proofs.finish.Goals as goal

pub loop-e-init : goal.loop-e-init
loop-e-init c = missing-start _ _

pub returns-then-stands-e-eq0 : goal.returns-then-stands-e-eq0
returns-then-stands-e-eq0 c = missing-hit _ _ _ c.loop-e.invariant c.loop-e-test.true _ c.if-stands-e-eq0.true

pub loop-e-preserved : goal.loop-e-preserved
loop-e-preserved c = missing-on _ _ _ c.loop-e.invariant c.loop-e-test.true c.if-stands-e-eq0.false

pub returns : goal.returns
returns c = missing-end _ _ _ c.loop-e.invariant c.loop-e-test.false _
