use native.Mathlib.Omega.{arith}
use Rattle.lists.specs.Stretch.{from-none, from_more, from_end}
use Rattle.steps.proofs.put_tokens.Goals as goal

pub loop-p-init : goal.loop-p-init
loop-p-init c = from-none _ _ _

pub loop-p-preserved : goal.loop-p-preserved
loop-p-preserved c = from_more _ (omega arith) c.from.ensures c.loop-p.invariant

pub returns : goal.returns
returns c = from_end _ (omega arith) c.loop-p.invariant
