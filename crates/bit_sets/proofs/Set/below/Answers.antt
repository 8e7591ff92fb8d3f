use native.Mathlib.Omega.{arith}
use Rattle.bit_sets.proofs.Laws.{below_more}
use Rattle.bit_sets.proofs.Set.below.Goals as goal

pub loop-i-init : goal.loop-i-init
loop-i-init c = ((λ f l. absurd (omega arith)), λ f l. c.none-r.ensures f)

pub loop-i-preserved : goal.loop-i-preserved
loop-i-preserved c =
    let v = c.loop-i.invariant in
    below_more c.loop-i.r _ _ c.loop-i.i c.one.ensures c.union-r.ensures v.0 v.1

pub returns : goal.returns
returns c = let v = c.loop-i.invariant in ((λ f h. v.0 f (omega arith)), (λ f h. v.1 f (omega arith)))
