use native.Mathlib.Omega.{arith}
use Rattle.arc_rules.proofs.Tallies.{placed_at, tally-none, tally-end}
use Rattle.arc_rules.proofs.tally.Goals as goal

pub loop-c-init : goal.loop-c-init
loop-c-init c = tally-none _ _ _ _ c.requires.2

pub count_linked-requires : goal.count_linked-requires
count_linked-requires c =
    (placed_at c.loop-c.c c.requires.0 c.loop-c-test.true, c.requires.1, c.loop-c.invariant)

pub loop-c-preserved : goal.loop-c-preserved
loop-c-preserved c = c.count_linked.ensures.1

pub returns : goal.returns
returns c = (omega arith, tally-end _ _ _ _ _ _ (omega arith) c.loop-c.invariant)
