use native.Mathlib.Omega.{arith}
use Rattle.arc_rules.proofs.Tallies.{placed_at, initial-none, initial-end}
use Rattle.arc_rules.proofs.initial.Goals as goal

pub loop-c-init : goal.loop-c-init
loop-c-init c = initial-none _

pub count_initial-requires : goal.count_initial-requires
count_initial-requires c =
    (placed_at c.loop-c.c c.requires c.loop-c-test.true, c.loop-c.invariant)

pub loop-c-preserved : goal.loop-c-preserved
loop-c-preserved c = c.count_initial.ensures

pub returns : goal.returns
returns c = initial-end _ _ _ _ (omega arith) c.loop-c.invariant
