use native.Mathlib.Omega.{arith}
use Rattle.arc_sets.specs.Walk.{nothing_left}
use Rattle.steps.proofs.Walking.{Taking, taking, taken-all}
use Rattle.steps.proofs.take_row.Goals as goal
use Rattle.steps.proofs.take_row.Goals.{In-Some}

-- what a turn of the loop needs and does
turn : (c : In-Some) → Taking c.args.sets.now c.args.row c.args.xs.now c.loop-p.p-iterator.left c.in-Some.p c.loop-p.xs
turn c = let s = c.in-Some.ensures.steps in taking _ _ c.requires.1 c.requires.2 c.loop-p.invariant.1 c.loop-p.invariant.2 s.1 s.0

pub weight-requires : goal.weight-requires
weight-requires c = let A = turn (goal.at.weight-requires c).In-Some in (omega arith, omega arith)

pub bounds-xs-p : goal.bounds-xs-p
bounds-xs-p c = (turn (goal.at.bounds-xs-p c).In-Some).low

pub overflow_sub-xs : goal.overflow_sub-xs
overflow_sub-xs c = (turn (goal.at.overflow_sub-xs c).In-Some).some c.weight.ensures.0

pub bounds-xs-p-in-loop-p : goal.bounds-xs-p-in-loop-p
bounds-xs-p-in-loop-p c = (turn (goal.at.bounds-xs-p-in-loop-p c).In-Some).low

pub loop-p-preserved : goal.loop-p-preserved
loop-p-preserved c = rw c.in-Some.ensures.steps.2 ((turn (goal.at.loop-p-preserved c).In-Some).next c.weight.ensures.0)

pub returns : goal.returns
returns c = let v = c.loop-p.invariant in taken-all _ _ (nothing_left v.1 c.in-None.ensures.steps.0) v.2
