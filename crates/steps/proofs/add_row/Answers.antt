use native.Mathlib.Omega.{arith}
use Rattle.arc_sets.specs.Walk.{nothing_left}
use Rattle.steps.proofs.Walking.{Adding, adding, added-all}
use Rattle.steps.proofs.add_row.Goals as goal
use Rattle.steps.proofs.add_row.Goals.{In-Some, In-None}

-- what a turn of the loop needs and does
turn : (c : In-Some) → Adding c.args.sets.now c.args.row c.args.from c.args.xs.now c.loop-p.p-iterator.left c.in-Some.p c.loop-p.xs
turn c = let s = c.in-Some.ensures.steps in adding _ _ c.requires.1 c.loop-p.invariant.1 c.loop-p.invariant.2 s.1 s.0

pub weight-requires : goal.weight-requires
weight-requires c = let A = turn (goal.at.weight-requires c).In-Some in (omega arith, omega arith)

pub overflow_add-xs : goal.overflow_add-xs
overflow_add-xs c = let A = turn (goal.at.overflow_add-xs c).In-Some in omega arith

pub offset_bounds-xs-from : goal.offset_bounds-xs-from
offset_bounds-xs-from c = let A = turn (goal.at.offset_bounds-xs-from c).In-Some in omega arith

pub bounds-xs-from : goal.bounds-xs-from
bounds-xs-from c = (turn (goal.at.bounds-xs-from c).In-Some).index

pub overflow_add-xs-in-loop-p : goal.overflow_add-xs-in-loop-p
overflow_add-xs-in-loop-p c = omega (arith, (turn (goal.at.overflow_add-xs-in-loop-p c).In-Some).room c.weight.ensures.0)

pub bounds-xs-from-in-loop-p : goal.bounds-xs-from-in-loop-p
bounds-xs-from-in-loop-p c = (turn (goal.at.bounds-xs-from-in-loop-p c).In-Some).index

pub loop-p-preserved : goal.loop-p-preserved
loop-p-preserved c = rw c.in-Some.ensures.steps.2 ((turn (goal.at.loop-p-preserved c).In-Some).next c.weight.ensures.0)

pub returns : goal.returns
returns c = let v = c.loop-p.invariant in added-all _ _ (nothing_left v.1 c.in-None.ensures.steps.0) v.2
