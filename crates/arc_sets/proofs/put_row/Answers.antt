use mathlib.Core.Path.{sym, ◌∙◌}
use native.Mathlib.Omega.{arith}
use Rattle.arc_sets.specs.Walk.{nothing_left}
use Rattle.arc_sets.proofs.Making.{Weighing, weighing, row_put}
use Rattle.arc_sets.proofs.put_row.Goals as goal
use Rattle.arc_sets.proofs.put_row.Goals.{In-Some}

-- what a turn of the loop needs and does
turn : (c : In-Some) → Weighing c.requires c.set_of-set.ensures c.loop-p.p-iterator.left c.in-Some.p c.loop-p.sets
turn c = let s = c.in-Some.ensures.steps in weighing c.requires c.set_of-set.ensures c.loop-p.invariant.1 c.loop-p.invariant.2 s.1 s.0

pub overflow_add-first : goal.overflow_add-first
overflow_add-first c = let A = turn (goal.at.overflow_add-first c).In-Some in omega arith

pub bounds-arcs-first : goal.bounds-arcs-first
bounds-arcs-first c = let A = turn (goal.at.bounds-arcs-first c).In-Some in omega arith

pub more-extra-requires : goal.more-extra-requires
more-extra-requires c = (turn (goal.at.more-extra-requires c).In-Some).some

pub overflow_add-i-then-extra-ne0 : goal.overflow_add-i-then-extra-ne0
overflow_add-i-then-extra-ne0 c = let A = turn (goal.at.overflow_add-i-then-extra-ne0 c).In-Some in omega arith

pub offset_bounds-sets-i : goal.offset_bounds-sets-i
offset_bounds-sets-i c = let A = turn (goal.at.offset_bounds-sets-i c).In-Some in omega arith

pub bounds-sets-i : goal.bounds-sets-i
bounds-sets-i c = let A = turn (goal.at.bounds-sets-i c).In-Some in omega arith

pub offset_bounds-sets-i-then-extra-ne0 : goal.offset_bounds-sets-i-then-extra-ne0
offset_bounds-sets-i-then-extra-ne0 c = let A = turn (goal.at.offset_bounds-sets-i-then-extra-ne0 c).In-Some in omega arith

pub bounds-sets-i-then-extra-ne0 : goal.bounds-sets-i-then-extra-ne0
bounds-sets-i-then-extra-ne0 c = let A = turn (goal.at.bounds-sets-i-then-extra-ne0 c).In-Some in omega arith

pub returns : goal.returns
returns c = row_put c.requires c.set_of-set.ensures (nothing_left c.loop-p.invariant.1 c.in-None.ensures.steps.0) c.loop-p.invariant.2

pub loop-p-preserved-then-extra-ne0 : goal.loop-p-preserved-then-extra-ne0
loop-p-preserved-then-extra-ne0 c = rw c.in-Some.ensures.steps.2 ((turn (goal.at.loop-p-preserved-then-extra-ne0 c).In-Some).next c.more-extra.ensures)

pub loop-p-preserved : goal.loop-p-preserved
loop-p-preserved c = rw c.in-Some.ensures.steps.2 ((turn (goal.at.loop-p-preserved c).In-Some).same (sym c.if-extra-ne0.false ∙ c.more-extra.ensures))
