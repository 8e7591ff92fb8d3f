use Prim.Native.Nat.{◌+◌, ◌<◌}
use mathlib.Core.Path.{sym, ◌∙◌}
use native.Mathlib.Omega.{arith}
use Rattle.lists.specs.Grouped.{sum_of-none}
use Rattle.arc_sets.specs.Walk.{left-all, Lowest, at-lowest, nothing_left}
use Rattle.steps.proofs.Walking.{looks}
use Rattle.run_counts.proofs.Weights.{sum-skip, sum-place}
use Rattle.run_counts.proofs.weights_in.Goals as goal
use Rattle.run_counts.proofs.weights_in.Goals.{In-Some}

pub loop-p-init : goal.loop-p-init
loop-p-init c = (0, omega arith, rw (c.into_iter-p-iterator.ensures.into_iter_gives, c.members-p-items.ensures) (left-all _ (omega arith)), omega arith, sym (sum_of-none _))

-- what a turn of the loop goes by: the lowest place that is left, which is one of the net's
turn : (c : In-Some) → Lowest c.args.set c.loop-p.p-iterator.left c.loop-p.invariant.0 c.in-Some.p
turn c = at-lowest c.loop-p.invariant.2 c.in-Some.ensures.steps.1 c.in-Some.ensures.steps.0

near : (c : In-Some) → c.in-Some.p < 32
near c = looks c.args.set _ c.requires.1 (turn c).set

pub weight-r-requires : goal.weight-r-requires
weight-r-requires c = let h = near (goal.at.weight-r-requires c).In-Some in (omega arith, omega arith)

pub overflow_add-r : goal.overflow_add-r
overflow_add-r c = omega (arith, c.weight-r.ensures.1)

pub loop-p-preserved : goal.loop-p-preserved
loop-p-preserved c =
    let L = turn (goal.at.loop-p-preserved c).In-Some in
    let v = c.loop-p.invariant in (
      c.in-Some.p + 1,
      omega (arith, near (goal.at.loop-p-preserved c).In-Some),
      rw c.in-Some.ensures.steps.2 L.next,
      omega (arith, L.within, c.weight-r.ensures.1),
      sum-place c.args.sets.now c.args.row c.args.set v.0 _ _ _ L.within L.passed L.set v.4 c.weight-r.ensures.0,
    )

pub returns : goal.returns
returns c = let v = c.loop-p.invariant in
    (v.4 ∙ sum-skip c.args.sets.now c.args.row c.args.set v.0 64 (omega arith) (λ j q k. nothing_left v.2 c.in-None.ensures.steps.0 j q), omega arith)
