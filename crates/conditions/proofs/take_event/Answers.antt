use Prim.Native.Nat.{◌+◌, ◌<◌}
use mathlib.Core.Path.{◌≡◌, sym, ◌∙◌}
use native.Mathlib.Omega.{arith}
use lib.ListN.{get_or}
use Rattle.arc_sets.specs.Sets.{weight_at}
use Rattle.arc_sets.specs.Weights.{weight-some}
use Rattle.arc_sets.specs.Walk.{left-all, Lowest, at-lowest, nothing_left}
use Rattle.steps.proofs.Walking.{looks}
use Rattle.run_counts.proofs.Weights.{row_within}
use Rattle.conditions.proofs.Tokens.{tokens_none, tokens-next, tokens-skip}
use Rattle.conditions.proofs.Lent.{takes-nothing, ready-after, takes-then, takes-as}
use Rattle.conditions.proofs.take_event.Goals as goal
use Rattle.conditions.proofs.take_event.Goals.{In-Some, After-weight}

pub loop-p-init : goal.loop-p-init
loop-p-init c = (0, omega arith, rw (c.into_iter-p-iterator.ensures.into_iter_gives, c.members-p-items.ensures, c.set_at.ensures) (left-all _ (omega (arith, c.set_at.ensures))), takes-as (takes-nothing c.requires.3) (sym (tokens_none c.args.sets.now c.args.row _)))

-- what a turn of the loop goes by: the lowest place that is left, which is one of the net's, and what its arc weighs
turn : (c : In-Some) → Lowest (get_or c.args.sets.now c.args.row 0) c.loop-p.p-iterator.left c.loop-p.invariant.0 c.in-Some.p
turn c = at-lowest c.loop-p.invariant.2 c.in-Some.ensures.steps.1 c.in-Some.ensures.steps.0

near : (c : In-Some) → c.in-Some.p < 32
near c = looks _ _ (row_within c.args.sets.now c.args.row c.requires.1 c.requires.2) (turn c).set

weighs : (c : After-weight) → c.weight.result ≡ weight_at c.args.sets.now c.args.row c.in-Some.p
weighs c = c.weight.ensures.0 ∙ sym (weight-some _ _ _ (turn c.before).set)

pub weight-requires : goal.weight-requires
weight-requires c = let h = near (goal.at.weight-requires c).In-Some in (omega arith, omega arith)

pub take_times-requires : goal.take_times-requires
take_times-requires c = (c.requires.0, near (goal.at.take_times-requires c).In-Some, ready-after c.requires.3 c.loop-p.invariant.3)

pub loop-p-preserved : goal.loop-p-preserved
loop-p-preserved c = let L = turn (goal.at.loop-p-preserved c).In-Some in let v = c.loop-p.invariant in
    (c.in-Some.p + 1, omega (arith, L.low), rw c.in-Some.ensures.steps.2 L.next, takes-as (takes-then (takes-as v.3 (tokens-skip c.args.sets.now c.args.row _ v.0 _ L.within L.passed)) c.take_times.ensures) (tokens-next c.args.sets.now c.args.row _ _ _ (weighs (goal.at.loop-p-preserved c).After-weight)))

pub returns : goal.returns
returns c = let v = c.loop-p.invariant in takes-as v.3 (tokens-skip c.args.sets.now c.args.row _ v.0 64 v.1 (λ j q k. nothing_left v.2 c.in-None.ensures.steps.0 j q))
