use Prim.Native.Nat.{◌+◌, ◌<◌}
use mathlib.Core.Path.{◌≡◌, refl, sym, ap, ◌∙◌}
use mathlib.Core.List.{map}
use native.Mathlib.Omega.{arith}
use lib.ListN.{get_or, length-map}
use Rattle.runs.specs.Consume.{made_of}
use Rattle.arc_sets.specs.Sets.{weight_at}
use Rattle.arc_sets.specs.Weights.{weight-some}
use Rattle.arc_sets.specs.Walk.{left-all, Lowest, at-lowest, nothing_left}
use Rattle.steps.proofs.Walking.{looks}
use Rattle.run_counts.proofs.Weights.{row_within}
use Rattle.conditions.specs.Conditions.{tokens_of, MadeAt}
use Rattle.conditions.proofs.Tokens.{tokens_none, tokens-skip, place-fits}
use Rattle.conditions.proofs.Making.{outputs-next}
use Rattle.conditions.proofs.Lent.{makes-nothing, makes-then, makes-as}
use Rattle.conditions.proofs.make_event.Goals as goal
use Rattle.conditions.proofs.make_event.Goals.{In-Some, After-weight}

pub loop-p-init : goal.loop-p-init
loop-p-init c = (0, omega arith, rw (c.into_iter-p-iterator.ensures.into_iter_gives, c.members-p-items.ensures, c.set_at.ensures) (left-all _ (omega (arith, c.set_at.ensures))), makes-as (makes-nothing c.requires.4) (ap (map made_of) (sym (tokens_none c.args.sets.now c.args.row _))) refl)

-- what a turn of the loop goes by: the lowest place that is left, which is one of the net's, and what its arc weighs
turn : (c : In-Some) → Lowest (get_or c.args.sets.now c.args.row 0) c.loop-p.p-iterator.left c.loop-p.invariant.0 c.in-Some.p
turn c = at-lowest c.loop-p.invariant.2 c.in-Some.ensures.steps.1 c.in-Some.ensures.steps.0

near : (c : In-Some) → c.in-Some.p < 32
near c = looks _ _ (row_within c.args.sets.now c.args.row c.requires.1 c.requires.2) (turn c).set

weighs : (c : After-weight) → c.weight.result ≡ weight_at c.args.sets.now c.args.row c.in-Some.p
weighs c = c.weight.ensures.0 ∙ sym (weight-some _ _ _ (turn c.before).set)

-- what is made at the places below it
before-it : (c : In-Some) → MadeAt (map made_of (tokens_of c.args.sets.now c.args.row c.args.e c.in-Some.p)) c.args.n c.args.rec.now c.loop-p.r c.loop-p.rec
before-it c = let L = turn c in let v = c.loop-p.invariant in makes-as v.3 (ap (map made_of) (tokens-skip _ _ _ v.0 _ L.within L.passed)) refl

pub weight-requires : goal.weight-requires
weight-requires c = let h = near (goal.at.weight-requires c).In-Some in (omega arith, omega arith)

pub make_times-r-requires : goal.make_times-r-requires
make_times-r-requires c = let A = before-it (goal.at.make_times-r-requires c).In-Some in
    (near (goal.at.make_times-r-requires c).In-Some, omega (arith, A.made.next, length-map (tokens_of c.args.sets.now c.args.row c.args.e c.in-Some.p) made_of, place-fits c.args.sets.now c.args.row c.args.e c.in-Some.p 64 _ (turn (goal.at.make_times-r-requires c).In-Some).low (weighs (goal.at.make_times-r-requires c).After-weight)), omega (arith, A.long))

pub loop-p-preserved : goal.loop-p-preserved
loop-p-preserved c = let L = turn (goal.at.loop-p-preserved c).In-Some in (c.in-Some.p + 1, omega (arith, L.low), rw c.in-Some.ensures.steps.2 L.next, makes-as (makes-then (before-it (goal.at.loop-p-preserved c).In-Some) c.make_times-r.ensures) (outputs-next c.args.sets.now c.args.row _ _ _ c.requires.0 (weighs (goal.at.loop-p-preserved c).After-weight)) refl)

pub returns : goal.returns
returns c = let v = c.loop-p.invariant in makes-as v.3 (ap (map made_of) (tokens-skip c.args.sets.now c.args.row _ v.0 64 v.1 (λ j q k. nothing_left v.2 c.in-None.ensures.steps.0 j q))) refl
