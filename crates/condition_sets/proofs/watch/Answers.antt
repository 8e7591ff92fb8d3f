use Prim.Native.Nat.{◌+◌}
use mathlib.Core.Path.{◌∙◌}
use native.Mathlib.Omega.{arith}
use Rattle.arc_sets.specs.Walk.{left-all, Lowest, at-lowest, nothing_left}
use Rattle.condition_sets.proofs.Words.{low-place, joined, unjoined, watched-none, watched-skip, watched-more, others-none, others-after}
use Rattle.condition_sets.proofs.watch.Goals as goal
use Rattle.condition_sets.proofs.watch.Goals.{In-Some}

pub loop-p-init : goal.loop-p-init
loop-p-init c = (0, omega arith, rw (c.into_iter-p-iterator.ensures.into_iter_gives, c.members-p-items.ensures) (left-all _ (omega arith)), watched-none c.requires.2, others-none _ _)

-- what a turn of the loop goes by: the lowest place that is left
turn : (c : In-Some) → Lowest c.args.guards c.loop-p.p-iterator.left c.loop-p.invariant.0 c.in-Some.p
turn c = at-lowest c.loop-p.invariant.2 c.in-Some.ensures.steps.1 c.in-Some.ensures.steps.0

pub join-requires : goal.join-requires
join-requires c = (c.requires.0, low-place c.args.guards _ c.requires.3 (turn (goal.at.join-requires c).In-Some).set, c.loop-p.invariant.4.long ∙ c.requires.1)

pub loop-p-preserved : goal.loop-p-preserved
loop-p-preserved c =
    let L = turn (goal.at.loop-p-preserved c).In-Some in
    let v = c.loop-p.invariant in
    let j = c.join.ensures in (
      c.in-Some.p + 1,
      omega (arith, L.low),
      rw c.in-Some.ensures.steps.2 L.next,
      watched-more L.set (joined c.args.places.now c.args.t c.in-Some.p j) (watched-skip v.0 c.in-Some.p L.within L.passed v.3),
      others-after v.4 (unjoined c.args.places.now c.args.t c.in-Some.p j),
    )

pub returns : goal.returns
returns c =
    let v = c.loop-p.invariant in
    (watched-skip v.0 64 v.1 (λ p l u. nothing_left v.2 c.in-None.ensures.steps.0 p l) v.3, v.4)
