use Prim.Native.Nat.{ℕ, ◌+◌}
use native.Mathlib.Omega.{arith}
use lib.ListN.{length-replicate}
use Rattle.lists.specs.Arrays.{blank}
use Rattle.arc_sets.specs.Walk.{left-all, Lowest, at-lowest, nothing_left}
use Rattle.condition_sets.proofs.Words.{at_none, low-place}
use Rattle.held_conditions.proofs.Reading.{read-start, read_next, read-end}
use Rattle.held_conditions.proofs.reads_of.Goals as goal
use Rattle.held_conditions.proofs.reads_of.Goals.{In-Some}

pub loop-p-init : goal.loop-p-init
loop-p-init c = (0, rw (c.into_iter-p-iterator.ensures.into_iter_gives, c.members-p-items.ensures) (left-all _ (omega arith)), read-start (length-replicate {A = ℕ} 8 0) (λ i k. at_none _ (blank 8) 0 i), c.requires.1)

-- what a turn of the loop goes by: the lowest place that is left
turn : (c : In-Some) → Lowest c.args.places c.loop-p.p-iterator.left c.loop-p.invariant.0 c.in-Some.p
turn c = at-lowest c.loop-p.invariant.1 c.in-Some.ensures.steps.1 c.in-Some.ensures.steps.0

pub read_place-requires : goal.read_place-requires
read_place-requires c =
    let v = c.loop-p.invariant in
    (low-place c.args.places _ c.requires.0 (turn (goal.at.read_place-requires c).In-Some).set, v.2.long, v.3)

pub loop-p-preserved : goal.loop-p-preserved
loop-p-preserved c =
    let v = c.loop-p.invariant in
    let L = turn (goal.at.loop-p-preserved c).In-Some in
    (c.in-Some.p + 1, rw c.in-Some.ensures.steps.2 L.next, read_next v.0 c.in-Some.p L.within L.passed L.set c.read_place.ensures.0 v.2, c.read_place.ensures.1)

pub returns : goal.returns
returns c = let v = c.loop-p.invariant in (read-end v.0 (λ q l. nothing_left v.1 c.in-None.ensures.steps.0 q l) v.2, v.3)
