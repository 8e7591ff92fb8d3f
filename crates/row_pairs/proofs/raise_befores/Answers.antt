use native.Mathlib.Omega.{arith}
use Rattle.reach.specs.Rows.{Good}
use Rattle.row_pairs.proofs.Raising.{befores-none, befores-begun, befores-more, befores-end}
use Rattle.row_pairs.proofs.raise_befores.Goals as goal

pub returns-then-f-ge-EVENTS : goal.returns-then-f-ge-EVENTS
returns-then-f-ge-EVENTS c = befores-none _ _ _ c.if-f-ge-EVENTS.true

pub loop-e-init : goal.loop-e-init
loop-e-init c = rw (c.into_iter-e-iterator.ensures.into_iter_gives, c.members-e-items.ensures) (befores-begun _ _ _)

pub raise-requires : goal.raise-requires
unfolding Good
raise-requires c =
    let v = c.loop-e.invariant in
    let s = c.in-Some.ensures.steps in
    (omega (arith, v.raised.long, c.requires.0, s.0), c.if-f-ge-EVENTS.false, v.raised.good c.requires.1 _ s.0)

pub loop-e-preserved : goal.loop-e-preserved
loop-e-preserved c =
    let s = c.in-Some.ensures.steps in
    befores-more _ _ c.loop-e.invariant s.1 s.2 s.3 c.raise.ensures

pub returns : goal.returns
returns c = befores-end c.loop-e.invariant c.in-None.ensures.steps
