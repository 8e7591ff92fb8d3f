-- `held_conditions::read_place` meets its contract: nothing of the place is left before the cursor, so that the first one
-- from there on that held is the lowest, and it joins the set; where there is none, the set stays.
use native.Mathlib.Omega.{arith}
use Rattle.held_conditions.proofs.Reading.{passed-before, passed_on, reads-one, reads_none}
use Rattle.held_conditions.proofs.read_place.Goals as goal

pub bounds-nexts-p : goal.bounds-nexts-p
bounds-nexts-p c = c.requires.0

pub first_left-start-requires : goal.first_left-start-requires
first_left-start-requires c = omega (arith, c.from.ensures, c.requires.2.low c.args.p c.requires.0)

pub overflow_cast-nexts : goal.overflow_cast-nexts
overflow_cast-nexts c = omega (arith, c.first_left-start.ensures.to, c.args.m.now.readable.few)

pub bounds-nexts-p-2 : goal.bounds-nexts-p-2
bounds-nexts-p-2 c = c.requires.0

pub join-requires : goal.join-requires
join-requires c =
    (omega (arith, c.if-c-m.true, c.args.m.now.readable.few), c.requires.1)

pub returns-then-c-m : goal.returns-then-c-m
returns-then-c-m c =
    let b = passed-before c.requires.2 c.args.p _ _ c.requires.0 c.from.ensures c.first_left-start.ensures in (
      reads-one c.args.m.now.rec.now c.args.m.now.steps.now c.args.p c.args.m.now.event c.args.m.now.conditions _ _ b c.first_held-c.ensures c.if-c-m.true c.join.ensures,
      passed_on c.requires.2 c.args.p _ _ c.requires.0 c.from.ensures c.first_left-start.ensures,
    )

pub returns-else-c-m : goal.returns-else-c-m
returns-else-c-m c =
    let b = passed-before c.requires.2 c.args.p _ _ c.requires.0 c.from.ensures c.first_left-start.ensures in (
      reads_none c.args.m.now.rec.now c.args.m.now.steps.now c.args.p c.args.m.now.event c.args.m.now.conditions _ _ b c.first_held-c.ensures c.args.reads.now (omega (arith, c.if-c-m.false)),
      passed_on c.requires.2 c.args.p _ _ c.requires.0 c.from.ensures c.first_left-start.ensures,
    )
