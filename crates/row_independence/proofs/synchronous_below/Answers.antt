-- `row_independence::synchronous_below` meets its contract: an event on no loop is synchronous with none. One on a loop
-- is so with those of its set that are in its row.
use native.Mathlib.Omega.{arith}
use Rattle.row_independence.proofs.Laws.{none-counted, alike-counted}
use Rattle.row_independence.proofs.synchronous_below.Goals as goal

pub row_at-r-requires : goal.row_at-r-requires
row_at-r-requires c = omega (arith, c.requires.1.few)

pub holds-requires : goal.holds-requires
holds-requires c = omega (arith, c.requires.1.few)

pub set_at-alike-requires : goal.set_at-alike-requires
set_at-alike-requires c =
    omega (arith, c.size-k.ensures.1, c.requires.3.long)

pub one-requires : goal.one-requires
one-requires c =
    omega (arith, c.requires.1.few)

pub put_set-requires : goal.put_set-requires
put_set-requires c =
    omega (arith, c.size-k.ensures.1, c.requires.3.long)

pub returns-then-not-holds : goal.returns-then-not-holds
returns-then-not-holds c =
    none-counted _ _ _ _ c.requires.0 c.requires.1 c.requires.2 c.requires.3 c.row_at-r.result c.row_at-r.ensures
    (c.holds.ensures.1 c.if-not-holds.true)

pub returns : goal.returns
returns c =
    alike-counted _ _ _ _ c.requires.0 c.requires.1 c.requires.2 c.requires.3 c.row_at-r.result c.row_at-r.ensures
    (c.holds.ensures.0 c.if-not-holds.false) c.size-k.result _ c.set_at-alike.result c.one.result
    c.union.result c.meet.result _ c.size-k.ensures.0 c.set_at-alike.ensures c.one.ensures
    c.union.ensures c.put_set.ensures c.meet.ensures c.size.ensures
