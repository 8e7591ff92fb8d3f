-- `row_pairs::raise_afters` meets its contract: the set joins both sets of the row of f, so that f has a strict pair
-- with each of its events and no other entry is raised; a number that is no event has no row.
use native.Mathlib.Omega.{arith}
use Rattle.row_pairs.proofs.Raising.{afters-none, afters-put}
use Rattle.row_pairs.proofs.raise_afters.Goals as goal

pub returns-then-f-ge-EVENTS : goal.returns-then-f-ge-EVENTS
returns-then-f-ge-EVENTS c = afters-none _ _ _ c.if-f-ge-EVENTS.true

pub row_at-row-requires : goal.row_at-row-requires
row_at-row-requires c = c.if-f-ge-EVENTS.false

pub put_row-requires : goal.put_row-requires
put_row-requires c =
    (c.if-f-ge-EVENTS.false, omega (arith, c.requires.0))

pub returns : goal.returns
returns c =
    afters-put _ _ _ _ c.if-f-ge-EVENTS.false c.requires.1 c.row_at-row.ensures c.union-path.ensures
    c.union-strict.ensures c.put_row.ensures
