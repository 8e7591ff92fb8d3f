-- `row_pairs::raise_pair` meets its contract: a number that is no event is in no entry of the rows, and between two
-- events the entry that is raised is that of the pair.
use native.Mathlib.Omega.{arith}
use Rattle.reach.specs.Rows.{Good}
use Rattle.row_pairs.proofs.Raising.{raise-none, raise-one}
use Rattle.row_pairs.proofs.raise_pair.Goals as goal

pub returns-then-e-ge-EVENTS : goal.returns-then-e-ge-EVENTS
returns-then-e-ge-EVENTS c = raise-none _ _ _ _ (omega (arith, c.if-e-ge-EVENTS.true))

pub returns-then-f-ge-EVENTS : goal.returns-then-f-ge-EVENTS
returns-then-f-ge-EVENTS c = raise-none _ _ _ _ (omega (arith, c.if-f-ge-EVENTS.true))

pub raise-requires : goal.raise-requires
unfolding Good
raise-requires c =
    (omega (arith, c.requires.0, c.if-e-ge-EVENTS.false), c.if-f-ge-EVENTS.false, c.requires.1 _ c.if-e-ge-EVENTS.false)

pub returns : goal.returns
returns c = raise-one _ _ _ _ _ c.raise.ensures
