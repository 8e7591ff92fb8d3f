-- `row_pairs::raise_sides` meets its contract: where both sets are empty there is no pair, else one side is raised after
-- the other.
use native.Mathlib.Omega.{arith}
use Rattle.row_pairs.proofs.Raising.{sides-none, sides-raised}
use Rattle.row_pairs.proofs.raise_sides.Goals as goal

pub returns-then-is_none : goal.returns-then-is_none
returns-then-is_none c =
    let z = c.is_none.ensures c.if-is_none.true in
    sides-none _ _ _ _ _ (λ e. omega (arith, z e, c.union.ensures e)) (λ e. omega (arith, z e, c.union.ensures e))

pub raise_afters-requires : goal.raise_afters-requires
raise_afters-requires c = c.requires

pub raise_befores-requires : goal.raise_befores-requires
raise_befores-requires c =
    (omega (arith, c.requires.0, c.raise_afters.ensures.long), c.raise_afters.ensures.good c.requires.1)

pub returns : goal.returns
returns c = sides-raised _ _ _ _ c.raise_afters.ensures c.raise_befores.ensures
