use native.Mathlib.Omega.{arith}
use mathlib.Core.Path.{refl}
use Rattle.row_pairs.proofs.Raising.{overall-none, overall-more, overall-end, condition-raised}
use Rattle.row_pairs.proofs.raise_conditions.Goals as goal

pub loop-c-init : goal.loop-c-init
loop-c-init c = overall-none _ _

pub raise_pair-requires : goal.raise_pair-requires
raise_pair-requires c =
    (omega (arith, c.loop-c.invariant.long, c.requires.2), c.loop-c.invariant.good c.requires.3)

pub loop-c-preserved : goal.loop-c-preserved
loop-c-preserved c =
    overall-more _ c.loop-c.invariant (condition-raised _ _ refl refl c.raise_pair.ensures)

pub returns : goal.returns
returns c = overall-end _ _ (omega arith) c.loop-c.invariant
