-- `row_facts::followers` meets its contract: the strict set of row e has the events that e is strictly before, none of
-- them beyond the n events, so that its size is their count.
use native.Mathlib.Omega.{arith}
use Rattle.row_facts.specs.Counts.{row-size}
use Rattle.row_facts.proofs.followers.Goals as goal

pub row_at-requires : goal.row_at-requires
row_at-requires c = omega (arith, c.requires.1.few)

pub returns : goal.returns
returns c = (
  row-size _ _ _ c.row_at.result _ c.requires.1 c.requires.0 c.row_at.ensures c.size.ensures.0,
  c.size.ensures.1,
)
