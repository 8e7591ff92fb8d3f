-- Where both words of weights are 0 the places are counted, and else their weights are added up.
use mathlib.Core.Path.{◌∙◌}
use native.Mathlib.Omega.{arith}
use borrow.Author.Tests.{eqb-true}
use Rattle.lists.specs.Laws
use Rattle.run_counts.proofs.Weights.{row_within, row-weighed, row_plain}
use Rattle.run_counts.proofs.row_size.Goals as goal

pub returns-then-sets-at : goal.returns-then-sets-at
returns-then-sets-at c = let z = Laws.and-true _ _ c.if-sets-at.true in
    (c.size.ensures.0 ∙ row_plain c.args.sets.now c.args.row (eqb-true _ _ z.0) (eqb-true _ _ z.1) (row_within c.args.sets.now c.args.row c.requires.0 c.requires.1), omega arith)

pub weights_in-requires : goal.weights_in-requires
weights_in-requires c = (c.requires.0, row_within c.args.sets.now c.args.row c.requires.0 c.requires.1)

pub returns : goal.returns
returns c = (c.weights_in.ensures.0 ∙ row-weighed c.args.sets.now c.args.row, c.weights_in.ensures.1)
