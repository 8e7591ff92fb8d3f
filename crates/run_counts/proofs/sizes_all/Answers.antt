use mathlib.Core.Path.{sym, ◌∙◌}
use native.Mathlib.Omega.{arith}
use Rattle.std.proofs.lemmas.List.{take_all}
use Rattle.run_counts.specs.Tally.{size_of}
use Rattle.run_counts.proofs.Weights.{size-of}
use Rattle.run_counts.proofs.Tallying.{all_none, all-next}
use Rattle.run_counts.proofs.sizes_all.Goals as goal

pub loop-t-init : goal.loop-t-init
loop-t-init c = (omega arith, sym (all_none _))

pub row_size-r-requires : goal.row_size-r-requires
row_size-r-requires c = (omega (arith, c.requires.0.known c.loop-t.t-index c.loop-t-test.true, c.from.ensures), c.requires.2)

pub overflow_add-r : goal.overflow_add-r
overflow_add-r c = omega (arith, c.requires.0.few)

pub loop-t-preserved : goal.loop-t-preserved
loop-t-preserved c = (omega arith, all-next (size_of c.args.sets.now c.args.at) _ c.loop-t.t-index _ c.loop-t-test.true c.loop-t.invariant.1 c.from.ensures (c.row_size-r.ensures.0 ∙ size-of c.args.sets.now c.args.at _))

pub returns : goal.returns
returns c = (rw (take_all c.loop-t.t-index _ c.loop-t-test.false) at c.loop-t.invariant.1, omega arith)
