use Prim.Native.Nat.{◌<◌}
use mathlib.Core.Path.{sym, ◌∙◌}
use native.Mathlib.Omega.{arith}
use Rattle.std.proofs.lemmas.List.{take_all}
use Rattle.run_counts.specs.Tally.{both_of}
use Rattle.run_counts.proofs.Weights.{row_within, both-within, both_of_lem}
use Rattle.run_counts.proofs.Tallying.{all_none, all-next}
use Rattle.run_counts.proofs.own_all.Goals as goal

pub loop-id-init : goal.loop-id-init
loop-id-init c = (omega arith, sym (all_none _))

pub overflow_add-t : goal.overflow_add-t
overflow_add-t c = omega (arith, c.requires.0.known c.loop-id.id-index c.loop-id-test.true, c.from-t.ensures)

pub overflow_add-t-in-loop-id : goal.overflow_add-t-in-loop-id
overflow_add-t-in-loop-id c = omega (arith, c.requires.0.known c.loop-id.id-index c.loop-id-test.true, c.from-t.ensures)

pub offset_bounds-sets-t : goal.offset_bounds-sets-t
offset_bounds-sets-t c = omega (arith, c.requires.0.known c.loop-id.id-index c.loop-id-test.true, c.from-t.ensures)

pub bounds-sets-t : goal.bounds-sets-t
bounds-sets-t c = omega (arith, c.requires.0.known c.loop-id.id-index c.loop-id-test.true, c.from-t.ensures)

pub overflow_add-t-in-loop-id-2 : goal.overflow_add-t-in-loop-id-2
overflow_add-t-in-loop-id-2 c = omega (arith, c.requires.0.known c.loop-id.id-index c.loop-id-test.true, c.from-t.ensures)

pub offset_bounds-sets-t-in-loop-id : goal.offset_bounds-sets-t-in-loop-id
offset_bounds-sets-t-in-loop-id c = omega (arith, c.requires.0.known c.loop-id.id-index c.loop-id-test.true, c.from-t.ensures)

pub bounds-sets-t-in-loop-id : goal.bounds-sets-t-in-loop-id
bounds-sets-t-in-loop-id c = omega (arith, c.requires.0.known c.loop-id.id-index c.loop-id-test.true, c.from-t.ensures)

pub weights_in-r-requires : goal.weights_in-r-requires
weights_in-r-requires c = let h : c.from-t.result < 32 = omega (arith, c.requires.0.known c.loop-id.id-index c.loop-id-test.true, c.from-t.ensures) in
    (omega (arith, h), both-within _ _ (row_within c.args.sets.now _ (omega (arith, h)) c.requires.1))

pub overflow_add-r : goal.overflow_add-r
overflow_add-r c = omega (arith, c.requires.0.few)

pub loop-id-preserved : goal.loop-id-preserved
loop-id-preserved c = (omega arith, all-next (both_of c.args.sets.now) _ c.loop-id.id-index _ c.loop-id-test.true c.loop-id.invariant.1 c.from-t.ensures (c.weights_in-r.ensures.0 ∙ both_of_lem c.args.sets.now _))

pub returns : goal.returns
returns c = (rw (take_all c.loop-id.id-index _ c.loop-id-test.false) at c.loop-id.invariant.1, omega arith)
