use native.Mathlib.Omega.{arith}
use Rattle.row_independence.proofs.Laws.{tally-none, tally-more, left_over, left-plain}
use Rattle.row_independence.proofs.independent_pairs.Goals as goal
use Rattle.row_independence.proofs.independent_pairs.Goals.{then-holds, else-holds}

pub loop-e-init : goal.loop-e-init
loop-e-init c = tally-none _ _

pub row_at-r-requires : goal.row_at-r-requires
row_at-r-requires c = omega (arith, c.requires.0.few)

pub overflow_add-all : goal.overflow_add-all
overflow_add-all c = omega (arith, c.loop-e.invariant.all-few, c.requires.0.few)

pub overflow_add-ordered : goal.overflow_add-ordered
overflow_add-ordered c =
    omega (arith, c.size-ordered.ensures.1, c.loop-e.invariant.rows_few, c.requires.0.few)

pub holds-requires : goal.holds-requires
holds-requires c = omega (arith, c.requires.0.few)

pub overflow_add-loops : goal.overflow_add-loops
overflow_add-loops c =
    omega (arith, c.loop-e.invariant.loops-few, c.requires.0.few)

pub synchronous_pairs-twice-requires : goal.synchronous_pairs-twice-requires
synchronous_pairs-twice-requires c = c.requires

pub overflow_add-result : goal.overflow_add-result
overflow_add-result c =
    let t = c.loop-e.invariant in
    omega (arith, t.all-few, t.loops-few, c.requires.0.few)

pub overflow_add-result-then-loops-gt0 : goal.overflow_add-result-then-loops-gt0
overflow_add-result-then-loops-gt0 c =
    let t = c.loop-e.invariant in
    omega (arith, c.synchronous_pairs-twice.ensures.1, t.all-few, t.loops-few, c.requires.0.few)

pub overflow_sub-result : goal.overflow_sub-result
overflow_sub-result c =
    (left_over (omega arith) c.loop-e.invariant _ c.synchronous_pairs-twice.ensures.0).0

pub returns-then-loops-gt0 : goal.returns-then-loops-gt0
returns-then-loops-gt0 c =
    (left_over (omega arith) c.loop-e.invariant _ c.synchronous_pairs-twice.ensures.0).1

pub overflow_sub-result-2 : goal.overflow_sub-result-2
overflow_sub-result-2 c = (left-plain (omega arith) c.loop-e.invariant c.requires.1 (omega arith)).0

pub returns : goal.returns
returns c = (left-plain (omega arith) c.loop-e.invariant c.requires.1 (omega arith)).1

pub loop-e-preserved : goal.loop-e-preserved
loop-e-preserved c =
    tally-more c.row_at-r.result c.size-ordered.result c.if-holds.loops c.requires.0 c.loop-e-test.true
    c.row_at-r.ensures c.size-ordered.ensures
    (elim c.if-holds.branch [
      | then-holds w ↦ omega (arith, w.loops-is, c.holds.ensures.0 w.if-holds.true)
      | else-holds w ↦ omega (arith, w.loops-is, c.holds.ensures.1 w.if-holds.false)
    ])
    c.loop-e.invariant
