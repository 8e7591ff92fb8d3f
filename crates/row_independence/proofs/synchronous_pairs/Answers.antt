use Prim.Native.Nat.{ℕ}
use native.Mathlib.Omega.{arith}
use mathlib.Core.Path.{◌≡◌, sym, ap, ◌∙◌}
use Rattle.lists.specs.Grouped.{sum_of-next, sum_of-none}
use Rattle.order.specs.Below.{sum_below}
use Rattle.set_rows.specs.Sorted.{sorted_none}
use Rattle.reach.specs.Rows.{cell_of}
use Rattle.row_independence.specs.Pairs.{synchronous_pairs}
use Rattle.row_independence.proofs.synchronous_pairs.Goals as goal

pub loop-e-init : goal.loop-e-init
unfolding synchronous_pairs sum_below
loop-e-init c = (omega arith, sym (sum_of-none _), sorted_none (λ g k. omega (arith, k.0)))

pub synchronous_below-pairs-requires : goal.synchronous_below-pairs-requires
synchronous_below-pairs-requires c =
    (c.loop-e-test.true, c.requires.0, c.requires.1, c.loop-e.invariant.2)

pub overflow_add-pairs : goal.overflow_add-pairs
overflow_add-pairs c =
    omega (arith, c.synchronous_below-pairs.ensures.few, c.loop-e.invariant.0, c.requires.0.few)

pub loop-e-preserved : goal.loop-e-preserved
unfolding synchronous_pairs sum_below
loop-e-preserved c =
    let s = c.synchronous_below-pairs.ensures in
    (omega (arith, s.few), sum_of-next _ _ _ _ c.loop-e.invariant.1 s.here, s.sorted)

pub returns : goal.returns
returns c =
    let q : c.loop-e.e ≡ c.args.n = omega arith in
    (c.loop-e.invariant.1 ∙ ap (λ (z : ℕ). synchronous_pairs z (cell_of c.args.w.now)) q, omega (arith, c.loop-e.invariant.0))
