-- The events synchronous with an event, counted from its row; and all pairs, counted from the rows.
use mathlib.Core.Path.{◌≡◌, refl, sym, ap, ◌∙◌}
use mathlib.Core.Logic.{◌≢◌}
use mathlib.Core.List.{List}
use Prim.Native.Nat.{ℕ, ◌+◌, ◌-◌, ◌*◌, ◌≤◌, ◌<◌, min, max}
use native.Mathlib.Decide.{ℕ_discrete}
use native.Mathlib.Omega.{arith}
use Rattle.lists.specs.Grouped.{sum_of-next, sum_of-none}
use Rattle.order.specs.Below.{sum_below}
use Rattle.order.specs.Order.{Order}
use Rattle.bit_sets.specs.Sets.{has, has-most}
use Rattle.bit_sets.specs.declared.Set.{Set}
use Rattle.set_rows.specs.Sets.{set_of, PutSet}
use Rattle.set_rows.specs.Sorted.{sorted-same, sorted_more}
use Rattle.reach.specs.declared.Row.{Row}
use Rattle.reach.specs.Rows.{row_of, cell_of}
use Rattle.row_facts.specs.Counts.{Ready}
use Rattle.row_independence.specs.Pairs.{independent_pairs, ordered, synchronous_pairs}
use Rattle.row_independence.proofs.Ordered.{path-bit, path-size}
use Rattle.row_independence.specs.Balance.{pairs_of, in_rows, loops_of}
use Rattle.row_independence.proofs.Balance.{balance, none_below, none-synchronous}
use Rattle.row_independence.specs.Alike.{ByRows, Counted}
use Rattle.row_independence.proofs.Alike.{alike_size}

-- ---- the events synchronous with e

module _ (w : List ℕ) (n e : ℕ) (b : List ℕ) (l : e < n) (h : Ready n w) (o : Order n (cell_of w))
    (m : ByRows n (cell_of w) e b) (r : Row) (q : r ≡ row_of w e) where
  own : has r.path e ≡ ordered (cell_of w) e e
  own = path-bit w n h e l r q e

  -- none, where e is on no loop
  pub none-counted : has r.path e ≡ 0 → Counted n (cell_of w) e 0 b
  none-counted z =
      let d : ordered (cell_of w) e e ≡ 0 = sym own ∙ z in
      record {
        here = sym (none_below n (cell_of w) o e l d);
        few = omega arith;
        sorted = sorted-same (λ g k. (omega (arith, k.0), k.1)) (λ g k. (below d g k.0 k.1, k.1)) m;
      }
    where
      below : ordered (cell_of w) e e ≡ 0 → (g : ℕ) → g < e + 1 → 0 < ordered (cell_of w) g g → g < e
      below d g i p = elim (ℕ_discrete g e) [
        | yes y ↦ absurd (omega (arith, ap (λ (x : ℕ). ordered (cell_of w) x x) y))
        | no y ↦ omega arith
      ]

  -- those of its set that are in its row
  pub alike-counted : has r.path e ≡ 1 → (k x : ℕ) (alike self new both : Set) (b' : List ℕ)
      → k ≡ sum_below 128 (has r.path) → alike ≡ set_of b k
      → (has self e ≡ 1) × ((g : ℕ) → g ≢ e → has self g ≡ 0)
      → ((g : ℕ) → has new g ≡ max (has alike g) (has self g)) → PutSet b k new b'
      → ((g : ℕ) → has both g ≡ min (has alike g) (has r.path g)) → (x ≡ sum_below 128 (has both)) × (x ≤ 128)
      → Counted n (cell_of w) e x b'
  alike-counted z k x alike self new both b' hk ha one u put v hx =
      let d : 0 < ordered (cell_of w) e e = omega (arith, own) in
      let row = hk ∙ path-size w n h e l r q in
      record {
        here = hx.0
            ∙ alike_size n (cell_of w) o e l d b m k alike r.path both row ha (path-bit w n h e l r q) v h.few;
        few = hx.1;
        sorted = sorted_more e k alike self new
            (λ g i. (omega (arith, i.0), i.1)) (omega arith, d) (λ g y i. (omega (arith, i.0), i.1)) row ha one u put m;
      }

-- ---- all pairs

-- counted of the first e events: their pairs, the events in their rows, and how many are on loops
pub record Tally (n : ℕ) (c : ℕ → ℕ → ℕ) (e all rows loops : ℕ) : Type 0 where
  pub all-is : all ≡ pairs_of e
  pub rows_is : rows ≡ in_rows n e c
  pub loops_is : loops ≡ loops_of e c
  pub all-few : all ≤ 128 * e
  pub rows_few : rows ≤ 128 * e
  pub loops-few : loops ≤ e

pub tally-none : (n : ℕ) (c : ℕ → ℕ → ℕ) → Tally n c 0 0 0 0
unfolding pairs_of in_rows loops_of sum_below
tally-none n c = record {
  all-is = sym (sum_of-none _);
  rows_is = sym (sum_of-none _);
  loops_is = sym (sum_of-none _);
  all-few = omega arith;
  rows_few = omega arith;
  loops-few = omega arith;
}

-- one event more, from its row
pub tally-more : {w : List ℕ} {n e all rows loops : ℕ} (r : Row) (k loops' : ℕ) → Ready n w → e < n → r ≡ row_of w e
    → (k ≡ sum_below 128 (has r.path)) × (k ≤ 128) → loops' ≡ loops + has r.path e
    → Tally n (cell_of w) e all rows loops → Tally n (cell_of w) (e + 1) (all + e) (rows + k) loops'
unfolding pairs_of in_rows loops_of sum_below
tally-more {w} {n} {e} r k loops' h l q size own t = record {
  all-is = sum_of-next _ _ _ _ t.all-is refl;
  rows_is = sum_of-next _ _ _ _ t.rows_is (size.0 ∙ path-size w n h e l r q);
  loops_is = own ∙ sum_of-next _ _ _ _ t.loops_is (path-bit w n h e l r q e);
  all-few = omega (arith, t.all-few, h.few);
  rows_few = omega (arith, t.rows_few, size.1);
  loops-few = omega (arith, t.loops-few, has-most r.path e);
}

module _ {n : ℕ} {c : ℕ → ℕ → ℕ} {e all rows loops : ℕ} (q : e ≡ n) (t : Tally n c e all rows loops) where
  looped : loops ≡ loops_of n c
  looped = t.loops_is ∙ ap (λ (z : ℕ). loops_of z c) q

  -- what is in two rows is given back, and what is in its own
  pub left_over : (s : ℕ) → s ≡ synchronous_pairs n c
      → (rows ≤ all + loops + s) × (all + loops + s - rows ≡ independent_pairs n c)
  left_over s hs =
      let a : all ≡ pairs_of n = t.all-is ∙ ap pairs_of q in
      let r : rows ≡ in_rows n n c = t.rows_is ∙ ap (λ (z : ℕ). in_rows n z c) q in
      let i : loops ≡ loops_of n c = looped in
      (omega (arith, balance c n), omega (arith, balance c n))

  -- where no event is on a loop there is nothing to give back
  pub left-plain : Order n c → loops ≡ 0 → (rows ≤ all) × (all - rows ≡ independent_pairs n c)
  left-plain o z =
      let r = left_over 0 (sym (none-synchronous n c o (sym looped ∙ z))) in
      (omega (arith, r.0), omega (arith, r.1))
