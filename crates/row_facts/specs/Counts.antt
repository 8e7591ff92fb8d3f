-- The strict pairs in rows of bits, and the sizes of sets of events.
use Rattle.std.specs.Prelude.{◌≡◌, true, false, List, ℕ, ◌+◌, ◌-◌, ◌≤◌, ◌<◌}
use Rattle.std.proofs.Math.Path.{sym, ap}
use Rattle.std.proofs.Common.{◌∙◌}
use Rattle.std.proofs.Math.Decide.{dec_le}
use native.Mathlib.Omega.{arith}
use borrow.Author.Tests.{le-leb, lt-leb}
use Rattle.spec.specs.Lists.{as_count}
use Rattle.order.specs.Below.{sum_below}
use Rattle.row_facts.specs.Pairs.{strict_in}
use Rattle.bit_sets.specs.Sets.{has, has-most}
use Rattle.bit_sets.specs.declared.Set.{Set}
use Rattle.bit_sets.specs.Sums.{sum_same, sum-pad}
use Rattle.reach.specs.declared.Row.{Row}
use Rattle.reach.specs.Rows.{value_of, Sub, row_of, cell_of, Good}
use Rattle.row_facts.specs.Strictly.{strictly}

-- the rows of the n events are sets and their subsets, of these events
pub record Ready (n : ℕ) (w : List ℕ) : Type 0 where
  pub few : n ≤ 128
  pub good : Good w
  pub beyond : (e f : ℕ) → e < n → n ≤ f → cell_of w e f ≡ 0

-- the size of a set of numbers below n
pub set-size : (s : Set) (n : ℕ) (h : ℕ → ℕ) → n ≤ 128
    → ((f : ℕ) → f < n → has s f ≡ h f) → ((f : ℕ) → n ≤ f → has s f ≡ 0) → sum_below 128 (has s) ≡ sum_below n h
set-size s n h l p z =
    let whole : 128 ≡ n + (128 - n) = omega arith in
    ap (λ (m : ℕ). sum_below m (has s)) whole ∙ sum-pad n (128 - n) (has s) z ∙ sum_same n (has s) h p

-- the strict set of a row has the events that the row's event is strictly before
module _ (w : List ℕ) (h : Good w) (e : ℕ) (l : e < 128) (r : Row) (q : r ≡ row_of w e) where
  pub sub : (f : ℕ) → has r.strict f ≤ has r.path f
  unfolding Good Sub
  sub f = rw q (h e l f)

  pub cell : (f : ℕ) → cell_of w e f ≡ has r.path f + has r.strict f
  unfolding cell_of value_of
  cell f = ap (λ (z : Row). has z.path f + has z.strict f) (sym q)

  pub in-strict : (f : ℕ) → has r.strict f ≡ 1 → strict_in (cell_of w) e f ≡ true
  unfolding strict_in
  in-strict f z = le-leb 2 (cell_of w e f) (omega (arith, cell f, sub f))

  pub not-strict : (f : ℕ) → has r.strict f ≡ 0 → strict_in (cell_of w) e f ≡ false
  unfolding strict_in
  not-strict f z = lt-leb 2 (cell_of w e f) (omega (arith, cell f, has-most r.path f))

  pub strict-bit : (f : ℕ) → has r.strict f ≡ strictly (cell_of w) e f
  unfolding strictly as_count
  strict-bit f = elim (dec_le 1 (has r.strict f)) [
    | yes z ↦
        let y : has r.strict f ≡ 1 = omega (arith, has-most r.strict f) in
        y ∙ sym (ap as_count (in-strict f y))
    | no z ↦ let y : has r.strict f ≡ 0 = omega arith in y ∙ sym (ap as_count (not-strict f y))
  ]

-- how many events e is strictly before
pub row-size : (w : List ℕ) (n e : ℕ) (r : Row) (k : ℕ) → Ready n w → e < n → r ≡ row_of w e
    → k ≡ sum_below 128 (has r.strict) → k ≡ sum_below n (strictly (cell_of w) e)
row-size w n e r k h l q z =
    let b : e < 128 = omega (arith, h.few) in
    z ∙ set-size r.strict n (strictly (cell_of w) e) h.few (λ f _. strict-bit w h.good e b r q f)
    (λ f i. omega (arith, h.beyond e f l i, cell w h.good e b r q f))
