-- All pairs, and what is in the rows: of an independent pair neither event is in the other's row, of a synchronous one
-- each, of any other one. And an event on a loop is in its own row. In a closed order synchronous events are on a loop.
use Rattle.std.specs.Prelude.{◌≡◌, Bool, ◌&&◌, map}
use Rattle.std.proofs.Math.Path.{refl, ap}
use Rattle.std.proofs.Math.Bool.{true, false, not}
use Prim.Native.Nat.{ℕ, zero, suc, ◌+◌, ◌<◌, min}
use Rattle.std.proofs.Math.Decide.{dec_le}
use Rattle.std.proofs.Common.{add-one, ne_eqb}
use native.Mathlib.Omega.{arith}
use Rattle.spec.specs.Lists.{up_to, from, sum, as_count}
use Rattle.lists.specs.Laws.{count-sum, sum_of-zero, sum_of-in, in-up_to}
use Rattle.lists.specs.Running.{sum-next}
use Rattle.order.specs.Below.{sum_below, sum-suc, sum_one}
use Rattle.order.specs.Order.{Order}
use Rattle.bit_sets.specs.Sums.{sum-zero, sum-add, sum_same}
use Rattle.row_independence.specs.Pairs.{ordered_in, independent_in, independents_below, independent_pairs, ordered}
use Rattle.row_independence.specs.Pairs.{synchronous, synchronous_pairs}
use Rattle.row_independence.specs.Ordered.{row_size}
use Rattle.row_independence.proofs.Ordered.{ordered-is}
use Rattle.row_independence.specs.Balance.{pairs_of, in_rows, loops_of}

module _ (c : ℕ → ℕ → ℕ) where
  one_of : (e f : ℕ) → (e ≡ f → ⊥)
      → as_count (independent_in c e f) + (ordered c e f + ordered c f e) ≡ 1 + synchronous c e f
  unfolding independent_in ordered synchronous as_count
  one_of e f d = rw (ne_eqb e f d) (go (ordered_in c e f) (ordered_in c f e))
    where
      go : (a b : Bool) → as_count (not a && not b) + (as_count a + as_count b) ≡ 1 + min (as_count a) (as_count b)
      go true true = refl
      go true false = refl
      go false true = refl
      go false false = refl

  -- at the higher event of each pair
  below_one : (e : ℕ)
      → independents_below c e + (sum_below e (ordered c e) + sum_below e (λ f. ordered c f e))
      ≡ e + sum_below e (synchronous c e)
  unfolding independents_below sum_below
  below_one e = omega (
    arith,
    count-sum (independent_in c e) (up_to e),
    sum-add e (λ f. as_count (independent_in c e f)) (λ f. ordered c e f + ordered c f e),
    sum-add e (ordered c e) (λ f. ordered c f e),
    sum_same e (λ f. as_count (independent_in c e f) + (ordered c e f + ordered c f e)) (λ f. 1 + synchronous c e f)
        (λ f l. one_of e f (omega arith)),
    sum-add e (λ f. 1) (synchronous c e),
    sum_one e,
  )

  pub balance : (k : ℕ) → independent_pairs k c + in_rows k k c ≡ pairs_of k + synchronous_pairs k c + loops_of k c
  unfolding independent_pairs synchronous_pairs in_rows row_size pairs_of loops_of sum up_to from
  balance zero = omega (
    arith,
    sum-zero (λ e. sum_below 0 (ordered c e)),
    sum-zero (λ e. e),
    sum-zero (λ e. sum_below e (synchronous c e)),
    sum-zero (λ e. ordered c e e),
  )
  balance (suc k) = omega (
    arith,
    balance k,
    below_one k,
    ap (λ (z : ℕ). sum (map (independents_below c) (up_to z))) (add-one k),
    sum-next (independents_below c) k _ _ refl refl,
    sum-suc k (λ e. sum_below (suc k) (ordered c e)),
    sum_same k (λ e. sum_below (suc k) (ordered c e)) (λ e. sum_below k (ordered c e) + ordered c e k)
        (λ e _. sum-suc k (ordered c e)),
    sum-add k (λ e. sum_below k (ordered c e)) (λ e. ordered c e k),
    sum-suc k (ordered c k),
    sum-suc k (λ e. e),
    sum-suc k (λ e. sum_below e (synchronous c e)),
    sum-suc k (λ e. ordered c e e),
  )

-- ---- loops

-- two synchronous events are on a loop
loop-of : (n : ℕ) (c : ℕ → ℕ → ℕ) → Order n c → (e f : ℕ) → e < n → f < n → 0 < synchronous c e f
    → 0 < ordered c e e
unfolding synchronous
loop-of n c o e f l m p =
    let a : 0 < c e f = omega (arith, ordered-is c e f) in
    let b : 0 < c f e = omega (arith, ordered-is c f e) in
    omega (arith, o.trans e f e l m l a b, ordered-is c e e)

-- an event that is on no loop is in no synchronous pair
pub none_below : (n : ℕ) (c : ℕ → ℕ → ℕ) → Order n c → (e : ℕ) → e < n → ordered c e e ≡ 0
    → sum_below e (synchronous c e) ≡ 0
unfolding sum_below
none_below n c o e l z = sum_of-zero (synchronous c e) (up_to e) (λ f i. none f (in-up_to e i))
  where
    none : (f : ℕ) → f < e → synchronous c e f ≡ 0
    none f m = elim (dec_le 1 (synchronous c e f)) [
      | yes p ↦ absurd (omega (arith, loop-of n c o e f l (omega arith) p))
      | no p ↦ omega arith
    ]

pub none-synchronous : (n : ℕ) (c : ℕ → ℕ → ℕ) → Order n c → loops_of n c ≡ 0 → synchronous_pairs n c ≡ 0
unfolding loops_of synchronous_pairs sum_below
none-synchronous n c o z = sum_of-zero _ (up_to n) (λ e i.
    none_below n c o e (in-up_to n i) (omega (arith, sum_of-in (λ g. ordered c g g) e (up_to n) i)))
