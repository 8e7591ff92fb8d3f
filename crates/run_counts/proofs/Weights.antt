-- The weights of a row's arcs, place after place.
use Prim.Native.Nat.{ℕ, zero, suc, ◌+◌, ◌-◌, ◌*◌, ◌/◌, ◌%◌, ◌≤◌, ◌<◌, min}
use mathlib.Core.Path.{◌≡◌, refl, sym, ap, ◌∙◌}
use mathlib.Core.List.{List}
use native.Mathlib.Nat.{mul_assoc, one-mul}
use native.Mathlib.Decide.{dec_lt}
use native.Mathlib.Omega.{arith}
use lib.Bits.{bit_and}
use lib.ListN.{get_or}
use Rattle.spec.specs.Lists.{up_to, sum_of}
use Rattle.lists.specs.Laws
use Rattle.lists.specs.Grouped.{sum_of-next}
use Rattle.bit_sets.specs.Bits.{bit, bit-most, bit-and}
use Rattle.arc_sets.specs.Sets.{digit_at, more_at, weight_at, arc_at, Within}
use Rattle.arc_sets.proofs.Digits.{digit-zero}
use Rattle.steps.specs.StepArrays.{Within32}
use Rattle.run_counts.specs.Tally.{weighed, size_of, both_of}

-- ---- one place

-- a bit times something
pub times_none : {b : ℕ} (k : ℕ) → b ≡ 0 → b * k ≡ 0
times_none k e = rw e (omega arith)

times-one : {b : ℕ} (k : ℕ) → b ≡ 1 → b * k ≡ k
times-one k e = rw e (one-mul k)

-- the set has the place not, or it has it
weighed-none : (sets : List ℕ) (row set p : ℕ) → bit set p ≡ 0 → weighed sets row set p ≡ 0
unfolding weighed
weighed-none sets row set p e = times_none (1 + more_at sets row p) e

weighed-one : {v : ℕ} (sets : List ℕ) (row set p : ℕ) → bit set p ≡ 1 → v ≡ 1 + more_at sets row p → v ≡ weighed sets row set p
unfolding weighed
weighed-one sets row set p e q = q ∙ sym (times-one (1 + more_at sets row p) e)

-- ---- the places of a set, walked

-- places that add nothing
sum-pass : (f : ℕ → ℕ) (d k : ℕ) → ((j : ℕ) → d ≤ j → j < d + k → f j ≡ 0) → sum_of f (up_to d) ≡ sum_of f (up_to (d + k))
sum-pass f d zero z = ap (λ (n : ℕ). sum_of f (up_to n)) (omega arith)
sum-pass f d (suc k) z =
    let q : d + k + 1 ≡ d + suc k = omega arith in
    omega (
      arith,
      sum-pass f d k (λ j l h. z j l (omega arith)),
      sum_of-next f (d + k) _ 0 refl (sym (z (d + k) (omega arith) (omega arith))),
      ap (λ (n : ℕ). sum_of f (up_to n)) q,
    )

module _ (sets : List ℕ) (row set : ℕ) where
  pub sum-skip : (d i : ℕ) → d ≤ i → ((j : ℕ) → d ≤ j → j < i → bit set j ≡ 0) → sum_of (weighed sets row set) (up_to d) ≡ sum_of (weighed sets row set) (up_to i)
  sum-skip d i h z =
      sum-pass (weighed sets row set) d (i - d) (λ j l k. weighed-none sets row set j (z j l (omega arith)))
      ∙ ap (λ (n : ℕ). sum_of (weighed sets row set) (up_to n)) (omega arith)

  -- the next place of the set
  pub sum-place : (d i r v : ℕ) → d ≤ i → ((j : ℕ) → d ≤ j → j < i → bit set j ≡ 0) → bit set i ≡ 1 → r ≡ sum_of (weighed sets row set) (up_to d) → v ≡ 1 + more_at sets row i
      → r + v ≡ sum_of (weighed sets row set) (up_to (i + 1))
  sum-place d i r v h z b e q = sum_of-next (weighed sets row set) i r v (e ∙ sum-skip d i h z) (weighed-one sets row set i b q)

-- ---- a row

pub row_within : (sets : List ℕ) (row : ℕ) → row < 128 → Within 32 sets → Within32 (get_or sets row 0)
row_within sets row l W p h = W row p l h

-- the whole row is what its own set has
pub row-weighed : (sets : List ℕ) (row : ℕ) → sum_of (weighed sets row (get_or sets row 0)) (up_to 64) ≡ sum_of (weight_at sets row) (up_to 64)
unfolding weighed weight_at
row-weighed sets row = refl

-- where both words of weights are 0, each arc weighs 1
module _ (sets : List ℕ) (row : ℕ) (a : get_or sets (128 + 2 * row) 0 ≡ 0) (b : get_or sets (128 + 2 * row + 1) 0 ≡ 0) where
  no_more : (p : ℕ) → p < 32 → more_at sets row p ≡ 0
  unfolding more_at
  no_more p l = ap (λ (z : ℕ). digit_at z (p % 16)) word ∙ digit-zero (p % 16)
    where
      word : get_or sets (128 + 2 * row + p / 16) 0 ≡ 0
      word = elim (dec_lt p 16) [
        | yes h ↦ ap (λ (z : ℕ). get_or sets z 0) (omega arith) ∙ a
        | no h ↦ ap (λ (z : ℕ). get_or sets z 0) (omega arith) ∙ b
      ]

  pub row_plain : Within32 (get_or sets row 0) → sum_of (bit (get_or sets row 0)) (up_to 64) ≡ sum_of (weight_at sets row) (up_to 64)
  unfolding weight_at
  row_plain W = Laws.sum_of-same _ _ (up_to 64) (λ p i. elim (dec_lt p 32) [
    | yes h ↦ sym (ap (λ (z : ℕ). bit (get_or sets row 0) p * (1 + z)) (no_more p h) ∙ omega arith)
    | no h ↦ W p (omega arith) ∙ sym (times_none (1 + more_at sets row p) (W p (omega arith)))
  ])

pub size-of : (sets : List ℕ) (at t : ℕ) → sum_of (weight_at sets (at + t)) (up_to 64) ≡ size_of sets at t
unfolding size_of arc_at
size-of sets at t = refl

-- ---- the places of two rows

-- a place that both sets have
both_bits : (a b p : ℕ) → bit (bit_and a b) p ≡ bit b p * bit a p
both_bits a b p = go (bit a p) (bit b p) (bit-and a b p) (bit-most a p) (bit-most b p)
  where
    go : {z : ℕ} (x y : ℕ) → z ≡ min x y → x < 2 → y < 2 → z ≡ y * x
    go zero y e h k = omega (arith, e)
    go (suc zero) zero e h k = omega (arith, e)
    go (suc zero) (suc zero) e h k = omega (arith, e)
    go (suc zero) (suc (suc y)) e h k = absurd (omega arith)
    go (suc (suc x)) y e h k = absurd (omega arith)

pub both-within : (a b : ℕ) → Within32 a → Within32 (bit_and a b)
both-within a b W p h = omega (arith, bit-and a b p, W p h)

pub both_of_lem : (sets : List ℕ) (t : ℕ) → sum_of (weighed sets (32 + t) (bit_and (get_or sets (32 + t) 0) (get_or sets (64 + t) 0))) (up_to 64) ≡ both_of sets t
unfolding weighed both_of arc_at weight_at
both_of_lem sets t = Laws.sum_of-same _ _ (up_to 64) (λ p i.
    ap (λ (z : ℕ). z * (1 + more_at sets (32 + t) p)) (both_bits (get_or sets (32 + t) 0) (get_or sets (64 + t) 0) p)
    ∙ mul_assoc (bit (get_or sets (64 + t) 0) p) (bit (get_or sets (32 + t) 0) p) (1 + more_at sets (32 + t) p))
