-- Whole numbers as f64. Up to 2 ^ 53 each is an f64 exactly, so their sums, products and differences that stay there lose
-- nothing: an operation gives the exact fraction rounded once, and the fraction is a whole number. Half of a whole number is
-- exact too, so that a number halved and then divided is rounded once.
use Rattle.std.specs.Prelude.{◌≡◌, ℕ, ◌+◌, ◌-◌, ◌*◌, ◌^◌, ◌≤◌, ◌<◌, Bool, Float}
use Rattle.std.proofs.Common.{sym, ◌∙◌, mul-one, one-mul, zero-lt-suc, lt_of_lt_of_le, mul-lt-mul_of_pos_right, mul_assoc, add_comm, add_assoc, arith, le-ltb, lit≤, pow_pos}
use Rattle.std.proofs.Math.Path.{ap, ap₂}
use Rattle.std.proofs.Math.Bool.{true, false, cond}
use Rattle.std.specs.Float.Ieee.{binary64, round, add, sub, mul, div}
use Rattle.std.specs.Float.Ieee.Exact.{HasValue, round_exact}
use Rattle.spec.specs.Rounding.{nearest, float_of}
use Rattle.rounding.specs.Operations.{round_difference}
use Rattle.rounding.proofs.Operations.{add_is, sub_is, mul_is, div_is}
use Rattle.rounding.specs.Whole.{exact}

-- ---- sums, products and differences

module _ (n m : ℕ) (N : n ≤ 2 ^ 53) (M : m ≤ 2 ^ 53) where
  pub add-whole : add binary64 (float_of n) (float_of m) ≡ float_of (n + m)
  unfolding float_of
  add-whole =
      add_is binary64 n 1 m 1 (zero-lt-suc 0) (zero-lt-suc 0) (float_of n) (float_of m) (exact n N) (exact m M)
      ∙ ap₂ (λ (i j : ℕ). round binary64 false (i + j) 1) (mul-one n) (mul-one m)

  pub mul-whole : mul binary64 (float_of n) (float_of m) ≡ float_of (n * m)
  unfolding float_of
  mul-whole = mul_is binary64 n 1 m 1 (zero-lt-suc 0) (zero-lt-suc 0) (float_of n) (float_of m) (exact n N) (exact m M)

  pub sub-whole : m ≤ n → sub binary64 (float_of n) (float_of m) ≡ float_of (n - m)
  unfolding float_of
  sub-whole h =
      sub_is binary64 n 1 m 1 (zero-lt-suc 0) (zero-lt-suc 0) (float_of n) (float_of m) (exact n N) (exact m M)
      ∙ ap₂ (λ (i j : ℕ). round_difference binary64 i j 1) (mul-one n) (mul-one m)
      ∙ ap (λ (t : Bool). cond t (round binary64 true (m - n) 1) (round binary64 false (n - m) 1)) (le-ltb n m h)

-- A sum of whole numbers is the same f64 in whatever order they are added, while the partial sums are at most 2 ^ 53: each of
-- them is exact. So two may change places, and three may be grouped either way.
pub add_turned : (n m : ℕ) → n ≤ 2 ^ 53 → m ≤ 2 ^ 53 → add binary64 (float_of n) (float_of m) ≡ add binary64 (float_of m) (float_of n)
add_turned n m N M = add-whole n m N M ∙ ap float_of (add_comm n m) ∙ sym (add-whole m n M N)

pub add-grouped : (n m k : ℕ) → n + m ≤ 2 ^ 53 → m + k ≤ 2 ^ 53
    → add binary64 (add binary64 (float_of n) (float_of m)) (float_of k) ≡ add binary64 (float_of n) (add binary64 (float_of m) (float_of k))
add-grouped n m k h g =
    let N : n ≤ 2 ^ 53 = omega arith in
    let M : m ≤ 2 ^ 53 = omega arith in
    let K : k ≤ 2 ^ 53 = omega arith in
    ap (λ (x : Float). add binary64 x (float_of k)) (add-whole n m N M)
    ∙ add-whole (n + m) k h K
    ∙ ap float_of (add_assoc n m k)
    ∙ sym (ap (add binary64 (float_of n)) (add-whole m k M K) ∙ add-whole n (m + k) N g)

-- ---- quotients and halves

-- a quotient is rounded once
pub divided : (n d : ℕ) → n ≤ 2 ^ 53 → 0 < d → d ≤ 2 ^ 53 → div binary64 (float_of n) (float_of d) ≡ nearest n d
unfolding nearest
divided n d h D L =
    div_is binary64 n 1 d 1 (zero-lt-suc 0) (zero-lt-suc 0) (float_of n) (float_of d) (exact n h) (exact d L) D
    ∙ ap₂ (round binary64 false) (mul-one n) (one-mul d)

pub half-exact : (n : ℕ) → n < 2 ^ 53 → HasValue (nearest n 2) false n 2
unfolding nearest
half-exact n h =
    round_exact binary64 false n 2 n 1073 (zero-lt-suc 1) h
    (lt_of_lt_of_le (mul-lt-mul_of_pos_right h (pow_pos 1073)) (lit≤ tt))
    (sym (mul_assoc n (2 ^ 1073) 2))

pub halved : (n : ℕ) → n ≤ 2 ^ 53 → div binary64 (float_of n) (float_of 2) ≡ nearest n 2
halved n h = divided n 2 h (zero-lt-suc 1) (lit≤ tt)

-- half of n, divided by d: the division alone rounds
pub half-divided : (n d : ℕ) → n < 2 ^ 53 → 0 < d → d ≤ 2 ^ 53 → div binary64 (nearest n 2) (float_of d) ≡ nearest n (2 * d)
unfolding nearest
half-divided n d h D L =
    div_is binary64 n 2 d 1 (zero-lt-suc 1) (zero-lt-suc 0) (nearest n 2) (float_of d) (half-exact n h) (exact d L) D
    ∙ ap (λ (z : ℕ). round binary64 false z (2 * d)) (mul-one n)
