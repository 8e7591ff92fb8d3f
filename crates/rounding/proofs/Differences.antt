-- The difference of two fractions as an f64: it is rounded once, with the sign that it has, and it is never -0. A whole number and a
-- value of the format that differ are one unit of the format apart at least, which is not rounded to zero.
use Rattle.std.specs.Prelude.{◌≡◌, ℕ, ◌-◌, ◌*◌, ◌^◌, ◌≤◌, ◌<◌, Bool, T, Float}
use Rattle.std.proofs.Common.{sym, ap₂, ◌∙◌, subst, le_trans, le_of_eq, lt_of_not-le, lt_of_le_of_lt, sub-le, one-mul, mul-pos, mul_right_comm, mul-le-mul_right, mul-lt-mul_of_pos_right, true≢false, lt-ltb, le-ltb, pow_pos}
use Rattle.std.proofs.Math.Path.{ap}
use Rattle.std.proofs.Math.Nat.{sub-pos_iff_lt}
use Rattle.std.proofs.Math.Decide.{dec_le}
use Rattle.std.proofs.Math.Bool.{true, false, cond}
use Rattle.std.specs.Float.{Format}
use Rattle.std.specs.Float.Ieee.{binary64, low, round, fits}
use Rattle.std.specs.Float.Ieee.Scale.{finite}
use Rattle.std.specs.Float.Ieee.Positive.{num, den, den_pos, first_pos}
use Rattle.spec.specs.Rounding.{nearest_difference, negative, Rounded}
use Rattle.rounding.proofs.Operations.{sub-mul}
use Rattle.rounding.proofs.Correct.{units_of, rounded, not-zero}

-- ---- a / c - b / c

module _ (a b c : ℕ) (C : 0 < c) where
  upward : b ≤ a → nearest_difference a b c ≡ round binary64 false (a - b) c
  unfolding nearest_difference
  upward h = ap (λ (t : Bool). cond t (round binary64 true (b - a) c) (round binary64 false (a - b) c)) (le-ltb a b h)

  downward : a < b → nearest_difference a b c ≡ round binary64 true (b - a) c
  unfolding nearest_difference
  downward h = ap (λ (t : Bool). cond t (round binary64 true (b - a) c) (round binary64 false (a - b) c)) (lt-ltb a b h)

  pub enough : a < 2 ^ 1023 * c → b ≤ a → Rounded binary64 false (a - b) c (nearest_difference a b c)
  enough A h = subst (Rounded binary64 false (a - b) c) (sym (upward h)) (rounded binary64 false (a - b) c C (lt_of_le_of_lt (sub-le a b) A))

  pub lacking : b < 2 ^ 1023 * c → a < b → Rounded binary64 true (b - a) c (nearest_difference a b c)
  lacking B h = subst (Rounded binary64 true (b - a) c) (sym (downward h)) (rounded binary64 true (b - a) c C (lt_of_le_of_lt (sub-le b a) B))

-- ---- a value of the format, minus a whole number

unit-apart : (f : Format) (x : Float) (n : ℕ) → T (fits f x) → T (finite x) → num x < n * den x → den x ≤ (n * den x - num x) * 2 ^ low f
unit-apart f x n h t l =
    let u = units_of f x h t in
    let v = u.m * 2 ^ u.j in
    let w = n * 2 ^ low f - v in
    let e : (n * den x - num x) * 2 ^ low f ≡ w * den x =
    sub-mul (n * den x) (num x) (2 ^ low f) ∙ ap₂ ◌-◌ (mul_right_comm n (den x) (2 ^ low f)) u.is ∙ sym (sub-mul (n * 2 ^ low f) v (den x)) in
    let p : 0 < w = first_pos w (den x) (subst (λ (z : ℕ). 0 < z) e (mul-pos (sub-pos_iff_lt.1 l) (pow_pos (low f)))) in
    le_trans (le_of_eq (sym (one-mul (den x)))) (le_trans (mul-le-mul_right (den x) p) (le_of_eq (sym e)))

pub not-minus-zero : (x : Float) (n : ℕ) → T (fits binary64 x) → T (finite x) → num x < 2 ^ 1023 * den x → n < 2 ^ 1023
    → negative (nearest_difference (num x) (n * den x) (den x)) ≡ true → 0 < num (nearest_difference (num x) (n * den x) (den x))
not-minus-zero x n h t A N s = elim (dec_le (n * den x) (num x)) [
  | yes l ↦ absurd (true≢false (sym s ∙ (enough (num x) (n * den x) (den x) (den_pos x) A l).sign))
  | no m ↦
      let l = lt_of_not-le m in
      subst (λ (z : Float). 0 < num z) (sym (downward (num x) (n * den x) (den x) (den_pos x) l))
      (not-zero binary64 true (n * den x - num x) (den x) (den_pos x)
      (lt_of_le_of_lt (sub-le (n * den x) (num x)) (mul-lt-mul_of_pos_right N (den_pos x))) (unit-apart binary64 x n h t l))
]
