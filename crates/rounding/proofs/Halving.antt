-- A value that the format holds is its own rounding. So half of a rounded quotient is the rounded half of it: halving after the
-- division gives the same f64 as halving before it (`either_order`), since neither halving rounds.
use Rattle.std.specs.Prelude.{◌≡◌, refl, ℕ, ◌+◌, ◌*◌, ◌^◌, ◌≤◌, ◌<◌, Bool, true, cond, T, Float}
use Rattle.std.proofs.Math.Path.{sym, ap}
use Rattle.std.proofs.Common.{◌∙◌, subst, inl, inr, ⊎_elim, zero-le, le_trans, le_of_eq, lt_of_lt_of_le, lt_of_le_of_lt, mul-one, one-mul, zero-mul, mul-pos, mul-le-mul_right, mul-le-mul_left, mul-lt-mul_of_pos_right, le_of_mul-le-mul_right, eq-zero-or-pos, arith, lit≤, lit<, pow_pos}
use Rattle.std.proofs.Math.Nat.{mul_assoc, mul_right_comm, eq_of_mul-eq-mul_right}
use Rattle.std.proofs.Math.Bool.{false}
use Rattle.std.specs.Bool.{beq}
use Rattle.std.specs.Float.{Format}
use Rattle.std.specs.Float.Ieee.{binary64, emax, low, round, eq, fits, div}
use Rattle.std.specs.Float.Ieee.Fits.{round-fits}
use Rattle.std.specs.Float.Ieee.Exact.{HasValue}
use Rattle.std.specs.Float.Ieee.Scale.{finite, grid, grid_scale, round_same, normal_of_fraction}
use Rattle.std.specs.Float.Ieee.Positive.{num, den, den_pos}
use Rattle.spec.specs.Rounding.{nearest, float_of, negative, apart, gap, Rounded}
use Rattle.rounding.proofs.Correct.{beq-refl, beq-eq, factor, parts, eq_of, rounded, round-value}
use Rattle.rounding.proofs.Unique.{rounds-to, at-most-twice}
use Rattle.rounding.proofs.Operations.{div_is}
use Rattle.rounding.specs.Whole.{exact}
use Rattle.rounding.proofs.Whole.{divided, halved, half-divided}

module _ (f : Format) (s : Bool) (a c : ℕ) (x : Float) (C : 0 < c) (A : a < 2 ^ emax f * c) (h : T (fits f x)) (v : HasValue x s a c) where
  size_is : num x * c ≡ a * den x
  size_is = (parts x s a c v).2

  here : gap s a c x ≡ 0
  here =
      ap (λ (z : Bool). cond (beq s z) (apart (num x * c) (a * den x)) (num x * c + a * den x)) (parts x s a c v).1
      ∙ ap (λ (z : Bool). cond z (apart (num x * c) (a * den x)) (num x * c + a * den x)) (beq-refl s)
      ∙ same (num x * c) (a * den x) size_is
    where
      same : (i j : ℕ) → i ≡ j → apart i j ≡ 0
      same i j e = omega arith

  none : (y : Float) → gap s a c x * den y ≡ 0
  none y = ap (λ (z : ℕ). z * den y) here ∙ zero-mul (den y)

  settled : (y : Float) → T (finite y) → gap s a c y ≡ 0 → T (eq x y)
  settled y t e = go (beq s (negative y)) (beq-eq s (negative y)) e
    where
      level : (i j : ℕ) → apart i j ≡ 0 → i ≡ j
      level i j g = omega arith

      first : (i j : ℕ) → i + j ≡ 0 → i ≡ 0
      first i j g = omega arith

      second : (i j : ℕ) → i + j ≡ 0 → j ≡ 0
      second i j g = omega arith

      go : (b : Bool) → (b ≡ true → negative y ≡ s) → cond b (apart (num y * c) (a * den y)) (num y * c + a * den y) ≡ 0 → T (eq x y)
      go true g w =
          eq_of x y (parts x s a c v).0 t
          (eq_of_mul-eq-mul_right c C (num x * den y) (num y * den x)
          (mul_right_comm (num x) (den y) c ∙ ap (λ (z : ℕ). z * den y) size_is ∙ mul_right_comm a (den x) (den y) ∙ ap (λ (z : ℕ). z * den x) (sym (level (num y * c) (a * den y) w)) ∙ mul_right_comm (num y) c (den x)))
          (inl ((parts x s a c v).1 ∙ sym (g refl)))
      go false g w =
          let ny : num y ≡ 0 = factor (num y) c C (first (num y * c) (a * den y) w) in
          let na : a ≡ 0 = factor a (den y) (den_pos y) (second (num y * c) (a * den y) w) in
          let nx : num x ≡ 0 = factor (num x) c C (size_is ∙ ap (λ (z : ℕ). z * den x) na ∙ zero-mul (den x)) in
          let zx : num x * den y ≡ 0 = ap (λ (z : ℕ). z * den y) nx ∙ zero-mul (den y) in
          eq_of x y (parts x s a c v).0 t (zx ∙ sym (ap (λ (z : ℕ). z * den x) ny ∙ zero-mul (den x))) (inr zx)

  pub own-rounding : x ≡ round f s a c
  own-rounding =
      rounds-to f s a c x C A
      record {
        held = h;
        number = (parts x s a c v).0;
        sign = (parts x s a c v).1;
        near = λ y g t. subst (λ (z : ℕ). z ≤ gap s a c y * den x) (sym (none y)) zero-le;
        even = λ y g t e. inl (settled y t (factor (gap s a c y) (den x) (den_pos x) (sym e ∙ none y)));
      }

-- ---- n / d, rounded, and then halved
module _ (n d : ℕ) (N : n ≤ 2 ^ 53) (D : 0 < d) (L : d ≤ 2 ^ 53) where
  abbrev l : ℕ
  l = 2 ^ low binary64

  abbrev G : ℕ
  G = grid binary64 n d

  abbrev H : ℕ
  H = grid binary64 n (2 * d)

  abbrev y : Float
  y = round binary64 false n (2 * d)

  D2 : 0 < 2 * d
  D2 = mul-pos (lit< tt) D

  below : (c : ℕ) → 0 < c → n < 2 ^ 1023 * c
  below c C = lt_of_lt_of_le (lt_of_le_of_lt N (lit< tt)) (le_trans (le_of_eq (sym (mul-one (2 ^ 1023)))) (mul-le-mul_left (2 ^ 1023) C))

  x-value : HasValue (round binary64 false n d) false G l
  x-value = round-value binary64 false n d D (below d D)

  y-value : HasValue y false H l
  y-value = round-value binary64 false n (2 * d) D2 (below (2 * d) D2)

  -- twice the fraction has twice the value
  twice : 0 < n → G ≡ H * 2
  twice P =
      let x = round binary64 false n d in
      let g = grid binary64 (n * 2) (2 * d) in
      let w : HasValue (round binary64 false (n * 2) (2 * d)) false g l = round-value binary64 false (n * 2) (2 * d) D2 (lt_of_le_of_lt (mul-le-mul_right 2 N) (lt_of_lt_of_le (lit< tt) (le_trans (le_of_eq (sym (mul-one (2 ^ 1023)))) (mul-le-mul_left (2 ^ 1023) D2)))) in
      let u : HasValue x false g l = subst (λ (z : Float). HasValue z false g l) (round_same binary64 false (n * 2) (2 * d) n d D2 D (mul_assoc n 2 d)) w in
      let e : G ≡ g = eq_of_mul-eq-mul_right (den x) (den_pos x) G g (sym (parts x false G l x-value).2 ∙ (parts x false g l u).2) in
      let few : 2 ^ 52 * (2 * d) ≤ n * l = le_trans (mul-le-mul_left (2 ^ 52) (mul-le-mul_left 2 L)) (le_trans (lit≤ tt) (le_trans (le_of_eq (sym (one-mul l))) (mul-le-mul_right l P))) in
      e ∙ grid_scale binary64 n (2 * d) 1 D2 (normal_of_fraction binary64 n (2 * d) D2 few)

  small : H < 2 ^ 1023 * l
  small =
      let r : Rounded binary64 false n (2 * d) y = rounded binary64 false n (2 * d) D2 (below (2 * d) D2) in
      let a : num y * (2 * d) ≤ 2 * n * den y = at-most-twice binary64 n (2 * d) y r in
      let b : num y * 2 ≤ num y * (2 * d) = mul-le-mul_left (num y) (mul-le-mul_left 2 D) in
      let c : num y ≤ n * den y = half (num y) (n * den y) (le_trans b a) (mul_assoc 2 n (den y)) in
      let h : H * den y ≤ n * l * den y = le_trans (le_of_eq (sym (parts y false H l y-value).2)) (le_trans (mul-le-mul_right l c) (le_of_eq (mul_right_comm n (den y) l))) in
      lt_of_le_of_lt (le_of_mul-le-mul_right h (den_pos y)) (mul-lt-mul_of_pos_right {n = 2 ^ 1023} (lt_of_le_of_lt N (lit< tt)) (pow_pos 1074))
    where
      half : (i j : ℕ) {k : ℕ} → i * 2 ≤ k → k ≡ 2 * j → i ≤ j
      half i j g e = omega arith

  some : 0 < n → div binary64 (nearest n d) (float_of 2) ≡ nearest n (2 * d)
  unfolding nearest
  some P =
      div_is binary64 G l 2 1 (pow_pos 1074) (lit< tt) (nearest n d) (float_of 2) x-value (exact 2 (lit≤ tt)) (lit< tt)
      ∙ round_same binary64 false (G * 1) (l * 2) H l (mul-pos {n = 2} (pow_pos 1074) (lit< tt)) (pow_pos 1074) (ap (λ (z : ℕ). z * l) (mul-one G ∙ twice P) ∙ mul_right_comm H 2 l ∙ mul_assoc H l 2)
      ∙ sym (own-rounding binary64 false H l y (pow_pos 1074) small (round-fits binary64 false n (2 * d)) y-value)

  zero-case : n ≡ 0 → div binary64 (nearest n d) (float_of 2) ≡ nearest n (2 * d)
  unfolding nearest float_of
  zero-case e =
      ap (λ (z : Float). div binary64 z (float_of 2)) (round_same binary64 false n d 0 1 D (lit< tt) (mul-one n ∙ e ∙ sym (zero-mul d)))
      ∙ div_is binary64 0 1 2 1 (lit< tt) (lit< tt) (float_of 0) (float_of 2) (exact 0 (lit≤ tt)) (exact 2 (lit≤ tt)) (lit< tt)
      ∙ round_same binary64 false 0 2 n (2 * d) (lit< tt) D2 (zero-mul (2 * d) ∙ sym (ap (λ (z : ℕ). z * 2) e))

  pub halved-after : div binary64 (nearest n d) (float_of 2) ≡ nearest n (2 * d)
  halved-after = ⊎_elim zero-case some (eq-zero-or-pos n)

  -- halving after the division gives the same f64
  pub either_order : n < 2 ^ 53 → div binary64 (div binary64 (float_of n) (float_of d)) (float_of 2) ≡ div binary64 (div binary64 (float_of n) (float_of 2)) (float_of d)
  either_order h =
      ap (λ (z : Float). div binary64 z (float_of 2)) (divided n d N D L)
      ∙ halved-after
      ∙ sym (ap (λ (z : Float). div binary64 z (float_of d)) (halved n N) ∙ half-divided n d h D L)
