-- A fraction a / b rounded to a whole number, a tie to the even one (the toolchain's `closest`): no whole number is nearer, and
-- where another is as near, the chosen one is even. By cases: which of the two neighbours was chosen, and where the other number
-- stands. Nothing here is about floats.
use Rattle.std.specs.Prelude.{◌≡◌, refl, not, T, eqb}
use Rattle.std.proofs.Common.{sym, ap, ◌∙◌, subst, inl, inr, le_of_eq, le_of_lt, eq-or-lt_of_le, lt_of_not-le, suc-mul, mul-le-mul_right, div-add-mod', mod-lt, arith, leb→le, eqb→eq}
use Prim.Native.Nat.{ℕ, zero, suc, ◌+◌, ◌*◌, ◌/◌, ◌%◌, ◌≤◌, ◌<◌, compare, Ordering}
use Rattle.std.proofs.Math.Decide.{dec_le}
use Rattle.std.proofs.Math.Dec.{is_le, compare_is_eq, nleb→lt, eqb_refl}
use Rattle.std.proofs.Math.Arith.{lt_of_le-ne}
use Rattle.std.specs.Float.Ieee.{nearest}
use Rattle.std.specs.Float.Ieee.Nearest.{closest}
use Rattle.spec.specs.Rounding.{apart}
use Rattle.rounding.specs.Closest.{Tie}

-- ---- what `compare` says
abbrev Cmp : Ordering → ℕ → ℕ → Type 0
Cmp Ordering.lt a b = a < b
Cmp Ordering.eq a b = a ≡ b
Cmp Ordering.gt a b = b < a

cmp : (a b : ℕ) → Cmp (compare a b) a b
cmp a b = go (compare a b) (leb→le a b) (nleb→lt a b) (eqb→eq a b) (λ (e : a ≡ b). subst (λ (x : ℕ). T (eqb a x)) e (eqb_refl a))
  where
    go : (o : Ordering) → (T (is_le o) → a ≤ b) → (T (not (is_le o)) → b < a) → (T (compare_is_eq o) → a ≡ b) → (a ≡ b → T (compare_is_eq o)) → Cmp o a b
    go Ordering.lt h k e n = lt_of_le-ne (h tt) n
    go Ordering.eq h k e n = e tt
    go Ordering.gt h k e n = k tt

-- ---- the number q that is chosen from w and w + 1, where a is w * b + r
data Chosen (w b r q : ℕ) : Type 0 where
  lower : q ≡ w → q * b ≡ w * b → r * 2 ≤ b → (r * 2 ≡ b → w % 2 ≡ 0) → Chosen w b r q
  upper : q ≡ suc w → q * b ≡ w * b + b → b ≤ r * 2 → (r * 2 ≡ b → w % 2 ≡ 1) → Chosen w b r q

chosen : (w b r : ℕ) (o : Ordering) → Cmp o (r * 2) b → Chosen w b r (nearest w o)
chosen w b r Ordering.lt h = lower refl refl (le_of_lt h) (λ e. omega arith)
chosen w b r Ordering.gt h = upper refl (suc-mul w b) (le_of_lt h) (λ e. omega arith)
chosen w b r Ordering.eq h = go (w % 2) refl
  where
    odd : (k : ℕ) → w % 2 ≡ suc k → w % 2 ≡ 1
    odd k e = omega arith

    plus : (x y : ℕ) → y ≡ 1 → x + y ≡ suc x
    plus x y e = omega arith

    go : (d : ℕ) → w % 2 ≡ d → Chosen w b r (w + w % 2)
    go zero e = let q : w + w % 2 ≡ w = omega arith in lower q (ap (λ (z : ℕ). z * b) q) (le_of_eq h) (λ _. e)
    go (suc k) e = let q : w + w % 2 ≡ suc w = plus w (w % 2) (odd k e) in upper q (ap (λ (z : ℕ). z * b) q ∙ suc-mul w b) (le_of_eq (sym h)) (λ _. odd k e)

-- ---- where a number t stands
data Place (w b t : ℕ) : Type 0 where
  under : t * b + b ≤ w * b → Place w b t
  at : t ≡ w → t * b ≡ w * b → Place w b t
  next : t ≡ suc w → t * b ≡ w * b + b → Place w b t
  over : w * b + b + b ≤ t * b → Place w b t

place : (w b t : ℕ) → Place w b t
place w b t = elim (dec_le w t) [
  | no l ↦ under (omega (arith, suc-mul t b, mul-le-mul_right b (lt_of_not-le l)))
  | yes l ↦ elim (eq-or-lt_of_le l) [
    | inl e ↦ at (sym e) (ap (λ (z : ℕ). z * b) (sym e))
    | inr h ↦ elim (eq-or-lt_of_le h) [
      | inl e ↦ next (sym e) (ap (λ (z : ℕ). z * b) (sym e) ∙ suc-mul w b)
      | inr g ↦ over (omega (arith, suc-mul w b, suc-mul (suc w) b, mul-le-mul_right b g))
    ]
  ]
]

near_by : (a b w r q t : ℕ) → w * b + r ≡ a → r < b → Chosen w b r q → Place w b t → apart (q * b) a ≤ apart (t * b) a
near_by a b w r q t s l (lower e p h k) (under g) = omega arith
near_by a b w r q t s l (lower e p h k) (at d g) = omega arith
near_by a b w r q t s l (lower e p h k) (next d g) = omega arith
near_by a b w r q t s l (lower e p h k) (over g) = omega arith
near_by a b w r q t s l (upper e p h k) (under g) = omega arith
near_by a b w r q t s l (upper e p h k) (at d g) = omega arith
near_by a b w r q t s l (upper e p h k) (next d g) = omega arith
near_by a b w r q t s l (upper e p h k) (over g) = omega arith

tie-by : (a b w r q t : ℕ) → w * b + r ≡ a → r < b → Chosen w b r q → Place w b t → apart (q * b) a ≡ apart (t * b) a → Tie w q t
tie-by a b w r q t s l (lower e p h k) (under g) x = absurd (omega arith)
tie-by a b w r q t s l (lower e p h k) (at d g) x = inl (d ∙ sym e)
tie-by a b w r q t s l (lower e p h k) (next d g) x = let half : r * 2 ≡ b = omega arith in let z = k half in inr (omega arith, omega arith, omega arith, omega arith)
tie-by a b w r q t s l (lower e p h k) (over g) x = absurd (omega arith)
tie-by a b w r q t s l (upper e p h k) (under g) x = absurd (omega arith)
tie-by a b w r q t s l (upper e p h k) (at d g) x = let half : r * 2 ≡ b = omega arith in let z = k half in inr (omega arith, omega arith, omega arith, omega arith)
tie-by a b w r q t s l (upper e p h k) (next d g) x = inl (d ∙ sym e)
tie-by a b w r q t s l (upper e p h k) (over g) x = absurd (omega arith)

module _ (a b t : ℕ) (B : 0 < b) where
  pub closest-near : apart (closest a b * b) a ≤ apart (t * b) a
  closest-near = near_by a b (a / b) (a % b) (closest a b) t (div-add-mod' a b) (mod-lt a B) (chosen (a / b) b (a % b) (compare (a % b * 2) b) (cmp (a % b * 2) b)) (place (a / b) b t)

  pub closest-tie : apart (closest a b * b) a ≡ apart (t * b) a → Tie (a / b) (closest a b) t
  closest-tie = tie-by a b (a / b) (a % b) (closest a b) t (div-add-mod' a b) (mod-lt a B) (chosen (a / b) b (a % b) (compare (a % b * 2) b) (cmp (a % b * 2) b)) (place (a / b) b t)
