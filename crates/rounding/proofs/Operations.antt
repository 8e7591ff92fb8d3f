-- The four operations on floats that are fractions: each gives the exact fraction, rounded once, whatever the format. The
-- toolchain works the fraction out from the floats' own forms; equal fractions round alike, so any form will do.
-- `HasValue x s a c` says that x is finite, has the sign s (true: negative) and is a / c in size.
use Rattle.std.specs.Prelude.{◌≡◌, refl, ℕ, ◌+◌, ◌-◌, ◌*◌, ◌<◌, Bool, T, ltb, eqb, ℤ, Float}
use Rattle.std.proofs.Common.{sym, ◌∙◌, subst, mul_comm, mul_assoc, mul_left_comm, add-mul, mul-lt-mul_of_pos_right, lt_of_mul-lt-mul_right, true≢false, ne_eqb, ltb→lt, lt→ltb}
use Rattle.std.proofs.Math.Path.{ap, ap₂}
use Rattle.std.proofs.Math.Nat.{mul-mul-mul_comm, mul-pos, mul-sub, lt_irrefl}
use Rattle.std.proofs.Math.Bool.{true, false, cond}
use Rattle.std.specs.Float.Ieee.{nan, up, down, round, sum, add, sub, mul, div}
use Rattle.std.specs.Float.{inf, fin, Format, binary64}
use Rattle.std.specs.Float.Ieee.Fits.{down_pos}
use Rattle.std.specs.Float.Ieee.Exact.{HasValue}
use Rattle.std.specs.Float.Ieee.Positive.{first_pos}
use Rattle.std.specs.Float.Ieee.Scale.{round_same}
use Rattle.spec.specs.Rounding.{nearest_difference}
use Rattle.rounding.specs.Operations.{round_difference}

-- what the definitions have for f64
pub difference-is : (a b c : ℕ) → nearest_difference a b c ≡ round_difference binary64 a b c
unfolding nearest_difference
difference-is a b c = refl

pub sub-mul : (m n k : ℕ) → (m - n) * k ≡ m * k - n * k
sub-mul m n k = mul_comm (m - n) k ∙ mul-sub k m n ∙ ap (λ (z : ℕ). z - k * n) (mul_comm k m) ∙ ap (λ (z : ℕ). m * k - z) (mul_comm k n)

-- ---- X / x is a / c, and Y / y is b / d
module _ (X x Y y a c b d : ℕ) (p : X * c ≡ a * x) (q : Y * d ≡ b * y) where
  cross-mul : X * Y * (c * d) ≡ a * b * (x * y)
  cross-mul = mul-mul-mul_comm X Y c d ∙ ap (λ (z : ℕ). z * (Y * d)) p ∙ ap (λ (z : ℕ). a * x * z) q ∙ mul-mul-mul_comm a x b y

  left : X * y * (c * d) ≡ a * d * (x * y)
  left = simp (mul_assoc, mul_comm, mul_left_comm) (simp (mul_assoc, mul_comm, mul_left_comm) at (ap (λ (z : ℕ). z * (y * d)) p))

  right : Y * x * (c * d) ≡ b * c * (x * y)
  right = simp (mul_assoc, mul_comm, mul_left_comm) (simp (mul_assoc, mul_comm, mul_left_comm) at (ap (λ (z : ℕ). z * (x * c)) q))

  cross-add : (X * y + Y * x) * (c * d) ≡ (a * d + b * c) * (x * y)
  cross-add = add-mul (X * y) (Y * x) (c * d) ∙ ap (λ (z : ℕ). z + Y * x * (c * d)) left ∙ ap (λ (z : ℕ). a * d * (x * y) + z) right ∙ sym (add-mul (a * d) (b * c) (x * y))

  cross-sub : (X * y - Y * x) * (c * d) ≡ (a * d - b * c) * (x * y)
  cross-sub = sub-mul (X * y) (Y * x) (c * d) ∙ ap (λ (z : ℕ). z - Y * x * (c * d)) left ∙ ap (λ (z : ℕ). a * d * (x * y) - z) right ∙ sym (sub-mul (a * d) (b * c) (x * y))

  cross-bus : (Y * x - X * y) * (c * d) ≡ (b * c - a * d) * (x * y)
  cross-bus = sub-mul (Y * x) (X * y) (c * d) ∙ ap (λ (z : ℕ). z - X * y * (c * d)) right ∙ ap (λ (z : ℕ). b * c * (x * y) - z) left ∙ sym (sub-mul (b * c) (a * d) (x * y))

  cross-div : X * y * (c * b) ≡ a * d * (Y * x)
  cross-div = simp (mul_assoc, mul_comm, mul_left_comm) (simp (mul_assoc, mul_comm, mul_left_comm) at (ap (λ (z : ℕ). z * (y * b)) p ∙ ap (λ (z : ℕ). a * x * z) (mul_comm y b ∙ sym q)))

  same-order : 0 < c * d → 0 < x * y → ltb (X * y) (Y * x) ≡ ltb (a * d) (b * c)
  same-order C D = go (ltb (X * y) (Y * x)) (ltb (a * d) (b * c))
      (λ t. lt→ltb (a * d) (b * c) (lt_of_mul-lt-mul_right (x * y) (subst (λ (z : ℕ). z < b * c * (x * y)) left (subst (λ (z : ℕ). X * y * (c * d) < z) right (mul-lt-mul_of_pos_right (ltb→lt (X * y) (Y * x) t) C)))))
      (λ t. lt→ltb (X * y) (Y * x) (lt_of_mul-lt-mul_right (c * d) (subst (λ (z : ℕ). z < Y * x * (c * d)) (sym left) (subst (λ (z : ℕ). a * d * (x * y) < z) (sym right) (mul-lt-mul_of_pos_right (ltb→lt (a * d) (b * c) t) D)))))
    where
      go : (u v : Bool) → (T u → T v) → (T v → T u) → u ≡ v
      go true true h k = refl
      go true false h k = absurd (h tt)
      go false true h k = absurd (k tt)
      go false false h k = refl

-- ---- a float that is a / c and not negative, by its parts

record Form (x : Float) (a c : ℕ) : Type 0 where
  m : ℕ
  e : ℤ
  is : x ≡ fin false m e
  size : m * up e * c ≡ a * down e

form : (x : Float) (a c : ℕ) → HasValue x false a c → Form x a c
form nan a c v = absurd v
form (inf s) a c v = absurd v
form (fin true m e) a c v = absurd (true≢false v.0)
form (fin false m e) a c v = record { m = m; e = e; is = refl; size = v.1 }

-- ---- the operations, at fractions that are not negative

module _ (f : Format) (a c b d : ℕ) (C : 0 < c) (D : 0 < d) (v w : Float) (p : HasValue v false a c) (q : HasValue w false b d) where
  P : Form v a c
  P = form v a c p

  Q : Form w b d
  Q = form w b d q

  abbrev X : ℕ
  X = P.m * up P.e

  abbrev x : ℕ
  x = down P.e

  abbrev Y : ℕ
  Y = Q.m * up Q.e

  abbrev y : ℕ
  y = down Q.e

  under : 0 < x * y
  under = mul-pos (down_pos P.e) (down_pos Q.e)

  pub add_is : add f v w ≡ round f false (a * d + b * c) (c * d)
  unfolding add sum
  add_is =
      ap₂ (add f) P.is Q.is
      ∙ round_same f false (X * y + Y * x) (x * y) (a * d + b * c) (c * d) under (mul-pos C D) (cross-add X x Y y a c b d P.size Q.size)

  pub mul_is : mul f v w ≡ round f false (a * b) (c * d)
  unfolding mul
  mul_is =
      ap₂ (mul f) P.is Q.is
      ∙ round_same f false (X * Y) (x * y) (a * b) (c * d) under (mul-pos C D) (cross-mul X x Y y a c b d P.size Q.size)

  pub sub_is : sub f v w ≡ round_difference f (a * d) (b * c) (c * d)
  unfolding sub sum
  sub_is =
      let E = mul-pos C D in
      ap₂ (sub f) P.is Q.is
      ∙ ap (λ (t : Bool). cond t (round f true (Y * x - X * y) (x * y)) (round f false (X * y - Y * x) (x * y))) (same-order X x Y y a c b d P.size Q.size E under)
      ∙ ap₂ (cond (ltb (a * d) (b * c)))
      (round_same f true (Y * x - X * y) (x * y) (b * c - a * d) (c * d) under E (cross-bus X x Y y a c b d P.size Q.size))
      (round_same f false (X * y - Y * x) (x * y) (a * d - b * c) (c * d) under E (cross-sub X x Y y a c b d P.size Q.size))

  pub div_is : 0 < b → div f v w ≡ round f false (a * d) (c * b)
  unfolding div
  div_is B =
      let above : 0 < Y = first_pos Y d (subst (λ (z : ℕ). 0 < z) (sym Q.size) (mul-pos B (down_pos Q.e))) in
      ap₂ (div f) P.is Q.is
      ∙ ap (λ (t : Bool). cond t (cond (eqb P.m 0) nan (inf false)) (round f false (X * y) (Y * x))) (ne_eqb Q.m 0 (λ z. lt_irrefl 0 (subst (λ (k : ℕ). 0 < k) z (first_pos Q.m (up Q.e) above))))
      ∙ round_same f false (X * y) (Y * x) (a * d) (c * b) (mul-pos above (down_pos P.e)) (mul-pos C B) (cross-div X x Y y a c b d P.size Q.size)
