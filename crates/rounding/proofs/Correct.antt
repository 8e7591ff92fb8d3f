-- `round` is correct rounding: what it gives is `Rounded`, for every fraction below 2 ^ emax, in either format and with either sign.
-- In units of the format's smallest value the fraction a / c is n / c, and `round` gives q * 2 ^ k, q being n / (c * 2 ^ k)
-- rounded to a whole number. Another value of the format is m * 2 ^ j units. For j no less than k it is on the same grid, where
-- q is the closest; for a lesser j it is below the least number of so many digits, which n / c is not.
use Rattle.std.specs.Prelude.{◌≡◌, refl, ◌⊎◌, Bool, true, false, ◌&&◌, ◌||◌, cond, T, ltb, leb, eqb, pos, negsuc, Float}
use Rattle.std.proofs.Common.{sym, ap, ◌∙◌, subst, inl, inr, ⊎_elim, le_refl, le_trans, le_of_eq, le_of_lt, lt_of_lt_of_le, lt_of_le_of_lt, lt_irrefl, not-le_of_lt, eq-or-lt_of_le, lt_of_not-le, mul_comm, mul_assoc, mul_left_comm, mul_right_comm, mul-one, one-mul, zero-mul, add-mul, mul-pos, mul-le-mul_right, mul-lt-mul_of_pos_right, le_of_mul-le-mul_right, le-div_iff_mul-le, div-lt_iff_lt-mul, mul-div_cancel, zero-lt-suc, eq-zero-or-pos, pow-suc, arith, ltb→lt, leb→le, lit<, pow-add, pow_pos, pow_mono, shl_lt}
use Prim.Native.Nat.{ℕ, zero, suc, ◌+◌, ◌-◌, ◌*◌, ◌/◌, ◌%◌, ◌^◌, ◌≤◌, ◌<◌, compare}
use Rattle.std.proofs.Math.Nat.{eq_of_mul-eq-mul_right, div-div-eq-div-mul}
use Rattle.std.proofs.Math.Decide.{dec_le}
use Rattle.std.specs.Bool.{beq}
use Rattle.std.proofs.lemmas.Bool.{false≢true}
use Rattle.std.proofs.Math.Pow.{pow-lt}
use Rattle.std.specs.Float.{nan, inf, fin, Format, binary32, binary64}
use Rattle.std.specs.Float.Ieee.{prec, emax, low, up, down, size, round, eq, fits, to_bits, hid, top}
use Rattle.std.specs.Float.Ieee.Digits.{back, size-lt, size-le, size_reaches}
use Rattle.std.specs.Float.Ieee.Fits.{kept-lt, nearest-le, round_is, round-fits, down_pos, and_i, and_l, and_r, eq→eqb}
use Rattle.std.specs.Float.Ieee.Exact.{HasValue, units_val}
use Rattle.std.specs.Float.Ieee.Nearest.{nearest-ge}
use Rattle.std.specs.Float.Ieee.Order.{drop, kept}
use Rattle.std.specs.Float.Ieee.Scale.{grid, overflow, finite}
use Rattle.std.specs.Float.Ieee.Positive.{num, den, den_pos, first_pos}
use Rattle.spec.specs.Rounding.{negative, apart, gap, Rounded}
use Rattle.rounding.proofs.Closest.{closest-near, closest-tie}
use Rattle.rounding.proofs.Operations.{sub-mul}
use Rattle.rounding.specs.Correct.{Units}

-- ---- distances
apart-mul : (x y z : ℕ) → apart x y * z ≡ apart (x * z) (y * z)
apart-mul x y z = add-mul (x - y) (y - x) z ∙ ap (λ (w : ℕ). w + (y - x) * z) (sub-mul x y z) ∙ ap (λ (w : ℕ). x * z - y * z + w) (sub-mul y x z)

-- ---- what `round` keeps and drops
module _ (p n c : ℕ) where
  kept-le : kept p n c ≤ 2 ^ p
  kept-le =
      let k = drop p n c in
      let u = c * 2 ^ k in
      le_trans (nearest-le (n / u) (compare (n % u * 2) u)) (subst (λ (x : ℕ). x < 2 ^ p) (div-div-eq-div-mul n c (2 ^ k)) (kept-lt p (n / c)))

  -- the whole part has p digits where any are dropped
  whole-lt : n / (c * 2 ^ drop p n c) < 2 ^ p
  whole-lt = subst (λ (x : ℕ). x < 2 ^ p) (div-div-eq-div-mul n c (2 ^ drop p n c)) (kept-lt p (n / c))

  all_in_use : (z k : ℕ) → 0 < p → 0 < k → k ≡ z - p → p - 1 + k < z
  all_in_use z k P h e = omega arith

  reaches : 0 < p → 0 < drop p n c → 2 ^ (p - 1) * 2 ^ drop p n c ≤ n / c
  reaches P K = le_trans (le_of_eq (sym (pow-add 2 (p - 1) (drop p n c)))) (size_reaches (n / c) (p - 1 + drop p n c) (all_in_use (size (n / c)) (drop p n c) P K refl))

  whole-ge : 0 < p → 0 < drop p n c → 2 ^ (p - 1) ≤ n / (c * 2 ^ drop p n c)
  whole-ge P K = subst (λ (x : ℕ). 2 ^ (p - 1) ≤ x) (div-div-eq-div-mul n c (2 ^ drop p n c)) ((le-div_iff_mul-le (pow_pos (drop p n c))).1 (reaches P K))

-- ---- no number of p digits at most, times a power of two, is nearer to n / c than what is kept
-- W is on the other side of n / c, its last digit odd
record Other (p n c W : ℕ) : Type 0 where
  t : ℕ
  is : W ≡ t * 2 ^ drop p n c
  odd : t % 2 ≡ 1
  low : n / (c * 2 ^ drop p n c) ≤ t
  high : t ≤ suc (n / (c * 2 ^ drop p n c))

spare : (p j k : ℕ) → 0 < p → j < k → p + j ≤ p - 1 + k
spare p j k P h = omega arith

some : (j k : ℕ) → j < k → 0 < k
some j k h = omega arith

farther : (x y n : ℕ) → x < y → y ≤ n → apart y n < apart x n
farther x y n h k = omega arith

module _ (p n c m j : ℕ) (P : 0 < p) (C : 0 < c) (M : m < 2 ^ p) where
  abbrev k : ℕ
  k = drop p n c

  abbrev q : ℕ
  q = kept p n c

  unit : (x : ℕ) → x * 2 ^ k * c ≡ x * (c * 2 ^ k)
  unit x = mul_assoc x (2 ^ k) c ∙ ap (λ (z : ℕ). x * z) (mul_comm (2 ^ k) c)

  fine : k ≤ j → m * 2 ^ j ≡ m * 2 ^ (j - k) * 2 ^ k
  fine h = ap (λ (z : ℕ). m * 2 ^ z) (sym (back j k h)) ∙ ap (λ (z : ℕ). m * z) (pow-add 2 (j - k) k) ∙ sym (mul_assoc m (2 ^ (j - k)) (2 ^ k))

  -- with fewer digits dropped than k the number is below 2 ^ (p - 1 + k), and n / c is not
  coarse : j < k → apart (q * 2 ^ k * c) n < apart (m * 2 ^ j * c) n
  coarse h =
      let top = 2 ^ (p - 1) * 2 ^ k in
      let under : m * 2 ^ j < top = lt_of_lt_of_le (mul-lt-mul_of_pos_right M (pow_pos j)) (le_trans (le_of_eq (sym (pow-add 2 p j))) (le_trans (pow_mono (spare p j k P h)) (le_of_eq (pow-add 2 (p - 1) k)))) in
      let over : top * c ≤ n = (le-div_iff_mul-le C).0 (reaches p n c P (some j k h)) in
      let a : apart (q * (c * 2 ^ k)) n ≤ apart (2 ^ (p - 1) * (c * 2 ^ k)) n = closest-near n (c * 2 ^ k) (2 ^ (p - 1)) (mul-pos C (pow_pos k)) in
      let b : apart (top * c) n < apart (m * 2 ^ j * c) n = farther (m * 2 ^ j * c) (top * c) n (mul-lt-mul_of_pos_right under C) over in
      lt_of_le_of_lt (subst (λ (z : ℕ). apart (q * 2 ^ k * c) n ≤ apart z n) (sym (unit (2 ^ (p - 1)))) (subst (λ (z : ℕ). apart z n ≤ apart (2 ^ (p - 1) * (c * 2 ^ k)) n) (sym (unit q)) a)) b

  nearer : apart (q * 2 ^ k * c) n ≤ apart (m * 2 ^ j * c) n
  nearer = elim (dec_le k j) [
    | yes g ↦
        subst (λ (z : ℕ). apart (q * 2 ^ k * c) n ≤ apart (z * c) n) (sym (fine g))
        (subst (λ (z : ℕ). apart (q * 2 ^ k * c) n ≤ apart z n) (sym (unit (m * 2 ^ (j - k))))
        (subst (λ (z : ℕ). apart z n ≤ apart (m * 2 ^ (j - k) * (c * 2 ^ k)) n) (sym (unit q)) (closest-near n (c * 2 ^ k) (m * 2 ^ (j - k)) (mul-pos C (pow_pos k)))))
    | no h ↦ le_of_lt (coarse (lt_of_not-le h))
  ]

  tied : apart (q * 2 ^ k * c) n ≡ apart (m * 2 ^ j * c) n → (m * 2 ^ j ≡ q * 2 ^ k) ⊎ ((q % 2 ≡ 0) × Other p n c (m * 2 ^ j))
  tied e = elim (dec_le k j) [
    | yes g ↦
        let t = m * 2 ^ (j - k) in
        let d : apart (q * (c * 2 ^ k)) n ≡ apart (t * (c * 2 ^ k)) n = ap (λ (z : ℕ). apart z n) (sym (unit q)) ∙ e ∙ ap (λ (z : ℕ). apart (z * c) n) (fine g) ∙ ap (λ (z : ℕ). apart z n) (unit t) in
        ⊎_elim
        (λ (w : t ≡ q). inl (fine g ∙ ap (λ (z : ℕ). z * 2 ^ k) w))
        (λ (w : (q % 2 ≡ 0) × (t % 2 ≡ 1) × (n / (c * 2 ^ k) ≤ t) × (t ≤ suc (n / (c * 2 ^ k)))). inr (w.0, record { t = t; is = fine g; odd = w.1; low = w.2; high = w.3 }))
        (closest-tie n (c * 2 ^ k) t (mul-pos C (pow_pos k)) d)
    | no h ↦ absurd (lt_irrefl (apart (m * 2 ^ j * c) n) (subst (λ (z : ℕ). z < apart (m * 2 ^ j * c) n) e (coarse (lt_of_not-le h))))
  ]

no_deeper : (l j : ℕ) → 2 ^ suc j ≤ 2 ^ l → suc j ≤ l
no_deeper l j h = elim (dec_le (suc j) l) [ yes a ↦ a | no b ↦ absurd (not-le_of_lt (pow-lt (lt_of_not-le b)) h) ]

pub units_of : (f : Format) (x : Float) → T (fits f x) → T (finite x) → Units f x
unfolding fits
units_of f nan h t = absurd t
units_of f (inf s) h t = absurd t
units_of f (fin s zero e) h t = record { m = 0; j = 0; few = pow_pos (prec f); is = ap (λ (z : ℕ). z * 2 ^ low f) (zero-mul (up e)) ∙ zero-mul (2 ^ low f) ∙ sym (zero-mul (down e)) }
units_of f (fin s (suc m) (pos i)) h t =
    let A = eqb (suc m % 2) 1 in
    let B = ltb (suc m) (2 ^ prec f) in
    let D = leb 1 (2 ^ low f) in
    record {
      m = suc m;
      j = i + low f;
      few = ltb→lt (suc m) (2 ^ prec f) (and_r A B (and_l (A && B) D (and_l (A && B && D) (ltb (suc m * 2 ^ i) (2 ^ suc (emax f) * 1)) h)));
      is = mul_assoc (suc m) (2 ^ i) (2 ^ low f) ∙ ap (λ (z : ℕ). suc m * z) (sym (pow-add 2 i (low f))) ∙ sym (mul-one (suc m * 2 ^ (i + low f)));
    }
units_of f (fin s (suc m) (negsuc i)) h t =
    let A = eqb (suc m % 2) 1 in
    let B = ltb (suc m) (2 ^ prec f) in
    let D = leb (2 ^ suc i) (2 ^ low f) in
    let g = and_l (A && B && D) (ltb (suc m * 1) (2 ^ suc (emax f) * 2 ^ suc i)) h in
    record {
      m = suc m;
      j = low f - suc i;
      few = ltb→lt (suc m) (2 ^ prec f) (and_r A B (and_l (A && B) D g));
      is =
          ap (λ (z : ℕ). z * 2 ^ low f) (mul-one (suc m))
          ∙ ap (λ (z : ℕ). suc m * 2 ^ z) (sym (back (low f) (suc i) (no_deeper (low f) i (leb→le (2 ^ suc i) (2 ^ low f) (and_r (A && B) D g)))))
          ∙ ap (λ (z : ℕ). suc m * z) (pow-add 2 (low f - suc i) (suc i))
          ∙ sym (mul_assoc (suc m) (2 ^ (low f - suc i)) (2 ^ suc i));
    }

-- ---- the last bit of a pattern is the last digit that the format keeps
parity : (f : Format) (s : Bool) (k z : ℕ) → (cond s (top f) 0 + k * hid f + z) % 2 ≡ z % 2
parity binary32 true k z = omega arith
parity binary32 false k z = omega arith
parity binary64 true k z = omega arith
parity binary64 false k z = omega arith

last_bit : (f : Format) (x : Float) (G : ℕ) → T (finite x) → num x * 2 ^ low f ≡ G * den x → to_bits f x % 2 ≡ G / 2 ^ (size G - prec f) % 2
unfolding to_bits
last_bit f nan G t h = absurd t
last_bit f (inf s) G t h = absurd t
last_bit f (fin s m e) G t h =
    let n = m * up e * 2 ^ low f / down e in
    parity f s (size n - prec f) (n / 2 ^ (size n - prec f))
    ∙ ap (λ (z : ℕ). z / 2 ^ (size z - prec f) % 2) (ap (λ (z : ℕ). z / down e) h ∙ mul-div_cancel G (down_pos e))

module _ (p q : ℕ) (P : 0 < p) (Q : q < 2 ^ p) where
  less : (z : ℕ) → z ≤ p → z - p ≡ 0
  less z h = omega arith

  just : (z k : ℕ) → z ≤ p + k → p - 1 + k < z → z - p ≡ k
  just z k a b = omega arith

  drops : (k : ℕ) → (0 < k → 2 ^ (p - 1) ≤ q) → size (q * 2 ^ k) - p ≡ k
  drops zero h = less (size (q * 1)) (size-le (q * 1) p (subst (λ (z : ℕ). z < 2 ^ p) (sym (mul-one q)) Q))
  drops (suc k) h =
      just (size (q * 2 ^ suc k)) (suc k) (size-le (q * 2 ^ suc k) (p + suc k) (shl_lt p (suc k) Q))
      (lt_of_not-le (λ g. not-le_of_lt (lt_of_lt_of_le (size-lt (q * 2 ^ suc k)) (pow_mono g)) (le_trans (le_of_eq (pow-add 2 (p - 1) (suc k))) (mul-le-mul_right (2 ^ suc k) (h (zero-lt-suc k))))))

  digit : (k : ℕ) → (0 < k → 2 ^ (p - 1) ≤ q) → q * 2 ^ k / 2 ^ (size (q * 2 ^ k) - p) ≡ q
  digit k h = ap (λ (z : ℕ). q * 2 ^ k / 2 ^ z) (drops k h) ∙ mul-div_cancel q (pow_pos k)

two-pow : (p : ℕ) → 0 < p → 2 ^ p ≡ 2 ^ (p - 1) * 2
two-pow zero h = absurd (lt_irrefl 0 h)
two-pow (suc p) h = pow-suc 2 p ∙ ap (λ (z : ℕ). 2 ^ z * 2) (pred p)
  where
    pred : (p : ℕ) → p ≡ suc p - 1
    pred p = omega arith

half-even : (f : Format) → 2 ^ (prec f - 1) % 2 ≡ 0
half-even binary32 = refl
half-even binary64 = refl

full-even : (f : Format) → 2 ^ prec f % 2 ≡ 0
full-even binary32 = refl
full-even binary64 = refl

pos-prec : (f : Format) → 0 < prec f
pos-prec binary32 = lit< tt
pos-prec binary64 = lit< tt

pub not-both : (x : ℕ) → x % 2 ≡ 0 → x % 2 ≡ 1 → ⊥
not-both x a b = omega arith

-- an even digit stays even where it carries over into a new one
even-digit : (f : Format) (q k : ℕ) → q ≤ 2 ^ prec f → (0 < k → 2 ^ (prec f - 1) ≤ q) → q % 2 ≡ 0 → q * 2 ^ k / 2 ^ (size (q * 2 ^ k) - prec f) % 2 ≡ 0
even-digit f q k h g e = elim (eq-or-lt_of_le h) [
  | inl full ↦
      let p = prec f in
      let up : q * 2 ^ k ≡ 2 ^ (p - 1) * 2 ^ suc k = ap (λ (z : ℕ). z * 2 ^ k) (full ∙ two-pow p (pos-prec f)) ∙ mul_assoc (2 ^ (p - 1)) 2 (2 ^ k) ∙ ap (λ (z : ℕ). 2 ^ (p - 1) * z) (mul_comm 2 (2 ^ k) ∙ sym (pow-suc 2 k)) in
      ap (λ (z : ℕ). z / 2 ^ (size z - p) % 2) up
      ∙ ap (λ (z : ℕ). z % 2) (digit p (2 ^ (p - 1)) (pos-prec f) (pow-lt (fewer p (pos-prec f))) (suc k) (λ _. le_refl (2 ^ (p - 1))))
      ∙ half-even f
  | inr l ↦ ap (λ (z : ℕ). z % 2) (digit (prec f) q (pos-prec f) l k g) ∙ e
]
  where
    fewer : (p : ℕ) → 0 < p → p - 1 < p
    fewer p P = omega arith

odd-digit : (f : Format) (t k : ℕ) → t ≤ 2 ^ prec f → (0 < k → 2 ^ (prec f - 1) ≤ t) → t % 2 ≡ 1 → t * 2 ^ k / 2 ^ (size (t * 2 ^ k) - prec f) % 2 ≡ 1
odd-digit f t k h g o = elim (eq-or-lt_of_le h) [
  | inl full ↦ absurd (not-both t (ap (λ (z : ℕ). z % 2) full ∙ full-even f) o)
  | inr l ↦ ap (λ (z : ℕ). z % 2) (digit (prec f) t (pos-prec f) l k g) ∙ o
]

-- ---- == on two finite values of one size
or_l : (a b : Bool) → T a → T (a || b)
or_l true b t = tt
or_l false b t = absurd t

or_r : (a b : Bool) → T b → T (a || b)
or_r true b t = tt
or_r false b t = t

pub beq-refl : (s : Bool) → beq s s ≡ true
beq-refl true = refl
beq-refl false = refl

pub beq-eq : (u v : Bool) → beq u v ≡ true → v ≡ u
beq-eq true true g = refl
beq-eq true false g = absurd (false≢true g)
beq-eq false true g = absurd (false≢true g)
beq-eq false false g = refl

pub factor : (i j : ℕ) → 0 < j → i * j ≡ 0 → i ≡ 0
factor i j J e = eq_of_mul-eq-mul_right j J i 0 (e ∙ sym (zero-mul j))

pub eq_of : (x y : Float) → T (finite x) → T (finite y) → num x * den y ≡ num y * den x → (negative x ≡ negative y) ⊎ (num x * den y ≡ 0) → T (eq x y)
unfolding eq
eq_of nan y t u e h = absurd t
eq_of (inf s) y t u e h = absurd t
eq_of (fin s m e) nan t u g h = absurd u
eq_of (fin s m e) (inf v) t u g h = absurd u
eq_of (fin s m e) (fin v n d) t u g h =
    let A = m * up e * down d in
    let B = n * up d * down e in
    and_i (eqb A B) (beq s v || eqb A 0) (eq→eqb g)
    (⊎_elim (λ (k : s ≡ v). or_l (beq s v) (eqb A 0) (subst (λ (z : Bool). T (beq s z)) k (subst T (sym (beq-refl s)) tt))) (λ (k : A ≡ 0). or_r (beq s v) (eqb A 0) (eq→eqb k)) h)

-- ---- a finite value, by the fraction that it is
pub parts : (x : Float) (s : Bool) (G l : ℕ) → HasValue x s G l → T (finite x) × (negative x ≡ s) × (num x * l ≡ G * den x)
parts nan s G l v = absurd v
parts (inf t) s G l v = absurd v
parts (fin t m e) s G l v = (tt, v.0, v.1)

room : (p z e l : ℕ) → z ≤ e + l → 0 < z - p → p + (z - p) ≤ l + e
room p z e l h k = omega arith

-- ---- `round`
module _ (f : Format) (s : Bool) (a c : ℕ) (C : 0 < c) (A : a < 2 ^ emax f * c) where
  abbrev n : ℕ
  n = a * 2 ^ low f

  abbrev k' : ℕ
  k' = drop (prec f) n c

  abbrev q' : ℕ
  q' = kept (prec f) n c

  reach : n / c < 2 ^ (emax f + low f)
  reach = (div-lt_iff_lt-mul C).1 (lt_of_lt_of_le (mul-lt-mul_of_pos_right A (pow_pos (low f))) (le_of_eq (mul_right_comm (2 ^ emax f) c (2 ^ low f) ∙ ap (λ (z : ℕ). z * c) (sym (pow-add 2 (emax f) (low f))))))

  grid-le : grid f a c ≤ 2 ^ (prec f + k')
  grid-le = le_trans (mul-le-mul_right (2 ^ k') (kept-le (prec f) n c)) (le_of_eq (sym (pow-add 2 (prec f) k')))

  small : grid f a c < overflow f
  small = elim (eq-zero-or-pos k') [
    | inl e ↦ lt_of_le_of_lt (subst (λ (z : ℕ). grid f a c ≤ 2 ^ (prec f + z)) e grid-le) (start f)
    | inr h ↦
        lt_of_le_of_lt
        (le_trans grid-le (pow_mono (room (prec f) (size (n / c)) (emax f) (low f) (size-le (n / c) (emax f + low f) reach) h)))
        (pow-lt (next (low f) (emax f)))
  ]
    where
      start : (f : Format) → 2 ^ (prec f + 0) < overflow f
      start binary32 = lit< tt
      start binary64 = lit< tt

      next : (x y : ℕ) → x + y < x + suc y
      next x y = omega arith

  -- the value of what `round` gives
  pub round-value : HasValue (round f s a c) s (grid f a c) (2 ^ low f)
  round-value = subst (λ (z : Float). HasValue z s (grid f a c) (2 ^ low f)) (sym (round_is f s a c)) (units_val f s q' k' small)

  abbrev x : Float
  x = round f s a c

  is_finite : T (finite x)
  is_finite = (parts x s (grid f a c) (2 ^ low f) round-value).0

  is-sign : negative x ≡ s
  is-sign = (parts x s (grid f a c) (2 ^ low f) round-value).1

  is-size : num x * 2 ^ low f ≡ grid f a c * den x
  is-size = (parts x s (grid f a c) (2 ^ low f) round-value).2

  -- a distance, in units
  scaled : (y : Float) (W : ℕ) → num y * 2 ^ low f ≡ W * den y → apart (num y * c) (a * den y) * 2 ^ low f ≡ apart (W * c) n * den y
  scaled y W h =
      apart-mul (num y * c) (a * den y) (2 ^ low f)
      ∙ ap (λ (z : ℕ). apart z (a * den y * 2 ^ low f)) (mul_right_comm (num y) c (2 ^ low f) ∙ ap (λ (z : ℕ). z * c) h ∙ mul_right_comm W (den y) c)
      ∙ ap (λ (z : ℕ). apart (W * c * den y) z) (mul_right_comm a (den y) (2 ^ low f))
      ∙ sym (apart-mul (W * c) n (den y))

  own : gap s a c x ≡ apart (num x * c) (a * den x)
  own = ap (λ (z : Bool). cond (beq s z) (apart (num x * c) (a * den x)) (num x * c + a * den x)) is-sign ∙ ap (λ (z : Bool). cond z (apart (num x * c) (a * den x)) (num x * c + a * den x)) (beq-refl s)

  abbrev D : ℕ → ℕ
  D W = apart (W * c) n

  mine : (y : Float) → apart (num x * c) (a * den x) * den y * 2 ^ low f ≡ D (grid f a c) * (den x * den y)
  mine y = mul_right_comm (apart (num x * c) (a * den x)) (den y) (2 ^ low f) ∙ ap (λ (z : ℕ). z * den y) (scaled x (grid f a c) is-size) ∙ mul_assoc (D (grid f a c)) (den x) (den y)

  theirs : (y : Float) (W : ℕ) → num y * 2 ^ low f ≡ W * den y → apart (num y * c) (a * den y) * den x * 2 ^ low f ≡ D W * (den x * den y)
  theirs y W h = mul_right_comm (apart (num y * c) (a * den y)) (den x) (2 ^ low f) ∙ ap (λ (z : ℕ). z * den x) (scaled y W h) ∙ mul_assoc (D W) (den y) (den x) ∙ ap (λ (z : ℕ). D W * z) (mul_comm (den y) (den x))

  -- from zero n / c is n / c away
  to-zero : D (grid f a c) ≤ n
  to-zero = le_trans (nearer (prec f) n c 0 0 (pos-prec f) C (pow_pos (prec f))) (nothing n)
    where
      nothing : (n : ℕ) → apart (0 * 1 * c) n ≤ n
      nothing n = omega (arith, zero-mul c)

  zeros : (y : Float) → a * den y * den x * 2 ^ low f ≡ n * (den x * den y)
  zeros y = simp (mul_assoc, mul_comm, mul_left_comm)

  near-other : (y : Float) → apart (num x * c) (a * den x) * den y ≤ a * den y * den x
  near-other y = le_of_mul-le-mul_right (le_trans (le_of_eq (mine y)) (le_trans (mul-le-mul_right (den x * den y) to-zero) (le_of_eq (sym (zeros y))))) (pow_pos (low f))

  near : (y : Float) → T (fits f y) → T (finite y) → gap s a c x * den y ≤ gap s a c y * den x
  near y h t = subst (λ (z : ℕ). z * den y ≤ gap s a c y * den x) (sym own) (go (beq s (negative y)))
    where
      u : Units f y
      u = units_of f y h t

      go : (b : Bool) → apart (num x * c) (a * den x) * den y ≤ cond b (apart (num y * c) (a * den y)) (num y * c + a * den y) * den x
      go true =
          le_of_mul-le-mul_right
          (le_trans (le_of_eq (mine y)) (le_trans (mul-le-mul_right (den x * den y) (nearer (prec f) n c u.m u.j (pos-prec f) C u.few)) (le_of_eq (sym (theirs y (u.m * 2 ^ u.j) u.is)))))
          (pow_pos (low f))
      go false = le_trans (near-other y) (mul-le-mul_right (den x) (more (num y * c) (a * den y)))
        where
          more : (i j : ℕ) → j ≤ i + j
          more i j = omega arith

  cancel : (i j : ℕ) (y : Float) → i * (den x * den y) ≡ j * (den x * den y) → i ≡ j
  cancel i j y e = eq_of_mul-eq-mul_right (den x * den y) (mul-pos (den_pos x) (den_pos y)) i j e

  kept-ge : 0 < k' → 2 ^ (prec f - 1) ≤ q'
  kept-ge K = le_trans (whole-ge (prec f) n c (pos-prec f) K) (nearest-ge (n / (c * 2 ^ k')) (compare (n % (c * 2 ^ k') * 2) (c * 2 ^ k')))

  abbrev Settled : Float → Type 0
  Settled y = T (eq x y) ⊎ ((to_bits f x % 2 ≡ 0) × (to_bits f y % 2 ≡ 1))

  -- two values of one sign that are as near
  even-same : (y : Float) → T (finite y) → Units f y → negative y ≡ s → apart (num x * c) (a * den x) * den y ≡ apart (num y * c) (a * den y) * den x → Settled y
  even-same y t u sy e =
      let W = u.m * 2 ^ u.j in
      let d : D (grid f a c) ≡ D W = cancel (D (grid f a c)) (D W) y (sym (mine y) ∙ ap (λ (z : ℕ). z * 2 ^ low f) e ∙ theirs y W u.is) in
      ⊎_elim
      (λ (w : W ≡ grid f a c). inl (eq_of x y is_finite t
      (eq_of_mul-eq-mul_right (2 ^ low f) (pow_pos (low f)) (num x * den y) (num y * den x)
      (mul_right_comm (num x) (den y) (2 ^ low f) ∙ ap (λ (z : ℕ). z * den y) is-size ∙ ap (λ (z : ℕ). z * den x * den y) (sym w) ∙ mul_right_comm W (den x) (den y) ∙ ap (λ (z : ℕ). z * den x) (sym u.is) ∙ mul_right_comm (num y) (2 ^ low f) (den x)))
      (inl (is-sign ∙ sym sy))))
      (λ (w : (q' % 2 ≡ 0) × Other (prec f) n c W). inr (
        last_bit f x (grid f a c) is_finite is-size ∙ even-digit f q' k' (kept-le (prec f) n c) kept-ge w.0,
        last_bit f y W t u.is
            ∙ ap (λ (z : ℕ). z / 2 ^ (size z - prec f) % 2) w.1.is
            ∙ odd-digit f w.1.t k' (le_trans w.1.high (whole-lt (prec f) n c)) (λ K. le_trans (whole-ge (prec f) n c (pos-prec f) K) w.1.low) w.1.odd,
      ))
      (tied (prec f) n c u.m u.j (pos-prec f) C u.few d)

  -- a value of the other sign is as near only where both are zero
  even-other : (y : Float) → T (finite y) → apart (num x * c) (a * den x) * den y ≡ (num y * c + a * den y) * den x → Settled y
  even-other y t e =
      let split : (num y * c + a * den y) * den x ≡ num y * c * den x + a * den y * den x = add-mul (num y * c) (a * den y) (den x) in
      let less : apart (num x * c) (a * den x) * den y ≤ a * den y * den x = near-other y in
      let none : num y * c * den x ≡ 0 = nothing (apart (num x * c) (a * den x) * den y) (num y * c * den x) (a * den y * den x) (e ∙ split) less in
      let all : apart (num x * c) (a * den x) * den y ≡ a * den y * den x = whole (apart (num x * c) (a * den x) * den y) (num y * c * den x) (a * den y * den x) (e ∙ split) none in
      let ny : num y ≡ 0 = factor (num y) c C (factor (num y * c) (den x) (den_pos x) none) in
      let d : D (grid f a c) ≡ n = cancel (D (grid f a c)) n y (sym (mine y) ∙ ap (λ (z : ℕ). z * 2 ^ low f) all ∙ zeros y) in
      ⊎_elim
      (λ (w : 0 ≡ grid f a c).
      let nx : num x ≡ 0 = factor (num x) (2 ^ low f) (pow_pos (low f)) (is-size ∙ ap (λ (z : ℕ). z * den x) (sym w) ∙ zero-mul (den x)) in
      let zx : num x * den y ≡ 0 = ap (λ (z : ℕ). z * den y) nx ∙ zero-mul (den y) in
      inl (eq_of x y is_finite t (zx ∙ sym (ap (λ (z : ℕ). z * den x) ny ∙ zero-mul (den x))) (inr zx)))
      (λ (w : (q' % 2 ≡ 0) × Other (prec f) n c 0). absurd (odd-zero w.1.t (factor w.1.t (2 ^ k') (pow_pos k') (sym w.1.is)) w.1.odd))
      (tied (prec f) n c 0 0 (pos-prec f) C (pow_pos (prec f)) (d ∙ sym (from_zero n)))
    where
      nothing : (i j l : ℕ) → i ≡ j + l → i ≤ l → j ≡ 0
      nothing i j l g h = omega arith

      whole : (i j l : ℕ) → i ≡ j + l → j ≡ 0 → i ≡ l
      whole i j l g h = omega arith

      odd-zero : (z : ℕ) → z ≡ 0 → z % 2 ≡ 1 → ⊥
      odd-zero z g h = omega arith

      from_zero : (n : ℕ) → apart (0 * 1 * c) n ≡ n
      from_zero n = omega (arith, zero-mul c)

  even : (y : Float) → T (fits f y) → T (finite y) → gap s a c x * den y ≡ gap s a c y * den x → Settled y
  even y h t e = go (beq s (negative y)) (beq-eq s (negative y)) (ap (λ (z : ℕ). z * den y) (sym own) ∙ e)
    where
      go : (b : Bool) → (b ≡ true → negative y ≡ s) → apart (num x * c) (a * den x) * den y ≡ cond b (apart (num y * c) (a * den y)) (num y * c + a * den y) * den x → Settled y
      go true g w = even-same y t (units_of f y h t) (g refl) w
      go false g w = even-other y t w

  pub rounded : Rounded f s a c (round f s a c)
  rounded = record { held = round-fits f s a c; number = is_finite; sign = is-sign; near = near; even = even }

  -- a fraction of one unit at least is not rounded to zero
  pub not-zero : c ≤ n → 0 < num x
  not-zero h =
      first_pos (num x) (2 ^ low f)
      (subst (λ (z : ℕ). 0 < z) (sym is-size) (mul-pos (mul-pos (some-kept (eq-zero-or-pos k')) (pow_pos k')) (den_pos x)))
    where
      some-kept : (k' ≡ 0) ⊎ (0 < k') → 0 < q'
      some-kept (inl e) =
          let u = c * 2 ^ k' in
          let one : 1 * u ≤ n = subst (λ (z : ℕ). z ≤ n) (sym (one-mul u ∙ ap (λ (z : ℕ). c * 2 ^ z) e ∙ mul-one c)) h in
          le_trans ((le-div_iff_mul-le (mul-pos C (pow_pos k'))).1 one) (nearest-ge (n / u) (compare (n % u * 2) u))
      some-kept (inr K) = lt_of_lt_of_le (pow_pos (prec f - 1)) (kept-ge K)
