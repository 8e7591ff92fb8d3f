-- Numbers in base ten, for any greatest count of digits: a number that is written is read back, and what is read as a
-- number is what is written for its value.
use Rattle.std.specs.Prelude.{◌≡◌, refl, ◌≢◌, ℕ, zero, suc, ◌+◌, ◌*◌, ◌/◌, ◌%◌, ◌^◌, ◌≤◌, ◌<◌, Bool, true, false, not, cond, List, [], ◌∷◌, ◌++◌, length, get_or, ltb, leb}
use Rattle.std.proofs.Common.{sym, ap, ◌∙◌, inl, inr, zero-le, pow-suc, le_refl, zero-add, arith, append-nil, append_assoc, length-append, le-leb, lt-ltb, le-ltb, leb-true, ltb-true, ltb-false, ne_eqb}
use Rattle.std.proofs.Math.Nat.{one-le-pow}
use Rattle.std.proofs.Math.Decide.{dec_le}
use Rattle.std.proofs.Math.Bool.{and-false}
use Rattle.std.proofs.Math.Option.{some}
use Rattle.std.proofs.Math.ListN.{get_or-append}
use Rattle.std.proofs.lemmas.Bool.{eqb-false}
use Rattle.spec.specs.Lists.{every}
use Rattle.spec.specs.Text.{digit_of, is_a, needless_zero, is_number, value_from, number_in, digit_byte, digits}
use Rattle.spec.specs.declared.Class.TheVariants.{Digit}
use Rattle.lists.specs.Laws.{true-or-false, and-true, and-four, not-is-true, every_append}
use Rattle.runs.specs.Bytes.{digit-is_a, digit_value, is_a-digit}

-- ---- what is written is read back

-- whatever the number, digits alone are written
pub digits-all : (most n : ℕ) → every (is_a Digit) (digits most n) ≡ true
unfolding digits every
digits-all zero n = refl
digits-all (suc most) n = go (ltb n 10) refl (digits-all most (n / 10))
  where
    go : (t : Bool) → ltb n 10 ≡ t → every (is_a Digit) (digits most (n / 10)) ≡ true → every (is_a Digit) (cond t (digit_byte n ∷ []) (digits most (n / 10) ++ digit_byte (n % 10) ∷ [])) ≡ true
    go true e h = rw (digit-is_a n (ltb-true n 10 e))
    go false e h = every_append (is_a Digit) (digits most (n / 10)) (digit_byte (n % 10) ∷ []) h (rw (digit-is_a (n % 10) (omega arith)))

value-more : (p : List ℕ) (v b : ℕ) → value_from v (p ++ b ∷ []) ≡ value_from v p * 10 + digit_of b
unfolding value_from
value-more [] v b = refl
value-more (x ∷ p) v b = value-more p (v * 10 + digit_of x) b

-- digits ds of value n, without a needless zero
pub record Written (n : ℕ) (ds : List ℕ) : Type 0 where
  pub some : 1 ≤ length ds
  pub value : value_from 0 ds ≡ n
  pub lead : 0 < n → digit_of (get_or ds 0 0) ≢ 0
  pub one : n < 10 → length ds ≡ 1

one-digit : (n : ℕ) → n < 10 → Written n (digit_byte n ∷ [])
unfolding value_from
one-digit n h = record {
  some = le_refl 1;
  value = omega (arith, digit_value n h);
  lead = λ p e. omega (arith, digit_value n h);
  one = λ p. refl;
}

digit-more : (n : ℕ) (ds : List ℕ) → 10 ≤ n → Written (n / 10) ds → Written n (ds ++ digit_byte (n % 10) ∷ [])
digit-more n ds h w = record {
  some = omega (arith, length-append ds (digit_byte (n % 10) ∷ []));
  value = value-more ds 0 (digit_byte (n % 10)) ∙ omega (arith, w.value, digit_value (n % 10) (omega arith));
  lead = λ p. rw (get_or-append ds (digit_byte (n % 10) ∷ []) 0 0 w.some) (w.lead (omega arith));
  one = λ p. absurd (omega arith);
}

tenth : (k n : ℕ) → n < 10 ^ suc k → n / 10 < 10 ^ k
tenth k n h = omega (arith, rw (pow-suc 10 k) at h)

-- digits are left for the tenth part of a number above nine
tenth-some : (k n : ℕ) → 10 ≤ n → n < 10 ^ suc k → 1 ≤ k
tenth-some zero n l h = absurd (omega arith)
tenth-some (suc k) n l h = omega arith

pub written : (most n : ℕ) → 1 ≤ most → n < 10 ^ most → Written n (digits most n)
unfolding digits
written zero n m h = absurd (omega arith)
written (suc most) n m h = go (ltb n 10) refl (λ l. written most (n / 10) l (tenth most n h))
  where
    go : (t : Bool) → ltb n 10 ≡ t → (1 ≤ most → Written (n / 10) (digits most (n / 10))) → Written n (cond t (digit_byte n ∷ []) (digits most (n / 10) ++ digit_byte (n % 10) ∷ []))
    go true e r = one-digit n (ltb-true n 10 e)
    go false e r = let l = ltb-false n 10 e in digit-more n (digits most (n / 10)) l (r (tenth-some most n l h))

-- a number below 10 ^ k takes at most k digits
pub width : (most k n : ℕ) → 1 ≤ k → n < 10 ^ k → length (digits most n) ≤ k
unfolding digits
width zero k n l h = zero-le
width (suc most) zero n l h = absurd (omega arith)
width (suc most) (suc k) n l h = go (ltb n 10) refl (λ q. width most k (n / 10) q (tenth k n h))
  where
    go : (t : Bool) → ltb n 10 ≡ t → (1 ≤ k → length (digits most (n / 10)) ≤ k) → length (cond t (digit_byte n ∷ []) (digits most (n / 10) ++ digit_byte (n % 10) ∷ [])) ≤ suc k
    go true e r = omega arith
    go false e r = omega (arith, length-append (digits most (n / 10)) (digit_byte (n % 10) ∷ []), r (tenth-some k n (ltb-false n 10 e) h))

no_zero : (n : ℕ) (ds : List ℕ) → Written n ds → needless_zero ds ≡ false
unfolding needless_zero
no_zero n ds w = elim (true-or-false (ltb n 10)) [
  | inl e ↦ rw (w.one (ltb-true n 10 e))
  | inr e ↦ rw (ne_eqb (digit_of (get_or ds 0 0)) 0 (w.lead (omega (arith, ltb-false n 10 e)))) (and-false (ltb 1 (length ds)))
]

pub number-written : (most n : ℕ) → 1 ≤ most → n < 10 ^ most → is_number most (digits most n) ≡ true
unfolding is_number
number-written most n m h =
    let w = written most n m h in
    rw (le-leb 1 (length (digits most n)) w.some, le-leb (length (digits most n)) most (width most most n m h), no_zero n (digits most n) w, digits-all most n)

pub number-back : (most n : ℕ) → 1 ≤ most → n < 10 ^ most → number_in most (digits most n) ≡ some n
unfolding number_in
number-back most n m h = rw (number-written most n m h, (written most n m h).value)

-- ---- what is read is what is written

-- so many digits, or more, write v as ds
abbrev Writes : ℕ → ℕ → List ℕ → Type 0
Writes k v ds = (most : ℕ) → k ≤ most → digits most v ≡ ds

writes_one : (b : ℕ) → is_a Digit b ≡ true → Writes 1 (digit_of b) (b ∷ [])
unfolding digits
writes_one b h zero l = absurd (omega arith)
writes_one b h (suc most) l = let z = is_a-digit b h in rw (lt-ltb (digit_of b) 10 z.0, z.1)

-- one more digit behind a number that is not 0
writes_more : (k v b : ℕ) (ds : List ℕ) → 0 < v → is_a Digit b ≡ true → Writes k v ds → Writes (suc k) (v * 10 + digit_of b) (ds ++ b ∷ [])
unfolding digits
writes_more k v b ds p h w zero l = absurd (omega arith)
writes_more k v b ds p h w (suc most) l =
    let z = is_a-digit b h in
    let q : (v * 10 + digit_of b) / 10 ≡ v = omega (arith, z.0) in
    let r : (v * 10 + digit_of b) % 10 ≡ digit_of b = omega (arith, z.0) in
    rw (le-ltb (v * 10 + digit_of b) 10 (omega arith), q, r, z.1, w most (omega arith))

writes-all : (k v : ℕ) (ds bs : List ℕ) → 0 < v → every (is_a Digit) bs ≡ true → Writes k v ds → Writes (k + length bs) (value_from v bs) (ds ++ bs)
unfolding every value_from
writes-all k v ds [] p h w most l = w most (omega arith) ∙ sym (append-nil ds)
writes-all k v ds (b ∷ bs) p h w most l =
    let z = and-true (is_a Digit b) (every (is_a Digit) bs) h in
    writes-all (suc k) (v * 10 + digit_of b) (ds ++ b ∷ []) bs (omega arith) z.1 (writes_more k v b ds p z.0 w) most (omega arith)
    ∙ append_assoc ds (b ∷ []) bs

-- what `is_number` tests
record Number? (most : ℕ) (bs : List ℕ) : Type 0 where
  some : 1 ≤ length bs
  few : length bs ≤ most
  lead : 1 < length bs → 0 < digit_of (get_or bs 0 0)
  all : every (is_a Digit) bs ≡ true

tested : (most : ℕ) (bs : List ℕ) → is_number most bs ≡ true → Number? most bs
unfolding is_number needless_zero
tested most bs h =
    let z = and-four (leb 1 (length bs)) (leb (length bs) most) (not (needless_zero bs)) (every (is_a Digit) bs) h in
    record {
      some = leb-true 1 (length bs) z.0;
      few = leb-true (length bs) most z.1;
      lead = λ l. omega (arith, eqb-false (digit_of (get_or bs 0 0)) 0 (rw (lt-ltb 1 (length bs) l) at (not-is-true (needless_zero bs) z.2)));
      all = z.3;
    }

number-bytes : (most : ℕ) (bs : List ℕ) → Number? most bs → digits most (value_from 0 bs) ≡ bs
unfolding value_from every
number-bytes most [] t = absurd (omega (arith, t.some))
number-bytes most (a ∷ bs) t = rw (zero-add (digit_of a)) (go bs t (and-true (is_a Digit a) (every (is_a Digit) bs) t.all))
  where
    go : (bs : List ℕ) → Number? most (a ∷ bs) → (is_a Digit a ≡ true) × (every (is_a Digit) bs ≡ true) → digits most (value_from (digit_of a) bs) ≡ a ∷ bs
    go [] t z = writes_one a z.0 most t.few
    go (b ∷ bs) t z = writes-all 1 (digit_of a) (a ∷ []) (b ∷ bs) (t.lead (omega arith)) z.1 (writes_one a z.0) most (omega (arith, t.few))

pub number_digits : (most : ℕ) (bs : List ℕ) → is_number most bs ≡ true → every (is_a Digit) bs ≡ true
number_digits most bs h = (tested most bs h).all

pub number_is : (most : ℕ) (bs : List ℕ) → is_number most bs ≡ true → digits most (value_from 0 bs) ≡ bs
number_is most bs h = number-bytes most bs (tested most bs h)

-- ---- two numbers with the same digits

pub same_digits : (most n m : ℕ) → 1 ≤ most → n < 10 ^ most → m < 10 ^ most → digits most n ≡ digits most m → n ≡ m
same_digits most n m l h k e =
    let p = number-back most n l h in
    let q = number-back most m l k in
    cc

wide : (most n : ℕ) → 10 ^ most ≤ n → suc most ≤ length (digits (suc most) n)
unfolding digits
wide zero n h = go (ltb n 10)
  where
    go : (t : Bool) → 1 ≤ length (cond t (digit_byte n ∷ []) (digits 0 (n / 10) ++ digit_byte (n % 10) ∷ []))
    go true = le_refl 1
    go false = le_refl 1
wide (suc most) n h =
    let k = rw (pow-suc 10 most) at h in
    rw (le-ltb n 10 (omega (arith, one-le-pow most 10 (omega arith)))) (omega (arith, length-append (digits (suc most) (n / 10)) (digit_byte (n % 10) ∷ []), wide most (n / 10) (omega arith)))

-- Of a number that has more digits than are written, all the digits that can be are: no smaller one has the same.
pub small-digits : (most n m : ℕ) → 1 ≤ most → m < 10 ^ most → digits (suc most) n ≡ digits (suc most) m → n ≡ m
small-digits most n m l s e = elim (dec_le (10 ^ most) n) [
  | yes w ↦ absurd (omega (arith, wide most n w, width (suc most) most m l s, ap length e))
  | no w ↦ same_digits (suc most) n m (omega arith) (omega (arith, pow-suc 10 most)) (omega (arith, pow-suc 10 most)) e
]
