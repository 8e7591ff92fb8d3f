-- Writes one after another, and a write from the start of a buffer.
use Prim.Native.Nat.{ℕ, zero, suc, ◌+◌, ◌-◌, ◌/◌, ◌%◌, ◌≤◌, ◌<◌}
use mathlib.Core.Path.{◌≡◌, refl, sym, ap, ap₂, ◌∙◌}
use mathlib.Core.List.{List, [], ◌∷◌, ◌++◌, append_assoc, append-nil}
use native.Mathlib.Numerals.{add-one}
use native.Mathlib.Nat.{add-zero, le_of_eq}
use native.Mathlib.Decide.{dec_lt}
use native.Mathlib.Omega.{arith}
use lib.ListN.{length, set, take, get_or, length-set, length-append}
use lib.Seq.{sets, sets-eq, take-suc}
use borrow.Author.Tests.{lt-ltb, le-ltb}
use Rattle.spec.specs.Text.{digit_byte, digits, fields_bytes, field_bytes}
use Rattle.spec.specs.Buffer.{over}
use Rattle.spec.specs.declared.Field.{Field}
use Rattle.spec.specs.declared.Field.TheVariants.{Number, Dash}
use Rattle.writing.specs.Written.{put_at, Wrote, last_two, line_bytes}

-- ---- writes

pub put-length : (old : List ℕ) (at : ℕ) (bs : List ℕ) → length (put_at old at bs) ≡ length old
unfolding put_at
put-length old at [] = refl
put-length old at (b ∷ bs) = put-length (set old at b) (at + 1) bs ∙ length-set old at b

-- two writes, the second where the first ended, are one
put-put : (old : List ℕ) (at : ℕ) (xs ys : List ℕ) → put_at (put_at old at xs) (at + length xs) ys ≡ put_at old at (xs ++ ys)
unfolding put_at
put-put old at [] ys = rw (add-zero at)
put-put old at (x ∷ xs) ys =
    let e : at + suc (length xs) ≡ at + 1 + length xs = omega arith in
    rw e (put-put (set old at x) (at + 1) xs ys)

as-sets : (old : List ℕ) (at : ℕ) (bs : List ℕ) → put_at old at bs ≡ sets old at bs
unfolding put_at
as-sets old at [] = refl
as-sets old at (b ∷ bs) = rw (add-one at) (as-sets (set old at b) (suc at) bs)

-- a write from the start: what is written, and behind it the old contents
pub put-over : (old bs : List ℕ) → length bs ≤ length old → put_at old 0 bs ≡ over bs old
unfolding over
put-over old bs h = as-sets old 0 bs ∙ sets-eq bs old 0 (omega arith) ∙ let e : 0 + length bs ≡ length bs = omega arith in rw e

pub wrote-length : {old new : List ℕ} {at r : ℕ} {bs : List ℕ} → Wrote old at bs r new → length new ≡ length old
wrote-length {old} {at} {bs} w = ap length w.bytes ∙ put-length old at bs

-- nothing
pub none : (old : List ℕ) (at : ℕ) → Wrote old at [] at old
unfolding put_at
none old at = record { next = sym (add-zero at); bytes = refl }

pub one : (old : List ℕ) (at b : ℕ) → Wrote old at (b ∷ []) (at + 1) (set old at b)
unfolding put_at
one old at b = record { next = refl; bytes = refl }

pub two : (old : List ℕ) (at a b : ℕ) → Wrote old at (a ∷ b ∷ []) (at + 2) (set (set old at a) (at + 1) b)
unfolding put_at
two old at a b = record { next = refl; bytes = refl }

-- a write, and another where it ended
pub after : {old mid new : List ℕ} {at i r : ℕ} {xs ys : List ℕ} → Wrote old at xs i mid → Wrote mid i ys r new → Wrote old at (xs ++ ys) r new
after {old} {at} {xs} {ys} a b = record {
  next = omega (arith, length-append xs ys, a.next, b.next);
  bytes = b.bytes ∙ ap₂ (λ (m : List ℕ) (k : ℕ). put_at m k ys) a.bytes a.next ∙ put-put old at xs ys;
}

-- where two writes fit, the second fits after the first
pub room_after : {old new : List ℕ} {at r : ℕ} {xs : List ℕ} (ys : List ℕ) → Wrote old at xs r new → at + length (xs ++ ys) ≤ length old → r + length ys ≤ length new
room_after {xs = xs} ys w h = omega (arith, length-append xs ys, w.next, wrote-length w)

-- ---- numbers

pub digits_low : (most n : ℕ) → 0 < most → n < 10 → digits most n ≡ (48 + n) ∷ []
unfolding digits digit_byte
digits_low zero n h l = absurd (omega arith)
digits_low (suc most) n h l = rw (lt-ltb n 10 l)

digits-high : (most n : ℕ) → 0 < most → 10 ≤ n → digits most n ≡ digits (most - 1) (n / 10) ++ (48 + n % 10) ∷ []
unfolding digits digit_byte
digits-high zero n h l = absurd (omega arith)
digits-high (suc most) n h l = let e : suc most - 1 ≡ most = omega arith in rw (le-ltb n 10 l, e)

digits-none : (n : ℕ) → digits 0 n ≡ []
unfolding digits
digits-none n = refl

-- what stands before the last digit
digits_more : (most n : ℕ) {xs : List ℕ} → 0 < most → 10 ≤ n → digits (most - 1) (n / 10) ≡ xs → digits most n ≡ xs ++ (48 + n % 10) ∷ []
digits_more most n h l e = digits-high most n h l ∙ ap (λ (ys : List ℕ). ys ++ (48 + n % 10) ∷ []) e

-- numbers of two, three and four digits
pub digits-two : (n : ℕ) → 10 ≤ n → n < 100 → digits 4 n ≡ last_two n
digits-two n h l = let q : n / 10 % 10 ≡ n / 10 = omega arith in rw q (digits_more 4 n (omega arith) h (digits_low 3 (n / 10) (omega arith) (omega arith)))

pub digits-three : (n : ℕ) → 100 ≤ n → n < 1000 → digits 4 n ≡ (48 + n / 100) ∷ last_two n
digits-three n h l =
    let q : n / 10 / 10 ≡ n / 100 = omega arith in
    rw (← q) (digits_more 4 n (omega arith) (omega arith) (digits_more 3 (n / 10) (omega arith) (omega arith) (digits_low 2 (n / 10 / 10) (omega arith) (omega arith))))

digits_last : (n : ℕ) → digits 1 n ≡ (48 + n % 10) ∷ []
digits_last n = elim (dec_lt n 10) [
  | yes l ↦ digits_low 1 n (omega arith) l ∙ ap (λ (z : ℕ). (48 + z) ∷ []) (omega arith)
  | no d ↦ digits_more 1 n (omega arith) (omega arith) (digits-none (n / 10))
]

pub digits-four : (n : ℕ) → 1000 ≤ n → digits 4 n ≡ last_two (n / 100) ++ last_two n
digits-four n h =
    let q : n / 10 / 10 ≡ n / 100 = omega arith in
    rw (← q) (digits_more 4 n (omega arith) (omega arith) (digits_more 3 (n / 10) (omega arith) (omega arith) (digits_more 2 (n / 10 / 10) (omega arith) (omega arith) (digits_last (n / 10 / 10 / 10)))))

-- ---- fields

pub number-bytes : {f : Field} {n : ℕ} → f ≡ Number n → field_bytes f ≡ digits 4 n
unfolding field_bytes
number-bytes e = rw e

pub dash-bytes : {f : Field} → f ≡ Dash → field_bytes f ≡ 45 ∷ []
unfolding field_bytes
dash-bytes e = rw e

pub fields-append : (xs ys : List Field) → fields_bytes (xs ++ ys) ≡ fields_bytes xs ++ fields_bytes ys
unfolding fields_bytes
fields-append [] ys = refl
fields-append (x ∷ xs) ys = ap (λ l. 44 ∷ l) (ap (λ l. field_bytes x ++ l) (fields-append xs ys) ∙ sym (append_assoc (field_bytes x) (fields_bytes xs) (fields_bytes ys)))

pub field-one : (f : Field) → fields_bytes (f ∷ []) ≡ 44 ∷ field_bytes f
unfolding fields_bytes
field-one f = ap (λ l. 44 ∷ l) (append-nil (field_bytes f))

-- a comma and a number
pub next-bytes : (n : ℕ) → fields_bytes (Number n ∷ []) ≡ 44 ∷ digits 4 n
unfolding field_bytes
next-bytes n = field-one (Number n)

-- the first field, and what stands behind it
pub fields-front : (f : Field) (fs : List Field) (ys : List ℕ) → fields_bytes (f ∷ fs) ++ ys ≡ fields_bytes (f ∷ []) ++ (fields_bytes fs ++ ys)
fields-front f fs ys = ap (λ (l : List ℕ). l ++ ys) (fields-append (f ∷ []) fs) ∙ append_assoc (fields_bytes (f ∷ [])) (fields_bytes fs) ys

-- one field more
pub fields-more : (fs : List Field) (i : ℕ) (d : Field) → i < length fs → fields_bytes (take (i + 1) fs) ≡ fields_bytes (take i fs) ++ fields_bytes (get_or fs i d ∷ [])
fields-more fs i d h = rw (add-one i, take-suc fs i d h) (fields-append (take i fs) (get_or fs i d ∷ []))

pub fields-none : (fs : List Field) → fields_bytes (take 0 fs) ≡ []
unfolding fields_bytes
fields-none fs = refl

-- the first fields are no longer than all of them
pub fields-part : (fs : List Field) (i k : ℕ) (d : Field) → i < k → k ≤ length fs → length (fields_bytes (take i fs)) + length (fields_bytes (get_or fs i d ∷ [])) ≤ length (fields_bytes (take k fs))
fields-part fs i k d h l = go (k - (i + 1)) (omega arith)
  where
    go : (j : ℕ) → i + 1 + j ≡ k → length (fields_bytes (take i fs)) + length (fields_bytes (get_or fs i d ∷ [])) ≤ length (fields_bytes (take k fs))
    go j e = rw (← e) (more j (omega arith))
      where
        more : (j : ℕ) → i + 1 + j ≤ length fs → length (fields_bytes (take i fs)) + length (fields_bytes (get_or fs i d ∷ [])) ≤ length (fields_bytes (take (i + 1 + j) fs))
        more zero p = rw (add-zero (i + 1)) (le_of_eq (sym (ap length (fields-more fs i d (omega arith)) ∙ length-append (fields_bytes (take i fs)) (fields_bytes (get_or fs i d ∷ [])))))
        more (suc j) p =
            let q : i + 1 + suc j ≡ i + 1 + j + 1 = omega arith in
            rw (q, fields-more fs (i + 1 + j) d (omega arith), length-append) (omega (arith, more j (omega arith)))

pub line-length : (b : ℕ) (fs : List Field) → length (line_bytes b fs) ≡ length (fields_bytes fs) + 2
line-length b fs = omega (arith, length-append (fields_bytes fs) (10 ∷ []))
