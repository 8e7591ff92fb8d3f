-- Laws on the classes of bytes and on their entries. A digit's entry is its value, which is below 10, and any
-- other byte's the number of its class, which is not; so an entry tells both, as the range rule of the definitions does.
-- Assumes nothing.
use Prim.Native.Nat.{ℕ, ◌+◌, ◌-◌, ◌≤◌, ◌<◌}
use mathlib.Core.Path.{◌≡◌, refl, sym, ap, ◌∙◌}
use mathlib.Core.Bool.{Bool, true, false, not, ◌&&◌, cond}
use native.Mathlib.Decide.{ℕ_discrete}
use native.Mathlib.Omega.{arith}
use lib.Dec.{leb, eqb, ltb}
use borrow.Author.Tests.{leb-true, eq-eqb, ne_eqb, eqb-false, lt-ltb, le-ltb}
use Rattle.spec.specs.Lists.{every}
use Rattle.spec.specs.Text.{named, class_names, in_digits, class_of, digit_of, is_a}
use Rattle.spec.specs.Classes.{class_code, alike}
use Rattle.spec.specs.declared.Class.{Class}
use Rattle.spec.specs.declared.Class.TheVariants.{Digit, Comma, Dash, LineEnd, LetterP, LetterT, LetterI, LetterO, LetterH, LetterS, LetterE, LetterC, LetterB, LetterA, LetterG, LetterR, LetterK, LetterJ, LetterW, Return, Foreign}
use Rattle.lists.specs.Laws.{not-is-true}
use Rattle.lists.specs.OneByte.{named-passes, alone, one_byte, only-byte}
use Rattle.byte_entries.specs.Entries.{code_of, entry_of, class_by, digit_by, is_entry}

-- ---- the number of a class

-- a class is known by its entry
class_back : (k : Class) → 1 ≤ class_code k → class_by (code_of k) ≡ k
unfolding class_by
class_back Digit h = absurd (omega arith)
class_back Comma h = refl
class_back Dash h = refl
class_back LineEnd h = refl
class_back LetterP h = refl
class_back LetterT h = refl
class_back LetterI h = refl
class_back LetterO h = refl
class_back LetterH h = refl
class_back LetterS h = refl
class_back LetterE h = refl
class_back LetterC h = refl
class_back LetterB h = refl
class_back LetterA h = refl
class_back LetterG h = refl
class_back LetterR h = refl
class_back LetterK h = refl
class_back LetterJ h = refl
class_back LetterW h = refl
class_back Return h = refl
class_back Foreign h = refl

-- no name is that of the digits
named-code : (b : ℕ) → 1 ≤ class_code (named b class_names)
unfolding every
named-code b = let e = not-is-true _ (named-passes (λ b k. not (eqb (class_code k) 0)) (λ b. refl) b class_names refl) in
    let d = eqb-false (class_code (named b class_names)) 0 e in omega arith

-- ---- what an entry tells

pub digit_low : (b : ℕ) → digit_of b ≤ 9
unfolding digit_of in_digits
digit_low b = go (leb 48 b) (leb b 57) refl
  where
    go : (s t : Bool) → leb b 57 ≡ t → cond (s && t) (b - 48) 0 ≤ 9
    go true true q = omega (arith, leb-true b 57 q)
    go true false q = omega arith
    go false t q = omega arith

-- a byte by its range: a digit, or a byte of another class
pub data Told (b : ℕ) : Type 0 where
  a-digit : class_of b ≡ Digit → entry_of b ≡ digit_of b → Told b
  no_digit : 1 ≤ class_code (class_of b) → digit_of b ≡ 0 → entry_of b ≡ code_of (class_of b) → Told b

pub told : (b : ℕ) → Told b
unfolding entry_of class_of digit_of
told b = go (in_digits b) refl
  where
    go : (t : Bool) → in_digits b ≡ t → Told b
    go true e = a-digit (rw e) (rw e)
    go false e = no_digit (rw e (named-code b)) (rw e) (rw e)

same_sum : (n x y : ℕ) → eqb (n + x) (n + y) ≡ eqb x y
same_sum n x y = elim (ℕ_discrete x y) [
  | yes e ↦ eq-eqb (n + x) (n + y) (ap (λ (z : ℕ). n + z) e) ∙ sym (eq-eqb x y e)
  | no d ↦ ne_eqb (n + x) (n + y) (λ e. d (omega arith)) ∙ sym (ne_eqb x y d)
]

module _ (b : ℕ) where
  -- the class
  pub class-told : (k : Class) → 1 ≤ class_code k → is_entry (code_of k) b ≡ is_a k b
  unfolding is_a alike
  class-told k h = go (told b)
    where
      go : Told b → is_entry (code_of k) b ≡ is_a k b
      go (a-digit c e) = rw (c, e) (ne_eqb (digit_of b) (code_of k) (λ z. omega (arith, digit_low b)) ∙ sym (ne_eqb 0 (class_code k) (λ z. omega arith)))
      go (no_digit c d e) = rw e (same_sum 9 (class_code (class_of b)) (class_code k))

  pub digit-told : ltb (entry_of b) 10 ≡ is_a Digit b
  unfolding is_a alike
  digit-told = go (told b)
    where
      go : Told b → ltb (entry_of b) 10 ≡ is_a Digit b
      go (a-digit c e) = rw (c, e) (lt-ltb (digit_of b) 10 (omega (arith, digit_low b)))
      go (no_digit c d e) = rw e (le-ltb (code_of (class_of b)) 10 (omega arith) ∙ sym (ne_eqb (class_code (class_of b)) 0 (λ z. omega arith)))

  -- the digit value
  pub value-told : digit_by (entry_of b) ≡ digit_of b
  unfolding digit_by
  value-told = go (told b)
    where
      go : Told b → cond (ltb (entry_of b) 10) (entry_of b) 0 ≡ digit_of b
      go (a-digit c e) = rw (e, lt-ltb (digit_of b) 10 (omega (arith, digit_low b)))
      go (no_digit c d e) = rw (e, le-ltb (code_of (class_of b)) 10 (omega arith)) (sym d)

  -- the class by its name
  pub class-named : class_by (entry_of b) ≡ class_of b
  class-named = go (told b)
    where
      digit-named : (n : ℕ) → n ≤ 9 → class_by n ≡ Digit
      digit-named n h = unfold class_by in (rw (lt-ltb n 10 (omega arith)))

      go : Told b → class_by (entry_of b) ≡ class_of b
      go (a-digit c e) = rw (e, c) (digit-named (digit_of b) (digit_low b))
      go (no_digit c d e) = rw e (class_back (class_of b) c)

  -- a digit by its entry
  module _ (h : entry_of b < 10) where
    pub entry-digit : is_a Digit b ≡ true
    entry-digit = sym digit-told ∙ lt-ltb (entry_of b) 10 h

    pub entry_value : entry_of b ≡ digit_of b
    unfolding digit_by
    entry_value = sym (rw (lt-ltb (entry_of b) 10 h)) ∙ value-told

  -- a byte of another class by its entry
  pub entry-class : (k : Class) → 1 ≤ class_code k → entry_of b ≡ code_of k → class_of b ≡ k
  entry-class k h e = sym class-named ∙ rw e (class_back k h)

-- ---- classes of one byte

-- a byte with the entry of another that alone has its class is that byte
entry-byte : (x : ℕ) → alone x ≡ true → (b : ℕ) → entry_of b ≡ entry_of x → b ≡ x
unfolding is_a alike
entry-byte x h b e = one_byte x h b (eq-eqb (class_code (class_of b)) (class_code (class_of x)) (ap class_code (sym (class-named b) ∙ ap class_by e ∙ class-named x)))

pub comma-entry : (b : ℕ) → entry_of b ≡ 10 → b ≡ 44
unfolding entry_of alone every alike class_of named in_digits
comma-entry b e = entry-byte 44 refl b e

pub dash-entry : (b : ℕ) → entry_of b ≡ 11 → b ≡ 45
unfolding entry_of alone every alike class_of named in_digits
dash-entry b e = entry-byte 45 refl b e

-- ---- the line end and the return are one byte each

pub line-end : (b : ℕ) → is_a LineEnd b ≡ eqb b 10
unfolding alone every alike class_of named in_digits
line-end = only-byte 10 refl

pub return-byte : (b : ℕ) → is_a Return b ≡ eqb b 13
unfolding alone every alike class_of named in_digits
return-byte = only-byte 13 refl
