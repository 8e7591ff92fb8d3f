-- The forms of lines: a line that is written has its form and its values, and a line of a form is what is written for
-- its values.
use Rattle.std.specs.Prelude.{◌≡◌, ℕ, zero, suc, ◌^◌, ◌≤◌, ◌<◌, Bool, true, false, ◌&&◌, ◌||◌, cond, List, [], ◌∷◌, map, length, get_or, leb}
use Rattle.std.proofs.Math.Path.{refl, ap}
use Rattle.std.proofs.Common.{sym, ap₂, le_trans, arith}
use Prim.Native.Char.{Char, code}
use Rattle.std.proofs.Math.Option.{Option, none, some}
use Rattle.std.proofs.Math.ListN.{length-map}
use borrow.Author.Tests.{ltb-true, leb-true, le-leb, eq-eqb}
use Rattle.spec.specs.Lists.{In, every}
use Rattle.spec.specs.Classes.{class_code, alike}
use Rattle.spec.specs.Text.{Line, named, in_digits, class_of, digit_of, is_a, is_only, is_dash, most_digits, needless_zero, is_number, value_from, number_in, field_bytes}
use Rattle.spec.specs.Forms.{FieldForm, number, number_or_dash, has_letter, fields_of, is_of, are_of, is_line, is_list_line, event_at, or_zero, number_at, numbers_of}
use Rattle.spec.specs.Record.{event_field}
use Rattle.spec.specs.Process.{is_below}
use Rattle.spec.specs.declared.Field.{Field}
use Rattle.spec.specs.declared.Field.TheVariants.{Number, Dash}
use Rattle.lists.specs.Laws.{here, there, clash, and-true, and-three, and-four}
use Rattle.runs.specs.Bytes.{Letter}
use Rattle.runs.specs.Digits.{number-written, number-back, number_is}
use Rattle.runs.specs.Fields.{FieldBelow, Writable, FieldsBelow, AllWritable, dash-bytes, body, ended, body-pieces, body_is}

-- ---- fields that are written

-- what a field that is written is read as
abbrev pub event_of : Field → Option ℕ
event_of (Number n) = some n
event_of Dash = none

abbrev pub value_of : Field → ℕ
value_of f = or_zero (event_of f)

abbrev fits : FieldForm → Field → Bool
fits number (Number n) = true
fits number Dash = false
fits number_or_dash f = true

abbrev pub all_fit : List FieldForm → List Field → Bool
all_fit [] [] = true
all_fit [] (f ∷ fs) = false
all_fit (x ∷ xs) [] = false
all_fit (x ∷ xs) (f ∷ fs) = fits x f && all_fit xs fs

pub event-back : (o : Option ℕ) → event_of (event_field o) ≡ o
unfolding event_field
event-back none = refl
event-back (some e) = refl

pub event-below : (n b : ℕ) (o : Option ℕ) → n ≤ b → is_below n o ≡ true → FieldBelow b (event_field o)
unfolding is_below event_field
event-below n b none l h = tt
event-below n b (some e) l h = le_trans (ltb-true e n h) l

field-number : (f : Field) → Writable f → number_in most_digits (field_bytes f) ≡ event_of f
unfolding field_bytes
field-number (Number n) w = number-back most_digits n (omega arith) w
field-number Dash w = unfold number_in is_number needless_zero digit_of every is_a alike class_of named in_digits in refl

field_fits : (x : FieldForm) (f : Field) → Writable f → is_of x (field_bytes f) ≡ fits x f
unfolding is_of field_bytes
field_fits number (Number n) w = number-written most_digits n (omega arith) w
field_fits number Dash w = unfold is_number needless_zero digit_of every is_a alike class_of named in_digits in refl
field_fits number_or_dash (Number n) w = rw (number-written most_digits n (omega arith) w)
field_fits number_or_dash Dash w = unfold is_number needless_zero digit_of every is_dash is_only is_a alike class_of named in_digits in refl

fields_fit : (xs : List FieldForm) (fs : List Field) → AllWritable fs → are_of xs (map field_bytes fs) ≡ all_fit xs fs
unfolding are_of
fields_fit [] [] w = refl
fields_fit [] (f ∷ fs) w = refl
fields_fit (x ∷ xs) [] w = refl
fields_fit (x ∷ xs) (f ∷ fs) w = ap₂ ◌&&◌ (field_fits x f w.0) (fields_fit xs fs w.1)

number-in : (fs : List Field) → AllWritable fs → (i : ℕ) → number_in most_digits (get_or (map field_bytes fs) i []) ≡ event_of (get_or fs i Dash)
number-in [] w i = unfold number_in is_number in refl
number-in (f ∷ fs) w zero = field-number f w.0
number-in (f ∷ fs) w (suc i) = number-in fs w.1 i

-- ---- a line that is written, whatever form is asked for

module _ {c : Char} (L : Letter c) (fs : List Field) where
  pub fields_back : fields_of (ended (body c fs)) ≡ map field_bytes fs
  unfolding fields_of
  fields_back = rw (body-pieces L fs)

  letter-is : (d : Char) → has_letter d (ended (body c fs)) ≡ is_only (class_of (code d)) (code c ∷ [])
  unfolding has_letter
  letter-is d = rw (body-pieces L fs)

  module _ (w : AllWritable fs) where
    pub form-back : (d : Char) (xs : List FieldForm) → is_line d xs (ended (body c fs)) ≡ (is_only (class_of (code d)) (code c ∷ []) && all_fit xs fs)
    unfolding is_line
    form-back d xs = rw (letter-is d, fields_back, fields_fit xs fs w)

    pub event-at : (i : ℕ) → event_at (ended (body c fs)) i ≡ event_of (get_or fs i Dash)
    unfolding event_at
    event-at i = rw fields_back (number-in fs w i)

    pub number-at : (i : ℕ) → number_at (ended (body c fs)) i ≡ value_of (get_or fs i Dash)
    unfolding number_at
    number-at i = ap or_zero (event-at i)

-- ---- a line of a form

-- what is written for the fields of a line of these forms; p is its fields
abbrev pub asked : List FieldForm → (ℕ → List ℕ) → List Field
asked [] p = []
asked (number ∷ xs) p = Number (or_zero (number_in most_digits (p 0))) ∷ asked xs (λ i. p (suc i))
asked (number_or_dash ∷ xs) p = event_field (number_in most_digits (p 0)) ∷ asked xs (λ i. p (suc i))

number-bytes : (p : List ℕ) → is_number most_digits p ≡ true → field_bytes (Number (or_zero (number_in most_digits p))) ≡ p
unfolding number_in field_bytes
number-bytes p h = rw h (number_is most_digits p h)

event-bytes : (p : List ℕ) → (is_number most_digits p || is_dash p) ≡ true → field_bytes (event_field (number_in most_digits p)) ≡ p
unfolding number_in event_field field_bytes
event-bytes p h = go (is_number most_digits p) refl h
  where
    go : (t : Bool) → is_number most_digits p ≡ t → (t || is_dash p) ≡ true → field_bytes (event_field (cond t (some (value_from 0 p)) none)) ≡ p
    go true e h = number_is most_digits p e
    go false e h = sym (dash-bytes p h)

asked-bytes : (xs : List FieldForm) (ps : List (List ℕ)) → are_of xs ps ≡ true → map field_bytes (asked xs (λ i. get_or ps i [])) ≡ ps
unfolding are_of is_of
asked-bytes [] [] h = refl
asked-bytes [] (p ∷ ps) h = clash h refl
asked-bytes (x ∷ xs) [] h = clash h refl
asked-bytes (number ∷ xs) (p ∷ ps) h = let z = and-true (is_number most_digits p) (are_of xs ps) h in ap₂ (λ q qs. q ∷ qs) (number-bytes p z.0) (asked-bytes xs ps z.1)
asked-bytes (number_or_dash ∷ xs) (p ∷ ps) h = let z = and-true (is_number most_digits p || is_dash p) (are_of xs ps) h in ap₂ (λ q qs. q ∷ qs) (event-bytes p z.0) (asked-bytes xs ps z.1)

pub form-is : {c : Char} → Letter c → (xs : List FieldForm) (l : Line) → is_line c xs l ≡ true → (l.ended ≡ true) × (l.bytes ≡ body c (asked xs (λ i. get_or (fields_of l) i [])))
unfolding is_line
form-is {c} L xs l h =
    let z = and-three l.ended (has_letter c l) (are_of xs (fields_of l)) h in
    (z.0, body_is L l _ z.1 (asked-bytes xs (fields_of l) z.2))

-- ---- a letter and a list of numbers

pub numbers-below : (b : ℕ) (ns : List ℕ) → ((n : ℕ) → In n ns → n < b) → FieldsBelow b (map Number ns)
numbers-below b [] h = tt
numbers-below b (n ∷ ns) h = (h n here, numbers-below b ns (λ m i. h m (there i)))

pub values : (ns : List ℕ) → map value_of (map Number ns) ≡ ns
values [] = refl
values (n ∷ ns) = ap (λ (l : List ℕ). n ∷ l) (values ns)

all-numbers : (ns : List ℕ) → AllWritable (map Number ns) → every (is_of number) (map field_bytes (map Number ns)) ≡ true
unfolding every
all-numbers [] w = refl
all-numbers (n ∷ ns) w = rw (field_fits number (Number n) w.0) (all-numbers ns w.1)

numbers-read : (ns : List ℕ) → AllWritable (map Number ns) → map (λ p. or_zero (number_in most_digits p)) (map field_bytes (map Number ns)) ≡ ns
numbers-read [] w = refl
numbers-read (n ∷ ns) w = ap₂ (λ (m : ℕ) (ms : List ℕ). m ∷ ms) (ap or_zero (field-number (Number n) w.0)) (numbers-read ns w.1)

number-fields : (ps : List (List ℕ)) → every (is_of number) ps ≡ true → map field_bytes (map Number (map (λ p. or_zero (number_in most_digits p)) ps)) ≡ ps
unfolding every is_of
number-fields [] h = refl
number-fields (p ∷ ps) h = let z = and-true (is_number most_digits p) (every (is_of number) ps) h in ap₂ (λ q qs. q ∷ qs) (number-bytes p z.0) (number-fields ps z.1)

module _ {c : Char} (L : Letter c) where
  letter-same : is_only (class_of (code c)) (code c ∷ []) ≡ true
  unfolding is_only is_a alike
  letter-same = eq-eqb (class_code (class_of (code c))) (class_code (class_of (code c))) refl

  pub list_back : (ns : List ℕ) → 0 < length ns → ((n : ℕ) → In n ns → n < 10 ^ most_digits)
      → (is_list_line c (ended (body c (map Number ns))) ≡ true) × (numbers_of (ended (body c (map Number ns))) ≡ ns)
  unfolding is_list_line numbers_of
  list_back ns l h =
      let w = numbers-below (10 ^ most_digits) ns h in
      let n = le-leb 1 (length (map field_bytes (map Number ns))) (omega (arith, length-map (map Number ns) field_bytes, length-map ns Number)) in (
        rw (letter-is L (map Number ns) c, fields_back L (map Number ns), letter-same, n) (all-numbers ns w),
        rw (fields_back L (map Number ns)) (numbers-read ns w),
      )

  pub list-is : (l : Line) → is_list_line c l ≡ true → (l.ended ≡ true) × (l.bytes ≡ body c (map Number (numbers_of l))) × (0 < length (numbers_of l))
  unfolding is_list_line numbers_of
  list-is l h =
      let z = and-four l.ended (has_letter c l) (leb 1 (length (fields_of l))) (every (is_of number) (fields_of l)) h in (
        z.0,
        body_is L l _ z.1 (number-fields (fields_of l) z.3),
        omega (arith, length-map (fields_of l) (λ p. or_zero (number_in most_digits p)), leb-true 1 (length (fields_of l)) z.2),
      )
