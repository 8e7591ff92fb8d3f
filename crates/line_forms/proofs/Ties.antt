-- A line is of a form of the definitions where it is ended and its row is of that form, and the row has the numbers that the
-- definitions take out of the line. Piece by piece: a piece is of a form where its slot is, and no piece is read as Absent.
-- Assumes nothing.
use Prim.Native.Nat.{ℕ, zero, suc, ◌<◌}
use Prim.Native.Char.{Char, code}
use mathlib.Core.Path.{◌≡◌, refl, sym, ap, ap₂, ◌∙◌}
use mathlib.Core.Bool.{Bool, true, false, ◌&&◌, ◌||◌, and_assoc, cond}
use mathlib.Core.Option.{none, some}
use mathlib.Core.List.{List, [], ◌∷◌, map}
use lib.ListN.{length, get_or, drop, length-map}
use lib.Dec.{eqb, leb}
use borrow.Author.Tests.{leb-true}
use native.Mathlib.Omega.{arith}
use Rattle.lists.specs.Laws.{and-four}
use Rattle.spec.specs.Lists.{every}
use Rattle.spec.specs.Classes.{alike}
use Rattle.spec.specs.Text.{Line, class_of, is_a, pieces, is_only, is_dash, most_digits, is_number, value_from, number_in}
use Rattle.spec.specs.Forms.{number, number_or_dash, has_letter, fields_of, is_of, are_of, is_line, is_list_line, event_at, or_zero, number_at, numbers_of}
use Rattle.spec.specs.declared.Class.{Class}
use Rattle.spec.specs.declared.Class.TheVariants.{Foreign}
use Rattle.line_forms.specs.Rows.{a_number, a_number_or_dash, absent, value_of, event_of, slot_of, letter_of, letter_in, slots_of, row_of, is_alone, is_one, is_two, is_triple, is_three, is_list, values_of}
use Rattle.line_forms.specs.declared.Row.{Row}
use Rattle.line_forms.specs.declared.Slot.{Slot}
use Rattle.line_forms.specs.declared.Slot.TheVariants.{Number, Dash, Wrong, Absent}

-- ---- a piece

-- where a number has at most `most` digits
module _ (most : ℕ) where
  pub number-slot : (p : List ℕ) → is_number most p ≡ a_number (slot_of most p)
  unfolding slot_of
  number-slot p = go (is_number most p) (is_dash p)
    where
      go : (x y : Bool) → x ≡ a_number (cond x (Number (value_from 0 p)) (cond y Dash Wrong))
      go true y = refl
      go false true = refl
      go false false = refl

  either-slot : (p : List ℕ) → (is_number most p || is_dash p) ≡ a_number_or_dash (slot_of most p)
  unfolding slot_of
  either-slot p = go (is_number most p) (is_dash p)
    where
      go : (x y : Bool) → (x || y) ≡ a_number_or_dash (cond x (Number (value_from 0 p)) (cond y Dash Wrong))
      go true y = refl
      go false true = refl
      go false false = refl

  pub present : (p : List ℕ) → absent (slot_of most p) ≡ false
  unfolding slot_of
  present p = go (is_number most p) (is_dash p)
    where
      go : (x y : Bool) → absent (cond x (Number (value_from 0 p)) (cond y Dash Wrong)) ≡ false
      go true y = refl
      go false true = refl
      go false false = refl

  event-slot : (p : List ℕ) → number_in most p ≡ event_of (slot_of most p)
  unfolding number_in slot_of
  event-slot p = go (is_number most p) (is_dash p)
    where
      go : (x y : Bool) → cond x (some (value_from 0 p)) none ≡ event_of (cond x (Number (value_from 0 p)) (cond y Dash Wrong))
      go true y = refl
      go false true = refl
      go false false = refl

  pub event-there : (ps : List (List ℕ)) (i : ℕ) → number_in most (get_or ps i []) ≡ event_of (get_or (map (slot_of most) ps) i Absent)
  event-there [] i = unfold number_in is_number in refl
  event-there (p ∷ ps) zero = event-slot p
  event-there (p ∷ ps) (suc i) = event-there ps i

pub event-value : (s : Slot) → or_zero (event_of s) ≡ value_of s
event-value (Number n) = refl
event-value Dash = refl
event-value Wrong = refl
event-value Absent = refl

pub letter-slot : (k : Class) → alike Foreign k ≡ false → (p : List ℕ) → is_only k p ≡ alike (letter_of p) k
unfolding is_only letter_of is_a
letter-slot k h p = go (eqb (length p) 1)
  where
    go : (t : Bool) → (t && alike (class_of (get_or p 0 0)) k) ≡ alike (cond t (class_of (get_or p 0 0)) Foreign) k
    go true = refl
    go false = sym h

-- ---- a row

-- three numbers are a number and two that can be dashes, neither of which is
pub triple_by_three : (k : Class) (r : Row) → is_triple k r ≡ (is_three k r && a_number r.second && a_number r.third)
unfolding is_triple is_three
triple_by_three k r = go (alike r.letter k && a_number r.first) r.second r.third (absent r.fourth)
  where
    go : (x : Bool) (s t : Slot) (d : Bool) → (x && a_number s && a_number t && d) ≡ ((x && a_number_or_dash s && a_number_or_dash t && d) && a_number s && a_number t)
    go false s t d = refl
    go true (Number n) (Number m) true = refl
    go true (Number n) (Number m) false = refl
    go true (Number n) Dash true = refl
    go true (Number n) Dash false = refl
    go true (Number n) Wrong d = refl
    go true (Number n) Absent d = refl
    go true Dash (Number m) true = refl
    go true Dash (Number m) false = refl
    go true Dash Dash true = refl
    go true Dash Dash false = refl
    go true Dash Wrong d = refl
    go true Dash Absent d = refl
    go true Wrong t d = refl
    go true Absent t d = refl

-- ---- the fields of a line

abbrev slot : List ℕ → Slot
slot p = slot_of most_digits p

no_field : (ps : List (List ℕ)) → are_of [] ps ≡ absent (get_or (map slot ps) 0 Absent)
unfolding are_of
no_field [] = refl
no_field (p ∷ ps) = sym (present most_digits p)

one_field : (ps : List (List ℕ)) → are_of (number ∷ []) ps ≡ (a_number (get_or (map slot ps) 0 Absent) && absent (get_or (map slot ps) 1 Absent))
unfolding are_of is_of
one_field [] = refl
one_field (p ∷ ps) = ap₂ ◌&&◌ (number-slot most_digits p) (no_field ps)

two_fields : (ps : List (List ℕ))
    → are_of (number ∷ number ∷ []) ps ≡ (a_number (get_or (map slot ps) 0 Absent) && (a_number (get_or (map slot ps) 1 Absent) && absent (get_or (map slot ps) 2 Absent)))
unfolding are_of is_of
two_fields [] = refl
two_fields (p ∷ ps) = ap₂ ◌&&◌ (number-slot most_digits p) (one_field ps)

triple-fields : (ps : List (List ℕ)) → are_of (number ∷ number ∷ number ∷ []) ps
    ≡ (a_number (get_or (map slot ps) 0 Absent) && (a_number (get_or (map slot ps) 1 Absent) && (a_number (get_or (map slot ps) 2 Absent) && absent (get_or (map slot ps) 3 Absent))))
unfolding are_of is_of
triple-fields [] = refl
triple-fields (p ∷ ps) = ap₂ ◌&&◌ (number-slot most_digits p) (two_fields ps)

either-field : (ps : List (List ℕ)) → are_of (number_or_dash ∷ []) ps ≡ (a_number_or_dash (get_or (map slot ps) 0 Absent) && absent (get_or (map slot ps) 1 Absent))
unfolding are_of is_of
either-field [] = refl
either-field (p ∷ ps) = ap₂ ◌&&◌ (either-slot most_digits p) (no_field ps)

either-fields : (ps : List (List ℕ))
    → are_of (number_or_dash ∷ number_or_dash ∷ []) ps ≡ (a_number_or_dash (get_or (map slot ps) 0 Absent) && (a_number_or_dash (get_or (map slot ps) 1 Absent) && absent (get_or (map slot ps) 2 Absent)))
unfolding are_of is_of
either-fields [] = refl
either-fields (p ∷ ps) = ap₂ ◌&&◌ (either-slot most_digits p) (either-field ps)

three-fields : (ps : List (List ℕ)) → are_of (number ∷ number_or_dash ∷ number_or_dash ∷ []) ps
    ≡ (a_number (get_or (map slot ps) 0 Absent) && (a_number_or_dash (get_or (map slot ps) 1 Absent) && (a_number_or_dash (get_or (map slot ps) 2 Absent) && absent (get_or (map slot ps) 3 Absent))))
unfolding are_of is_of
three-fields [] = refl
three-fields (p ∷ ps) = ap₂ ◌&&◌ (number-slot most_digits p) (either-fields ps)

all-numbers : (ps : List (List ℕ)) → every (is_of number) ps ≡ every a_number (map slot ps)
unfolding every is_of
all-numbers [] = refl
all-numbers (p ∷ ps) = ap₂ ◌&&◌ (number-slot most_digits p) (all-numbers ps)

all-values : (ps : List (List ℕ)) → map (λ p. or_zero (number_in most_digits p)) ps ≡ map value_of (map slot ps)
all-values [] = refl
all-values (p ∷ ps) = ap₂ (λ (n : ℕ) (ns : List ℕ). n ∷ ns) (ap or_zero (event-slot most_digits p) ∙ event-value (slot p)) (all-values ps)

-- ---- a line of a letter that is in use

module _ (c : Char) (h : alike Foreign (class_of (code c)) ≡ false) (l : Line) where
  abbrev k : Class
  k = class_of (code c)

  pub alone-line : is_line c [] l ≡ (l.ended && is_alone k (row_of most_digits l.bytes))
  unfolding is_line has_letter fields_of is_alone row_of slots_of letter_in
  alone-line = rw (letter-slot k h (get_or (pieces l.bytes) 0 []), no_field (drop 1 (pieces l.bytes))) (simp and_assoc)

  pub one_line : is_line c (number ∷ []) l ≡ (l.ended && is_one k (row_of most_digits l.bytes))
  unfolding is_line has_letter fields_of is_one row_of slots_of letter_in
  one_line = rw (letter-slot k h (get_or (pieces l.bytes) 0 []), one_field (drop 1 (pieces l.bytes))) (simp and_assoc)

  pub two-line : is_line c (number ∷ number ∷ []) l ≡ (l.ended && is_two k (row_of most_digits l.bytes))
  unfolding is_line has_letter fields_of is_two row_of slots_of letter_in
  two-line = rw (letter-slot k h (get_or (pieces l.bytes) 0 []), two_fields (drop 1 (pieces l.bytes))) (simp and_assoc)

  pub triple-line : is_line c (number ∷ number ∷ number ∷ []) l ≡ (l.ended && is_triple k (row_of most_digits l.bytes))
  unfolding is_line has_letter fields_of is_triple row_of slots_of letter_in
  triple-line = rw (letter-slot k h (get_or (pieces l.bytes) 0 []), triple-fields (drop 1 (pieces l.bytes))) (simp and_assoc)

  pub three-line : is_line c (number ∷ number_or_dash ∷ number_or_dash ∷ []) l ≡ (l.ended && is_three k (row_of most_digits l.bytes))
  unfolding is_line has_letter fields_of is_three row_of slots_of letter_in
  three-line = rw (letter-slot k h (get_or (pieces l.bytes) 0 []), three-fields (drop 1 (pieces l.bytes))) (simp and_assoc)

  pub list-line : is_list_line c l ≡ (l.ended && is_list most_digits k l.bytes)
  unfolding is_list_line has_letter fields_of is_list slots_of letter_in
  list-line =
      rw (letter-slot k h (get_or (pieces l.bytes) 0 []), all-numbers (drop 1 (pieces l.bytes)), ← length-map (drop 1 (pieces l.bytes)) slot) (simp and_assoc)

-- ---- what stands in a line

module _ (l : Line) where
  pub event-at : (i : ℕ) → event_at l i ≡ event_of (get_or (slots_of most_digits l.bytes) i Absent)
  unfolding event_at fields_of slots_of
  event-at i = event-there most_digits (drop 1 (pieces l.bytes)) i

  pub number-at : (i : ℕ) → number_at l i ≡ value_of (get_or (slots_of most_digits l.bytes) i Absent)
  unfolding number_at
  number-at i = ap or_zero (event-at i) ∙ event-value (get_or (slots_of most_digits l.bytes) i Absent)

  -- a line of one number or more has a number
  pub list-some : (c : Char) → is_list_line c l ≡ true → 0 < length (values_of most_digits l.bytes)
  unfolding is_list_line fields_of values_of slots_of
  list-some c h =
      let ps = drop 1 (pieces l.bytes) in
      let z = and-four l.ended (has_letter c l) (leb 1 (length ps)) (every (is_of number) ps) h in
      omega (arith, leb-true 1 (length ps) z.2, length-map ps slot, length-map (map slot ps) value_of)

  pub numbers-are : numbers_of l ≡ values_of most_digits l.bytes
  unfolding numbers_of fields_of values_of slots_of
  numbers-are = all-values (drop 1 (pieces l.bytes))
