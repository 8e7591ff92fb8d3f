-- The forms of lines, and what stands in their fields (01, "Text"; "Net", "Steps", "Record").
use Rattle.std.specs.Prelude.{ℕ, Bool, true, false, ◌&&◌, ◌||◌, List, [], ◌∷◌, map, length, get_or, drop, leb}
use Prim.Native.Char.{Char, code}
use Rattle.std.proofs.Math.Option.{Option, none, some}
use Rattle.spec.specs.Lists.{every}
use Rattle.spec.specs.Text.{Line, class_of, pieces, is_only, is_dash, most_digits, is_number, number_in}

-- ---- "A line is one capital letter and its fields in fixed order, parted by commas, no quoting, ended by byte 10; a last
-- piece without it is malformed."

-- its first piece is the letter c
unfoldable pub has_letter : Char → Line → Bool
has_letter c l = is_only (class_of (code c)) (get_or (pieces l.bytes) 0 [])

-- its other pieces are its fields
unfoldable pub fields_of : Line → List (List ℕ)
fields_of l = drop 1 (pieces l.bytes)

-- what a field has to be
pub data FieldForm : Type 0 where
  number : FieldForm
  number_or_dash : FieldForm

unfoldable pub is_of : FieldForm → List ℕ → Bool
is_of number p = is_number most_digits p
is_of number_or_dash p = is_number most_digits p || is_dash p

-- the fields are what they have to be, one for one
unfoldable pub are_of : List FieldForm → List (List ℕ) → Bool
are_of [] [] = true
are_of [] (p ∷ ps) = false
are_of (f ∷ fs) [] = false
are_of (f ∷ fs) (p ∷ ps) = is_of f p && are_of fs ps

-- the line is ended, and is the letter c and fields of these forms
unfoldable pub is_line : Char → List FieldForm → Line → Bool
is_line c fs l = l.ended && has_letter c l && are_of fs (fields_of l)

-- the line is ended, and is the letter c and one number or more
unfoldable pub is_list_line : Char → Line → Bool
is_list_line c l = l.ended && has_letter c l && leb 1 (length (fields_of l)) && every (is_of number) (fields_of l)

-- ---- what stands in the fields, counted from 0

-- the number in field i, and none where it is a dash
unfoldable pub event_at : Line → ℕ → Option ℕ
event_at l i = number_in most_digits (get_or (fields_of l) i [])

abbrev pub or_zero : Option ℕ → ℕ
or_zero none = 0
or_zero (some n) = n

-- the number in field i
unfoldable pub number_at : Line → ℕ → ℕ
number_at l i = or_zero (event_at l i)

-- the numbers in all fields
unfoldable pub numbers_of : Line → List ℕ
numbers_of l = map (λ p. or_zero (number_in most_digits p)) (fields_of l)
