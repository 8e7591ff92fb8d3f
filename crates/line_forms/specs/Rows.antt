-- Lines as the code reads them: each piece as a slot, a line as a row of slots. What this says of a line is what the
-- definitions say of it (`Ties`).
use Rattle.std.specs.Prelude.{ℕ, Bool, true, false, ◌&&◌, cond, List, [], map, length, get_or, drop, eqb, leb}
use Rattle.std.proofs.Math.Option.{Option, none, some}
use Rattle.spec.specs.Lists.{every}
use Rattle.spec.specs.Classes.{alike}
use Rattle.spec.specs.Text.{class_of, pieces, is_dash, is_number, value_from}
use Rattle.spec.specs.declared.Class.{Class}
use Rattle.spec.specs.declared.Class.TheVariants.{Foreign}
use Rattle.line_forms.specs.declared.Slot.{Slot}
use Rattle.line_forms.specs.declared.Slot.TheVariants.{Number, Dash, Wrong, Absent}
use Rattle.line_forms.specs.declared.Row.{Row}

-- ---- slots

abbrev pub a_number : Slot → Bool
a_number (Number n) = true
a_number Dash = false
a_number Wrong = false
a_number Absent = false

abbrev pub a_number_or_dash : Slot → Bool
a_number_or_dash (Number n) = true
a_number_or_dash Dash = true
a_number_or_dash Wrong = false
a_number_or_dash Absent = false

abbrev pub absent : Slot → Bool
absent (Number n) = false
absent Dash = false
absent Wrong = false
absent Absent = true

-- the number in a slot, and 0 where there is none
abbrev pub value_of : Slot → ℕ
value_of (Number n) = n
value_of Dash = 0
value_of Wrong = 0
value_of Absent = 0

abbrev pub event_of : Slot → Option ℕ
event_of (Number e) = some e
event_of Dash = none
event_of Wrong = none
event_of Absent = none

-- ---- a line without its end

-- a piece as a slot: a number of at most `most` digits, or a dash
unfoldable pub slot_of : ℕ → List ℕ → Slot
slot_of most bs = cond (is_number most bs) (Number (value_from 0 bs)) (cond (is_dash bs) Dash Wrong)

-- the class of the one byte of a piece
unfoldable pub letter_of : List ℕ → Class
letter_of bs = cond (eqb (length bs) 1) (class_of (get_or bs 0 0)) Foreign

-- the letter: the first piece
unfoldable pub letter_in : List ℕ → Class
letter_in line = letter_of (get_or (pieces line) 0 [])

-- the other pieces
unfoldable pub slots_of : ℕ → List ℕ → List Slot
slots_of most line = map (slot_of most) (drop 1 (pieces line))

-- a line as a row; Absent beyond its last field
unfoldable pub row_of : ℕ → List ℕ → Row
row_of most line =
    let ss = slots_of most line in
    record {
      letter = letter_in line;
      first = get_or ss 0 Absent;
      second = get_or ss 1 Absent;
      third = get_or ss 2 Absent;
      fourth = get_or ss 3 Absent;
    }

-- ---- the forms of rows

-- the letter alone
unfoldable pub is_alone : Class → Row → Bool
is_alone k r = alike r.letter k && absent r.first

-- the letter and a number
unfoldable pub is_one : Class → Row → Bool
is_one k r = alike r.letter k && a_number r.first && absent r.second

-- the letter and two numbers
unfoldable pub is_two : Class → Row → Bool
is_two k r = alike r.letter k && a_number r.first && a_number r.second && absent r.third

-- the letter and three numbers
unfoldable pub is_triple : Class → Row → Bool
is_triple k r =
    alike r.letter k && a_number r.first && a_number r.second && a_number r.third && absent r.fourth

-- the letter, a number, and two that can be dashes
unfoldable pub is_three : Class → Row → Bool
is_three k r =
    alike r.letter k && a_number r.first && a_number_or_dash r.second && a_number_or_dash r.third
    && absent r.fourth

-- ---- lines of a letter and one number or more

unfoldable pub is_list : ℕ → Class → List ℕ → Bool
is_list most k line = alike (letter_in line) k && leb 1 (length (slots_of most line)) && every a_number (slots_of most line)

-- the numbers of such a line
unfoldable pub values_of : ℕ → List ℕ → List ℕ
values_of most line = map value_of (slots_of most line)
