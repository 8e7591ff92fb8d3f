-- Plain lines: a letter, and numbers or dashes behind it, each line ended by byte 10 or by 13 and 10. What the functions
-- that read them promise.
use Rattle.std.specs.Prelude.{ℕ, ◌+◌, ◌≤◌, ◌<◌, ◌≡◌, true, false, List, [], ◌∷◌, length, get_or, drop}
use Rattle.spec.specs.Text.{is_a, class_of, lines_of}
use Rattle.line_forms.specs.Rows.{letter_in, slots_of, row_of, a_number_or_dash}
use Rattle.spec.specs.declared.Class.{Class}
use Rattle.spec.specs.declared.Class.TheVariants.{Comma, LineEnd, Return, Foreign}
use Rattle.line_forms.specs.declared.Slot.{Slot}
use Rattle.line_forms.specs.declared.Slot.TheVariants.{Number, Absent}
use Rattle.line_forms.specs.declared.Row.{Row}
use Rattle.spec.specs.Classes.{alike}
use Rattle.byte_entries.specs.Entries.{code_of, entry_of, class_by}
use Rattle.lines.specs.Lines.{Ahead}
use Rattle.digits.specs.Digits.{Stands, FieldTo}
use Rattle.plain_lines.specs.declared.FieldFrom.{FieldFrom}
use Rattle.plain_lines.specs.declared.One.{One}
use Rattle.plain_lines.specs.declared.Two.{Two}
use Rattle.plain_lines.specs.declared.Three.{Three}

-- the number or the dash that starts at a position, if there is one: the entry of a foreign byte says that there may be none
pub record ReadsField (most : ℕ) (s : List ℕ) (at : ℕ) (r : FieldFrom) : Type 0 where
  pub within : r.end ≤ length s
  pub field : (r.stop ≡ code_of Foreign → ⊥) → FieldTo most s at r.end r.stop r.field
  pub kind : a_number_or_dash r.field ≡ true

-- a byte that is neither a comma nor one of an ending
pub record Opens (b : ℕ) : Type 0 where
  pub comma : is_a Comma b ≡ false
  pub end : is_a LineEnd b ≡ false
  pub return : is_a Return b ≡ false

-- the entry of such a byte
pub record LetterEntry (e : ℕ) : Type 0 where
  pub comma : alike (class_by e) Comma ≡ false
  pub end : alike (class_by e) LineEnd ≡ false
  pub return : alike (class_by e) Return ≡ false

-- a line begins with such a byte at a position
pub record Begins (s : List ℕ) (at : ℕ) : Type 0 where
  pub within : at < length s
  pub letter : Opens (get_or s at 0)

-- such a byte, the entry of what stands behind it, and a line end from there on
pub record Lettered (s : List ℕ) (at behind : ℕ) : Type 0 where
  pub begins : Begins s at
  pub told : behind ≡ entry_of (get_or s (at + 1) 0)
  pub ahead : Ahead s (at + 1)

-- such a byte, a comma, and a line end from there on
pub record Listed (s : List ℕ) (at : ℕ) : Type 0 where
  pub begins : Begins s at
  pub comma : Stands 44 s (at + 1)
  pub ahead : Ahead s (at + 2)

-- a letter and these fields as a row
abbrev pub row_with : Class → List Slot → Row
row_with k fs = record {
  letter = k;
  first = get_or fs 0 Absent;
  second = get_or fs 1 Absent;
  third = get_or fs 2 Absent;
  fourth = get_or fs 3 Absent;
}

-- the line from one position up to another, where the next one starts, is ended, and is a letter and these fields
pub record PlainLine (most : ℕ) (s : List ℕ) (at next : ℕ) (fs : List Slot) : Type 0 where
  pub bytes : List ℕ
  pub lines : lines_of (drop at s) ≡ record { bytes = bytes; ended = true } ∷ lines_of (drop next s)
  pub letter : letter_in bytes ≡ class_of (get_or s at 0)
  pub fields : slots_of most bytes ≡ fs
  pub row : row_of most bytes ≡ row_with (class_of (get_or s at 0)) fs

-- such a line is read, or the position stays
pub record MayRead (most : ℕ) (s : List ℕ) (at next : ℕ) (fs : List Slot) : Type 0 where
  pub within : next ≤ length s
  pub line : at < next → PlainLine most s at next fs

abbrev pub AloneAt : List ℕ → ℕ → ℕ → Type 0
AloneAt s at next = (most : ℕ) → MayRead most s at next []

abbrev pub OneAt : ℕ → List ℕ → ℕ → One → Type 0
OneAt most s at r = MayRead most s at r.next (Number r.a ∷ [])

abbrev pub TwoAt : ℕ → List ℕ → ℕ → Two → Type 0
TwoAt most s at r = MayRead most s at r.next (Number r.a ∷ Number r.b ∷ [])

-- the last two fields are numbers or dashes
pub record ThreeAt (most : ℕ) (s : List ℕ) (at : ℕ) (r : Three) : Type 0 where
  pub read : MayRead most s at r.next (Number r.a ∷ r.b ∷ r.c ∷ [])
  pub second : at < r.next → a_number_or_dash r.b ≡ true
  pub third : at < r.next → a_number_or_dash r.c ≡ true
