-- What ties an array to the numbers of a line.
use Rattle.std.specs.Prelude.{ℕ, ◌≤◌, ◌<◌, ◌≡◌, true, List, ◌∷◌, leb, length, take, set, drop}
use Rattle.spec.specs.Lists.{In, any}
use Rattle.spec.specs.Text.{lines_of, most_digits}
use Rattle.line_forms.specs.Rows.{is_list, values_of}
use Rattle.spec.specs.declared.Class.{Class}
use Rattle.lines.specs.Lines.{line_of}
use Rattle.number_lines.specs.declared.Listed.{Listed}

-- the numbers of a line that an array has room for
abbrev pub numbers_long : ℕ
numbers_long = 128

-- at most so many numbers, each below a bound
pub record Few (most bound : ℕ) (ns : List ℕ) : Type 0 where
  pub few : length ns ≤ most
  pub low : (n : ℕ) → In n ns → n < bound

-- an array begins with these numbers
pub record Begins (xs ns : List ℕ) : Type 0 where
  pub long : length xs ≡ numbers_long
  pub numbers : take (length ns) xs ≡ ns

-- number i of a line is put into an array, where it has room there
pub record Puts (old : List ℕ) (i v : ℕ) (new : List ℕ) : Type 0 where
  pub long : length new ≡ numbers_long
  pub put : i < numbers_long → v < 256 → new ≡ set old i v

-- a list line with a letter of this class, from one position up to `next`, and its numbers in an array
pub record Listing (k : Class) (s : List ℕ) (at : ℕ) (r : Listed) (xs : List ℕ) : Type 0 where
  pub bytes : List ℕ
  pub lines : lines_of (drop at s) ≡ line_of bytes true ∷ lines_of (drop r.next s)
  pub within : r.next ≤ length s
  pub list : is_list most_digits k bytes ≡ true
  pub count : r.count ≡ length (values_of most_digits bytes)
  pub few : r.count < length s
  pub high : (known : ℕ) → leb known r.high ≡ any (leb known) (values_of most_digits bytes)
  pub numbers : Few numbers_long 256 (values_of most_digits bytes) → Begins xs (values_of most_digits bytes)

-- such a line is read, or the position stays
pub record ListAt (k : Class) (s : List ℕ) (at : ℕ) (r : Listed) (xs : List ℕ) : Type 0 where
  pub long : length xs ≡ numbers_long
  pub start : at ≤ r.next
  pub line : at < r.next → Listing k s at r xs
