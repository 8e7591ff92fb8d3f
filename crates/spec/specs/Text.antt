-- Texts: bytes, lines and their fields, numbers, and how lines are written (01, "Text").
use Rattle.std.specs.Prelude.{ℕ, zero, suc, ◌+◌, ◌-◌, ◌*◌, ◌/◌, ◌%◌, Bool, true, false, not, ◌&&◌, cond, List, [], ◌∷◌, ◌++◌, map, length, get_or, eqb, ltb, leb}
use Prim.Native.Char.{Char, code}
use Rattle.std.proofs.Math.Option.{Option, none, some}
use Rattle.spec.specs.Lists.{every}
use Rattle.spec.specs.Answer.{Answer, gives, ◌>>=◌}
use Rattle.spec.specs.Classes.{alike}
use Rattle.spec.specs.declared.Class.{Class}
use Rattle.spec.specs.declared.Class.TheVariants.{Digit, Comma, Dash as DashByte, LineEnd, LetterP, LetterT, LetterI, LetterO, LetterH, LetterS, LetterE, LetterC, LetterB, LetterA, LetterG, LetterR, LetterK, LetterJ, LetterW, Return, Foreign}
use Rattle.spec.specs.declared.ByteClass.{ByteClass}
use Rattle.spec.specs.declared.Field.{Field}
use Rattle.spec.specs.declared.Field.TheVariants.{Number, Dash}

-- ---- "Each byte is a digit, a comma, a dash, a line end, a letter in use or foreign."

-- A letter is in use if some text has lines that begin with it; each has a class of its own.
abbrev pub class_names : List (ℕ × Class)
class_names =
    (code ",", Comma) ∷ (code "-", DashByte) ∷ (10, LineEnd)
    ∷ (code "P", LetterP) ∷ (code "T", LetterT) ∷ (code "I", LetterI) ∷ (code "O", LetterO) ∷ (code "H", LetterH)
    ∷ (code "S", LetterS)
    ∷ (code "E", LetterE) ∷ (code "C", LetterC) ∷ (code "B", LetterB) ∷ (code "A", LetterA)
    ∷ (code "G", LetterG)
    -- 2026-01: of a net and of a record
    ∷ (code "R", LetterR)
    -- 2026-05: of an energy text
    ∷ (code "K", LetterK) ∷ (code "J", LetterJ) ∷ (code "W", LetterW)
    -- 2026-02: it can stand in front of a line end; no other place allows it, as if it were foreign
    ∷ (13, Return)
    ∷ []

-- the class that a list names for a byte
unfoldable pub named : ℕ → List (ℕ × Class) → Class
named b [] = Foreign
named b (n ∷ ns) = cond (eqb b n.0) n.1 (named b ns)

unfoldable pub in_digits : ℕ → Bool
in_digits b = leb (code "0") b && leb b (code "9")

unfoldable pub class_of : ℕ → Class
class_of b = cond (in_digits b) Digit (named b class_names)

-- the value of a digit, and 0 of any other byte
unfoldable pub digit_of : ℕ → ℕ
digit_of b = cond (in_digits b) (b - code "0") 0

-- both together
unfoldable pub class_and_digit : ℕ → ByteClass
class_and_digit b = record { class = class_of b; digit = digit_of b }

-- the byte is of the class
unfoldable pub is_a : Class → ℕ → Bool
is_a k b = alike (class_of b) k

-- ---- "A line is .. ended by byte 10; a last piece without it is malformed." "Empty text has no lines."

-- a line of a text without its end; only the last one can lack that
pub record Line : Type 0 where
  pub bytes : List ℕ
  pub ended : Bool

-- the lines, with a byte in front of the first; where there is none it begins one
unfoldable pub on_first : ℕ → List Line → List Line
on_first b [] = record { bytes = b ∷ []; ended = false } ∷ []
on_first b (l ∷ ls) = record { bytes = b ∷ l.bytes; ended = l.ended } ∷ ls

-- what stands in front of each byte 10, and the piece behind the last
unfoldable pub raw_lines_of : List ℕ → List Line
raw_lines_of [] = []
raw_lines_of (b ∷ bs) = cond (is_a LineEnd b) (record { bytes = []; ended = true } ∷ raw_lines_of bs) (on_first b (raw_lines_of bs))

-- 2026-02: "Both line endings are accepted, mixed or not. A byte 13 elsewhere is malformed.": in front of the byte 10
-- that ends a line, one byte 13 belongs to the ending; anywhere else it is a byte of the line, and no form has one
unfoldable pub but_return : List ℕ → List ℕ
but_return [] = []
but_return (b ∷ []) = cond (is_a Return b) [] (b ∷ [])
but_return (b ∷ c ∷ bs) = b ∷ but_return (c ∷ bs)

unfoldable pub without_return : Line → Line
without_return l = cond l.ended (record { bytes = but_return l.bytes; ended = true }) l

unfoldable pub lines_of : List ℕ → List Line
lines_of text = map without_return (raw_lines_of text)

-- ---- "its fields in fixed order, parted by commas, no quoting"

-- a byte goes in front of the first piece
unfoldable pub grow : ℕ → List (List ℕ) → List (List ℕ)
grow b [] = (b ∷ []) ∷ []
grow b (p ∷ ps) = (b ∷ p) ∷ ps

-- the pieces that commas part: one more than there are commas
unfoldable pub pieces : List ℕ → List (List ℕ)
pieces [] = [] ∷ []
pieces (b ∷ bs) = cond (is_a Comma b) ([] ∷ pieces bs) (grow b (pieces bs))

-- a piece is one byte of the class, and no more
unfoldable pub is_only : Class → List ℕ → Bool
is_only k bs = eqb (length bs) 1 && is_a k (get_or bs 0 0)

unfoldable pub is_dash : List ℕ → Bool
is_dash bs = is_only DashByte bs

-- ---- "A number is one to four digits in base ten without needless leading zeros."

-- the greatest count of digits
abbrev pub most_digits : ℕ
most_digits = 4

-- a zero in front of another digit
unfoldable pub needless_zero : List ℕ → Bool
needless_zero bs = ltb 1 (length bs) && eqb (digit_of (get_or bs 0 0)) 0

-- one to `most` digits
unfoldable pub is_number : ℕ → List ℕ → Bool
is_number most bs = leb 1 (length bs) && leb (length bs) most && not (needless_zero bs) && every (is_a Digit) bs

-- the value of digits of value v and these behind them
unfoldable pub value_from : ℕ → List ℕ → ℕ
value_from v [] = v
value_from v (b ∷ bs) = value_from (v * 10 + digit_of b) bs

-- the number that a piece is, of at most `most` digits, if it is one
unfoldable pub number_in : ℕ → List ℕ → Option ℕ
number_in most bs = cond (is_number most bs) (some (value_from 0 bs)) none

-- ---- "A reading position belongs to one text and moves forward only. Things are numbered from 0 as they appear, lines
-- from 1."

-- the lines in their order, the first with number k, change a state; the first refusal is the answer
module _ {S : Type 0} where
  unfoldable pub by_lines : (ℕ → Line → S → Answer S) → ℕ → List Line → S → Answer S
  by_lines f k [] s = gives s
  by_lines f k (l ∷ ls) s = f k l s >>= λ s'. by_lines f (suc k) ls s'

-- ---- how lines are written

unfoldable pub digit_byte : ℕ → ℕ
digit_byte d = code "0" + d

-- a number of at most `most` digits without leading zeros; of a greater one the last `most`, which can begin with zeros
unfoldable pub digits : ℕ → ℕ → List ℕ
digits zero n = []
digits (suc most) n = cond (ltb n 10) (digit_byte n ∷ []) (digits most (n / 10) ++ digit_byte (n % 10) ∷ [])

unfoldable pub field_bytes : Field → List ℕ
field_bytes (Number n) = digits most_digits n
field_bytes Dash = code "-" ∷ []

unfoldable pub fields_bytes : List Field → List ℕ
fields_bytes [] = []
fields_bytes (f ∷ fs) = code "," ∷ field_bytes f ++ fields_bytes fs

-- the line with this letter and these fields
unfoldable pub line_with : Char → List Field → List ℕ
line_with c fs = code c ∷ fields_bytes fs ++ 10 ∷ []
