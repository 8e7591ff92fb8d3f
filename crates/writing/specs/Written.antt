-- What a write leaves behind.
use Rattle.std.specs.Prelude.{◌≡◌, ℕ, ◌+◌, ◌/◌, ◌%◌, List, [], ◌∷◌, ◌++◌, length, set}
use Rattle.spec.specs.Text.{fields_bytes}
use Rattle.spec.specs.declared.Field.{Field}

-- the buffer with the values written from a position on
unfoldable pub put_at : List ℕ → ℕ → List ℕ → List ℕ
put_at old at [] = old
put_at old at (b ∷ bs) = put_at (set old at b) (at + 1) bs

-- the next position, and the buffer with the values in it
pub record Wrote (old : List ℕ) (at : ℕ) (bs : List ℕ) (r : ℕ) (new : List ℕ) : Type 0 where
  pub next : r ≡ at + length bs
  pub bytes : new ≡ put_at old at bs

-- the last two digits of a number
abbrev pub last_two : ℕ → List ℕ
last_two n = (48 + n / 10 % 10) ∷ (48 + n % 10) ∷ []

-- the line with this letter, as its byte, and these fields
abbrev pub line_bytes : ℕ → List Field → List ℕ
line_bytes b fs = b ∷ fields_bytes fs ++ 10 ∷ []
