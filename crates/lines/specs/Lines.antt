-- The line at a position of a text, and what the functions that find it and its ending promise.
use Rattle.std.specs.Prelude.{ℕ, ◌+◌, ◌-◌, ◌≤◌, ◌<◌, ◌≡◌, Bool, true, false, ◌&&◌, cond, List, ◌∷◌, length, get_or, drop, take, eqb, ltb}
use Rattle.spec.specs.Text.{is_a, Line, raw_lines_of, without_return, lines_of}
use Rattle.spec.specs.declared.Class.TheVariants.{Comma, LineEnd, Return, Foreign}
use Rattle.byte_entries.specs.Entries.{code_of, entry_of, before}
use Rattle.lines.specs.declared.Span.{Span}
use Rattle.lines.specs.declared.Cursor.{Cursor}
use Rattle.lines.specs.declared.Opening.{Opening}

-- where the byte 10 stands that ends the line which starts at a position
abbrev pub end_from : List ℕ → ℕ → ℕ
end_from s at = at + before LineEnd (drop at s)

-- a line that ends before `end`, where the next one starts at `next`
abbrev pub span_to : List ℕ → ℕ → ℕ → Span
span_to s end next = record { end = end; next = next; ended = ltb end (length s) }

-- a line of these bytes
abbrev pub line_of : List ℕ → Bool → Line
line_of l e = record { bytes = l; ended = e }

-- the line that starts at a position, where the next one starts further on
pub record LineTo (s : List ℕ) (at next : ℕ) : Type 0 where
  pub line : Line
  pub lines : lines_of (drop at s) ≡ line ∷ lines_of (drop next s)
  pub on : at < next
  pub within : next ≤ length s + 1

-- what stands at a position up to the next byte 10
pub record RawLineAt (s : List ℕ) (at : ℕ) (r : Span) : Type 0 where
  pub start : at ≤ r.end
  pub end : r.end ≤ length s
  pub behind : r.next ≡ r.end + 1
  pub ends : r.ended ≡ ltb r.end (length s)
  pub lines : raw_lines_of (drop at s) ≡ line_of (take (r.end - at) (drop at s)) r.ended ∷ raw_lines_of (drop r.next s)

-- the line at a position by its end, which is found; `raw` is what stands up to its byte 10
pub record LineAt (s : List ℕ) (at : ℕ) (r : Span) : Type 0 where
  pub start : at ≤ r.end
  pub end : r.end ≤ length s
  pub on : r.end < r.next
  pub next : r.next ≤ length s + 1
  pub lines : lines_of (drop at s) ≡ line_of (take (r.end - at) (drop at s)) r.ended ∷ lines_of (drop r.next s)
  pub raw : Line
  pub raws : raw_lines_of (drop at s) ≡ raw ∷ raw_lines_of (drop r.next s)
  pub whole : without_return raw ≡ line_of (take (r.end - at) (drop at s)) r.ended

-- ---- the ending of a line

-- an ending stands at a position, byte 10 or 13 and 10, and the next line starts behind it
pub data Ending (s : List ℕ) (at next : ℕ) : Type 0 where
  ten : drop at s ≡ 10 ∷ drop next s → Ending s at next
  return-ten : drop at s ≡ 13 ∷ 10 ∷ drop next s → Ending s at next

-- where the next line starts if an ending stands at a position; else the position
unfoldable pub past_ending : List ℕ → ℕ → ℕ
past_ending s at =
    cond (eqb (get_or s at 0) 10) (at + 1) (cond (eqb (get_or s at 0) 13 && eqb (get_or s (at + 1) 0) 10) (at + 2) at)

-- and what that says: an ending is passed, or the position stays
pub record PastEnding (s : List ℕ) (at next : ℕ) : Type 0 where
  pub is : next ≡ past_ending s at
  pub start : at ≤ next
  pub within : at < next → next ≤ length s
  pub ending : at < next → Ending s at next

-- the same by the entry of the byte at the position, or by another in its place
unfoldable pub past_by : ℕ → List ℕ → ℕ → ℕ
past_by e s at =
    cond (eqb e (code_of LineEnd)) (at + 1)
    (cond (eqb e (code_of Return) && eqb (entry_of (get_or s (at + 1) 0)) (code_of LineEnd)) (at + 2) at)

-- ---- where a line begins

-- a line end stands at a position or behind it
pub record Ahead (s : List ℕ) (at : ℕ) : Type 0 where
  pub place : ℕ
  pub from : at ≤ place
  pub within : place < length s
  pub ends : is_a LineEnd (get_or s place 0) ≡ true

-- behind the last line end
pub record EndedTo (s : List ℕ) (r : ℕ) : Type 0 where
  pub within : r ≤ length s
  pub ends : 0 < r → is_a LineEnd (get_or s (r - 1) 0) ≡ true
  pub last : (i : ℕ) → r ≤ i → i < length s → is_a LineEnd (get_or s i 0) ≡ false

-- the entries of the first two bytes of a line, if it is ended and has so many
abbrev pub opening_of : List ℕ → Cursor → Opening
opening_of s c =
    cond (ltb (c.at + 1) c.ended) (record { letter = entry_of (get_or s c.at 0); behind = entry_of (get_or s (c.at + 1) 0) })
    (record { letter = code_of Foreign; behind = code_of Foreign })

-- a letter and a comma
abbrev pub opens_with : ℕ → Opening → Bool
opens_with k o = eqb o.letter k && eqb o.behind (code_of Comma)
