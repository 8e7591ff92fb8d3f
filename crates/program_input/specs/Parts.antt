-- What the parting of the program's input promises.
use Rattle.std.specs.Prelude.{◌≡◌, ℕ, zero, suc, ◌+◌, ◌≤◌, Bool, true, ◌&&◌, cond, List, [], ◌∷◌, length, get_or, take, drop, eqb, ltb, Option as Maybe, Some, None}
use Prim.Native.Char.{code}
use Rattle.std.proofs.Math.Option.{Option, none, some}
use Rattle.spec.specs.Text.{Line, raw_lines_of, without_return, lines_of, on_first, is_a}
use Rattle.spec.specs.Printing.{NetAndLog, is_parting, with_net_line, parted}
use Rattle.spec.specs.declared.Class.TheVariants.{LineEnd}
use Rattle.lines.specs.Lines.{past_ending}
use Rattle.program_input.specs.declared.Parted.{Parted}

-- ---- the line `=` at a position

-- a line starts at a position
unfoldable pub starts_at : List ℕ → ℕ → Bool
starts_at s zero = true
starts_at s (suc i) = eqb (get_or s i 0) 10

-- the byte `=` and an ending
unfoldable pub parts_at : List ℕ → ℕ → Bool
parts_at s at = starts_at s at && (eqb (get_or s at 0) (code "=") && ltb (at + 1) (past_ending s (at + 1)))

-- ---- byte by byte, over raw lines: whether a byte 13 belongs to an ending shows only at the byte behind it

-- raw lines parted by what they are without the byte 13 of their ending; in the middle of a line the first one is not the
-- line `=`, whatever is left of it
unfoldable pub parted_from : Bool → List Line → Option NetAndLog
parted_from start [] = none
parted_from start (l ∷ ls) =
    cond (start && is_parting (without_return l)) (some (record { net = []; log = ls })) (with_net_line l (parted_from true ls))

unfoldable pub with_byte : ℕ → Option NetAndLog → Option NetAndLog
with_byte b none = none
with_byte b (some q) = some (record { net = on_first b q.net; log = q.log })

-- bytes in front of what was parted
unfoldable pub in_front : List ℕ → Option NetAndLog → Option NetAndLog
in_front [] q = q
in_front (b ∷ bs) q =
    cond (is_a LineEnd b) (with_net_line (record { bytes = []; ended = true }) (in_front bs q)) (with_byte b (in_front bs q))

-- no line `=` starts before a position
pub record Running (input : List ℕ) (at : ℕ) : Type 0 where
  pub within : at ≤ length input
  pub sofar : parted_from true (raw_lines_of input)
      ≡ in_front (take at input) (parted_from (starts_at input at) (raw_lines_of (drop at input)))

-- ---- the input parted

-- the net is the text up to a, the log the text from b on
pub record PartedAt (input : List ℕ) (a b : ℕ) : Type 0 where
  pub parts : parted (lines_of input) ≡ some (record { net = lines_of (take a input); log = lines_of (drop b input) })
  pub net : a ≤ length input
  pub log : b ≤ length input

abbrev pub Parts : List ℕ → Maybe Parted → Type 0
Parts input (Some p) = PartedAt input p.end p.start
Parts input None = parted (lines_of input) ≡ none
