-- The refused line (01, "Refused line and program"; refusal 46).
use Rattle.std.specs.Prelude.{ℕ, zero, suc, ◌+◌, cond, List, [], ◌∷◌, length, eqb, ltb}
use Rattle.std.proofs.Math.Option.{Option, none}
use Rattle.std.proofs.Math.ListN.{get_elem?}
use Rattle.spec.specs.Answer.{Answer, gives, refuses, ◌>>◌, refuse◌at◌when◌, found}
use Rattle.spec.specs.Text.{Line, raw_lines_of, without_return}

-- "a part of whichever of the two texts was chosen": of which (0 the net text, 1 the second), where it starts in it,
-- and its bytes
pub record Part : Type 0 where
  pub text : ℕ
  pub start : ℕ
  pub bytes : List ℕ

-- lines as parts of text t, each "without its ending, 10 or 13 and 10; any other byte 13 in it is shown" (2026-02): the
-- first starts at s, and the next one behind the byte 10 that ends it
unfoldable pub parts_from : ℕ → ℕ → List Line → List Part
parts_from t s [] = []
parts_from t s (l ∷ ls) =
    let next : ℕ = (s + length l.bytes) + 1 in
    record { text = t; start = s; bytes = (without_return l).bytes } ∷ parts_from t next ls

-- the line with a number: lines are numbered from 1
unfoldable pub line_at : List Part → ℕ → Option Part
line_at ps zero = none
line_at ps (suc k) = get_elem? ps k

-- "a choice (0 the net text, 1 the second)"
unfoldable pub chosen_text : List ℕ → List ℕ → ℕ → List ℕ
chosen_text net second choice = cond (eqb choice 0) net second

-- "Given a net text, a second text, a choice .. and a line number, the library returns the refused line ... An
-- unended last piece counts as a line."; "46 choice over 1 or no such line (spot: the line number asked)"
unfoldable pub refused_line : List ℕ → List ℕ → ℕ → ℕ → Answer Part
refused_line net second choice k = do
  refuse 46 at k when ltb 1 choice
  found 46 k (line_at (parts_from choice 0 (raw_lines_of (chosen_text net second choice))) k)

-- on 46 "the part is empty, at the start of the net text."
unfoldable pub part_of : Answer Part → Part
part_of (gives p) = p
part_of (refuses n s) = record { text = 0; start = 0; bytes = [] }
