-- What the refused line's functions promise.
use Rattle.std.specs.Prelude.{◌≡◌, ℕ, zero, suc, ◌+◌, ◌≤◌, List, length, take, drop, Option as Found, Some, None, Result, Ok, Err}
use Rattle.std.proofs.Math.Option.{Option, none, some}
use Rattle.std.proofs.Math.ListN.{get_elem?}
use Rattle.std.specs.Borrow.{Bor}
use Rattle.spec.specs.Answer.{Answer, gives, refuses}
use Rattle.spec.specs.Text.{raw_lines_of}
use Rattle.spec.specs.LineParts.{Part, parts_from, line_at, chosen_text, refused_line}
use Rattle.refused_lines.specs.declared.LinePart.{LinePart}
use Rattle.refused_lines.specs.declared.NoSuchLine.{NoSuchLine}

-- line k of a text, as a part of text t
abbrev pub line_of : ℕ → List ℕ → ℕ → Option Part
line_of t text k = line_at (parts_from t 0 (raw_lines_of text)) k

-- the line with a number is the one that `left` line ends stand in front of, from a position on; a position behind the
-- text tells only that there is no such line
pub record Running (text : List ℕ) (line left at : ℕ) : Type 0 where
  pub near : at ≤ length text + 1
  pub rest : (t : ℕ) → line_of t text line ≡ get_elem? (parts_from t at (raw_lines_of (drop at text))) left

-- line k of a text starts at s and is n bytes long
pub record Goes (text : List ℕ) (k s n : ℕ) : Type 0 where
  pub is : (t : ℕ) → line_of t text k ≡ some (record { text = t; start = s; bytes = take n (drop s text) })
  pub inside : s + n ≤ length text

abbrev pub Finds : List ℕ → ℕ → Found LinePart → Type 0
Finds text k (Some p) = Goes text k p.start p.length
Finds text k None = (t : ℕ) → line_of t text k ≡ none

-- the same in the chosen text, where the choice is one of the two
pub record FindsChosen (net second : List ℕ) (choice k : ℕ) (r : Found LinePart) : Type 0 where
  pub goes : {p : LinePart} → r ≡ Some p → (choice ≤ 1) × Goes (chosen_text net second choice) k p.start p.length
  pub nothing : r ≡ None → refused_line net second choice k ≡ refuses 46 k

-- the paper's number and values of an answer: where the line starts and its length
abbrev pub answer_of : Result LinePart NoSuchLine → Answer (ℕ × ℕ × ℕ)
answer_of (Ok p) = gives (p.start, p.length, 0)
answer_of (Err e) = refuses 46 e.0

-- where a part lies: so many bytes into the net text or the second text
unfoldable pub place_in : ℕ → Bor (List ℕ) → Bor (List ℕ) → ℕ → ℕ × ℕ
place_in zero net second s = (net.ref_ptr.0, s + net.ref_ptr.1)
place_in (suc t) net second s = (second.ref_ptr.0, s + second.ref_ptr.1)

abbrev pub place_of : Bor (List ℕ) → Bor (List ℕ) → Part → ℕ × ℕ
place_of net second p = place_in p.text net second p.start
