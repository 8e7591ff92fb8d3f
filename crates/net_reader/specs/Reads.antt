-- What the functions of the reader promise.
use Rattle.std.specs.Prelude.{ℕ, ◌+◌, ◌*◌, ◌≤◌, ◌<◌, ◌≡◌, ◌⊎◌, Bool, not, ◌||◌, cond, List, [], ◌∷◌, length, get_or, replicate, eqb, ltb, Option, Some, None, Result, Ok, Err}
use Rattle.spec.specs.Answer.{Answer, gives, refuses, returned}
use Rattle.lines.specs.Agree.{Agrees}
use Rattle.lines.specs.Lines.{LineTo}
use Rattle.lines.specs.declared.Opening.{Opening}
use Rattle.byte_entries.specs.Entries.{code_of}
use Rattle.spec.specs.Lists.{any, up_to}
use Rattle.spec.specs.Text.{lines_of, by_lines}
use Rattle.spec.specs.Net.{Net as NetD, add_place, add_transition, add_arc, add_line, empty_net, whole, read_net}
use Rattle.line_forms.specs.Rows.{value_of, is_alone, is_one, is_two, is_triple}
use Rattle.line_forms.specs.declared.Row.{Row}
use Rattle.line_forms.specs.declared.Slot.TheVariants.{Number}
use Rattle.plain_lines.specs.Plain.{PlainLine}
use Rattle.spec.specs.Values.{net_values}
use Rattle.net.specs.declared.Net.{Net}
use Rattle.spec.specs.declared.Class.TheVariants.{Comma, LetterP, LetterT, LetterI, LetterO, LetterH, LetterR}
use Rattle.spec.specs.declared.ArcKind.{ArcKind}
use Rattle.spec.specs.declared.ArcKind.TheVariants.{Input, Output, Inhibitor, Read}
use Rattle.net.specs.declared.Size.{Size}
use Rattle.net.specs.declared.NetSize.{NetSize}
use Rattle.net.specs.declared.NetRefusal.{NetRefusal}
use Rattle.net_reader.specs.declared.Took.{Took}
use Rattle.net_reader.specs.declared.ArcLine.{ArcLine}
use Rattle.net.specs.NetArrays.{token_count, row_size, kind_count, arc_count}
use Rattle.net.specs.NetArrays.{Holds, Arrays, arrays, arrays_at, net_with, no_size, Draft, DraftOf, answer_of, answer_so_far, Bears, Steps, HoldsAt}

-- all zero
pub record Blank (ts xs : List ℕ) : Type 0 where
  pub tokens : ts ≡ replicate token_count 0
  pub arcs : xs ≡ replicate arc_count 0

-- what line k adds, by its row
unfoldable pub add_row : ℕ → Row → NetD → Answer NetD
add_row k r n =
    cond (is_one LetterP r) (add_place k (value_of r.first) n)
    (cond (is_alone LetterT r) (add_transition k n)
    (cond (is_two LetterI r) (add_arc Input k (value_of r.first) (value_of r.second) 1 n)
    (cond (is_triple LetterI r) (add_arc Input k (value_of r.first) (value_of r.second) (value_of r.third) n)
    (cond (is_two LetterO r) (add_arc Output k (value_of r.second) (value_of r.first) 1 n)
    (cond (is_triple LetterO r) (add_arc Output k (value_of r.second) (value_of r.first) (value_of r.third) n)
    (cond (is_two LetterH r) (add_arc Inhibitor k (value_of r.first) (value_of r.second) 1 n)
    (cond (is_two LetterR r) (add_arc Read k (value_of r.first) (value_of r.second) 1 n)
    (refuses 11 k))))))))

-- the entry of a letter of arcs: I, O, H or R
abbrev pub ArcEntry : ℕ → Type 0
ArcEntry e = (e ≡ code_of LetterI) ⊎ (e ≡ code_of LetterO) ⊎ (e ≡ code_of LetterH) ⊎ (e ≡ code_of LetterR)

-- a line begins with such a letter and a comma
pub record ArcLetter (o : Opening) : Type 0 where
  pub letter : ArcEntry o.letter
  pub comma : o.behind ≡ code_of Comma

-- the kind of arc that a letter of the four stands for, by its entry
unfoldable pub kind_by : ℕ → ArcKind
kind_by e =
    cond (eqb e (code_of LetterO)) Output
    (cond (eqb e (code_of LetterH)) Inhibitor (cond (eqb e (code_of LetterR)) Read Input))

-- the line from a position up to `next` is a letter and two numbers, and weighs 1; or, where the letter may have a weight
-- (I and O stand before H), a letter, two numbers and the weight
abbrev pub IsArcLine : List ℕ → ℕ → ℕ → ArcLine → Type 0
IsArcLine text at e r =
    (PlainLine 4 text at r.next (Number r.first ∷ Number r.second ∷ []) × (r.weight ≡ 1))
    ⊎ (PlainLine 4 text at r.next (Number r.first ∷ Number r.second ∷ Number r.weight ∷ []) × (e < code_of LetterH))

-- such a line is read, and the next one starts behind it
pub record ArcLineRead (text : List ℕ) (at e : ℕ) (r : ArcLine) : Type 0 where
  pub on : at < r.next
  pub within : r.next ≤ length text
  pub line : IsArcLine text at e r

-- where one is told
abbrev pub ArcLineAt : List ℕ → ℕ → ℕ → Option ArcLine → Type 0
ArcLineAt text at e (Some r) = ArcLineRead text at e r
ArcLineAt text at e None = Unit {0}

-- what line k adds with such a letter, two numbers and a weight: an output's place is the second number
unfoldable pub add_letter : ℕ → ℕ → ArcLine → NetD → Answer NetD
add_letter e k l n =
    cond (eqb e (code_of LetterO)) (add_arc Output k l.second l.first l.weight n)
    (add_arc (kind_by e) k l.first l.second l.weight n)

-- it is added, whatever the tokens are
abbrev pub AddsLetter : ℕ → ℕ → ArcLine → Size → List ℕ → Result Size NetRefusal → List ℕ → Type 0
AddsLetter e k l s arcs r arcs' =
    (tokens : List ℕ) → Bears (kind_by e) l.weight → Steps s (arrays_at tokens arcs) (add_letter e k l) r (arrays_at tokens arcs')

-- the size after a line that was added
abbrev pub size_after : Result Took NetRefusal → Result Size NetRefusal
size_after (Ok t) = Ok t.size
size_after (Err x) = Err x

-- and where the next line starts
abbrev pub GoesOn : Result Took NetRefusal → ℕ → Type 0
GoesOn (Ok t) next = t.next ≡ next
GoesOn (Err x) next = Unit {0}

-- the line that starts at a position is added as the definitions add line k, and the next one starts at `next`
pub record Takes (text : List ℕ) (at k : ℕ) (s : Size) (a : Arrays) (r : Result Took NetRefusal) (a' : Arrays) : Type 0 where
  pub next : ℕ
  pub found : LineTo text at next
  pub on : GoesOn r next
  pub steps : Steps s a (add_line k found.line) (size_after r) a'

-- some place below n has a mark at the transition
unfoldable pub any_cell : List ℕ → ℕ → ℕ → Bool
any_cell xs t n = any (λ p. ltb 0 (get_or xs (row_size * t + p) 0)) (up_to n)

unfoldable pub lacks_of : List ℕ → List ℕ → ℕ → ℕ → Bool
lacks_of is os n t = not (any_cell is t n) || not (any_cell os t n)

-- the answer to all lines
abbrev pub ReadsLines : List ℕ → Result Size NetRefusal → Arrays → Type 0
ReadsLines text r a =
    Agrees net_values (answer_so_far r) (DraftOf r a) (by_lines add_line 1 (lines_of text) empty_net)

-- the last rule, of every net that the arrays hold
abbrev pub Finishes : Size → List ℕ → Result NetSize NetRefusal → Type 0
Finishes s arcs v =
    (tokens : List ℕ) (m : NetD) → Draft s (arrays_at tokens arcs) m
    → Agrees net_values (answer_of v) (HoldsAt tokens arcs) (whole m)

-- the size of a net that is given, or the refusal
abbrev pub size_told : Result Net NetRefusal → Result NetSize NetRefusal
size_told (Ok n) = Ok (record { places = n.places; transitions = n.transitions })
size_told (Err x) = Err x

-- a net that is given holds one of the definitions
abbrev pub HoldsOf : Result Net NetRefusal → NetD → Type 0
HoldsOf (Ok n) m = Holds n m
HoldsOf (Err x) m = ⊥

-- the answer is the paper's, and a net is given where the text declares one, and is that one
pub record Reads (text : List ℕ) (r : Result Net NetRefusal) : Type 0 where
  pub answer : answer_of (size_told r) ≡ returned net_values (read_net text)
  pub net : (m : NetD) → read_net text ≡ gives m → HoldsOf r m

-- the net of no text: no places, no transitions, arrays of zeros
abbrev pub no_net : Net
no_net =
    net_with no_size
    (arrays (replicate token_count 0)
    (replicate kind_count 0) (replicate kind_count 0) (replicate kind_count 0) (replicate kind_count 0))

-- the net is the one that the text declares, or none where it is refused
pub record ReadsNet (text : List ℕ) (r : Net) : Type 0 where
  pub net : (m : NetD) → read_net text ≡ gives m → Holds r m
  pub none : (n s : ℕ) → read_net text ≡ refuses n s → r ≡ no_net

-- the answer alone is the paper's
abbrev pub Answers : List ℕ → Result NetSize NetRefusal → Type 0
Answers text v = answer_of v ≡ returned net_values (read_net text)

-- the answer is the paper's, and the arrays hold the net that the text declares
pub record ReadsInto (text : List ℕ) (v : Result NetSize NetRefusal) (tokens arcs : List ℕ) : Type 0 where
  pub answer : Answers text v
  pub net : (m : NetD) → read_net text ≡ gives m → HoldsAt tokens arcs m
