-- What judging the lines of an arrangement promises.
use Rattle.std.specs.Prelude.{ℕ, ◌+◌, ◌≡◌, true, false, Bool, not, cond, List, [], ltb, leb, length, get_or, Option, Some, None, Result, Ok, Err, IfOk}
use Rattle.spec.specs.Answer.{Answer, gives, refuses, ◌>>◌, refuse◌at?◌}
use Rattle.spec.specs.Lists.{any, lowest}
use Rattle.spec.specs.Text.{Line, lines_of, by_lines, most_digits}
use Rattle.line_forms.specs.Rows.{values_of}
use Rattle.lines.specs.Agree.{Agrees, refused_as}
use Rattle.lines.specs.Lines.{LineTo}
use Rattle.spec.specs.Record.{RunRecord}
use Rattle.spec.specs.Replaying.{is_group_line, groups_line}
use Rattle.arrangement_reader.specs.Lined.{event_count, Lined, Taken, broken_from}
use Rattle.arrangement_reader.specs.declared.Known.{Known}
use Rattle.arrangement_reader.specs.declared.LinesRead.{LinesRead}
use Rattle.arrangement_reader.specs.declared.ArrangementRefusal.{ArrangementRefusal}
use Rattle.arrangement_reader.specs.declared.ArrangementRefusal.TheVariants.{Malformed, Unknown}
use Rattle.arrangement_reader.specs.declared.ArrangementRefusal.TheVariants.{Repeated, Broken, Missing}
use Rattle.number_lines.specs.Numbers.{Few, Begins}

-- the paper's number of a refusal, and its line or event
abbrev pub arrangement_refusal : ArrangementRefusal → ℕ × ℕ
arrangement_refusal (Malformed k) = (41, k)
arrangement_refusal (Unknown k) = (42, k)
arrangement_refusal (Repeated k) = (43, k)
arrangement_refusal (Broken k) = (44, k)
arrangement_refusal (Missing e) = (45, e)

-- the paper's number and value of an answer: how many lines keep the order
abbrev pub answer_of : Result ℕ ArrangementRefusal → Answer (ℕ × ℕ × ℕ)
answer_of (Ok k) = gives (k, 0, 0)
answer_of (Err x) = refused_as (arrangement_refusal x)

-- the values that are returned of these lines: how many there are
abbrev pub lines_played : List (List ℕ) → ℕ × ℕ × ℕ
lines_played gs = (length gs, 0, 0)

-- ---- one line

-- line k, by 41 and 42: the answer to it, and where it is known its numbers in an array
pub data KnownBy (n k : ℕ) (l : Line) (a : Result Known ArrangementRefusal) (xs : List ℕ) : Type 0 where
  malformed : a ≡ Err (Malformed k) → is_group_line l ≡ false → KnownBy n k l a xs
  unknown : a ≡ Err (Unknown k) → is_group_line l ≡ true → any (leb n) (values_of most_digits l.bytes) ≡ true
      → KnownBy n k l a xs
  known : (m : Known) → a ≡ Ok m → is_group_line l ≡ true → any (leb n) (values_of most_digits l.bytes) ≡ false
      → m.count ≡ length (values_of most_digits l.bytes)
      → (Few event_count 256 (values_of most_digits l.bytes) → Begins xs (values_of most_digits l.bytes))
      → KnownBy n k l a xs

pub record KnownLine (n k : ℕ) (l : Line) (next : ℕ) (a : Result Known ArrangementRefusal) (xs : List ℕ) : Type 0 where
  pub long : length xs ≡ event_count
  pub on : IfOk a (λ m. m.next ≡ next)
  pub by : KnownBy n k l a xs

-- the line that starts at a position
pub record KnownAt (n k : ℕ) (text : List ℕ) (at : ℕ) (a : Result Known ArrangementRefusal) (xs : List ℕ) : Type 0 where
  pub long : length xs ≡ event_count
  pub next : ℕ
  pub on : IfOk a (λ m. m.next ≡ next)
  pub found : LineTo text at next
  pub by : KnownBy n k found.line a xs

-- ---- all lines

-- the answer to lines of which line b breaks the order, and none where b is 0
unfoldable pub unless_broken : {A : Type 0} → ℕ → Answer A → Answer A
unless_broken b a = cond (ltb 0 b) (refuses 44 b) a

-- the answer to so many lines, and to the next one where it is refused
abbrev pub answer_behind : ℕ → Option ArrangementRefusal → Answer (ℕ × ℕ × ℕ)
answer_behind k None = gives (k, 0, 0)
answer_behind k (Some x) = refused_as (arrangement_refusal x)

-- The lines gs are taken by 41 to 43, and `last` is the answer behind them; a line of gs that breaks the order comes
-- first.
pub record ReadsLines (n : ℕ) (text : List ℕ) (r : LinesRead) (xs lined : List ℕ) : Type 0 where
  pub groups : List (List ℕ)
  pub taken : Taken n r.lines xs lined groups
  pub stood : r.refused ≡ None → Lined n (r.lines + 1) xs groups
  pub last : Answer (List (List ℕ))
  pub answer : Agrees lines_played (answer_behind r.lines r.refused) (λ gs. gs ≡ groups) last
  pub whole : (R : RunRecord) → n ≡ length R.events
      → by_lines (groups_line R) 1 (lines_of text) [] ≡ unless_broken (broken_from R 1 [] groups) last

-- ---- behind the last line

-- no line has the event
unfoldable pub missing_in : List ℕ → ℕ → Bool
missing_in xs e = not (ltb 0 (get_or xs e 0))

-- the answer after so many lines
unfoldable pub finished : List ℕ → ℕ → ℕ → Answer (ℕ × ℕ × ℕ)
finished xs n lines = do
  refuse 45 at? lowest (missing_in xs) n
  gives (lines, 0, 0)
