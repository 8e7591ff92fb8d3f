-- What the functions of the reader promise.
use Rattle.std.specs.Prelude.{ℕ, ◌*◌, ◌≤◌, min, ◌≡◌, cond, List, length, get_or, eqb, Option, Some, None, Result, Ok, Err, IfOk}
use Rattle.spec.specs.Answer.{Answer, refuses}
use Rattle.spec.specs.Text.{Line, lines_of, by_lines}
use Rattle.spec.specs.Net.{Net, places}
use Rattle.spec.specs.Record.{RunRecord}
use Rattle.spec.specs.Checking.{enter_event, enter_condition, enter_mark, enter_line, empty_record}
use Rattle.line_forms.specs.Rows.{value_of, is_one, is_two, is_three}
use Rattle.line_forms.specs.declared.Row.{Row}
use Rattle.spec.specs.declared.Class.{Class}
use Rattle.spec.specs.declared.Class.TheVariants.{LetterE, LetterC, LetterB, LetterA, LetterR}
use Rattle.spec.specs.declared.MarkKind.{MarkKind}
use Rattle.spec.specs.declared.MarkKind.TheVariants.{Before, After, Read}
use Rattle.spec.specs.declared.Limits.{Limits}
use Rattle.lines.specs.Agree.{Agrees}
use Rattle.lines.specs.Lines.{LineTo}
use Rattle.byte_entries.specs.Entries.{code_of}
use Rattle.record_columns.specs.declared.Bounds.{Bounds}
use Rattle.record_columns.specs.declared.Counts.{Counts}
use Rattle.record_columns.specs.declared.RecordRefusal.{RecordRefusal}
use Rattle.record_reader.specs.declared.Took.{Took}
use Rattle.record_columns.specs.Layout.{mark_words, condition_words}
use Rattle.record_columns.specs.Enters.{Entered, answer_of, no_values, HoldsEntered, condition_in, mark_of, Enters}

-- words that hold no mark yet, with eight for each condition that a text can have: no more than there are bytes, since
-- the line of a condition has eight bytes or more
pub record Blank (text words : List ℕ) : Type 0 where
  pub room : min mark_words (length text) ≤ length words
  pub zero : (i : ℕ) → get_or words i 0 ≡ 0

-- the net has so many places and transitions
pub record Declares (b : Bounds) (N : Net) : Type 0 where
  pub places : places N ≡ b.places
  pub transitions : N.transitions ≡ b.transitions

-- the kind of the mark that a row enters, if it has a letter of marks and two numbers
abbrev pub kind_in : Row → Option MarkKind
kind_in w =
    cond (is_two LetterB w) (Some Before) (cond (is_two LetterA w) (Some After) (cond (is_two LetterR w) (Some Read) None))

-- what line k enters, by its row
unfoldable pub enter_row : Limits → Net → ℕ → Row → RunRecord → Answer RunRecord
enter_row lim n k w r =
    cond (is_one LetterE w) (enter_event lim n k (value_of w.first) r)
    (cond (is_three LetterC w) (enter_condition lim n k (condition_in (value_of w.first) w.second w.third) r)
    (cond (is_two LetterB w) (enter_mark lim k (mark_of Before (value_of w.first) (value_of w.second)) r)
    (cond (is_two LetterA w) (enter_mark lim k (mark_of After (value_of w.first) (value_of w.second)) r)
    (cond (is_two LetterR w) (enter_mark lim k (mark_of Read (value_of w.first) (value_of w.second)) r)
    (refuses 31 k)))))

-- line k is entered as the definitions enter it beside any net of the bounds, by its row or by itself
abbrev pub EntersRow : Bounds → ℕ → Row → Counts → List ℕ → List ℕ → Entered → List ℕ → List ℕ → Type 0
EntersRow b k w s old words r new words' =
    (N : Net) → Declares b N → Enters s old words (enter_row b.limits N k w) r new words'

abbrev pub EntersLine : Bounds → ℕ → Line → Counts → List ℕ → List ℕ → Entered → List ℕ → List ℕ → Type 0
EntersLine b k l s old words r new words' =
    (N : Net) → Declares b N → Enters s old words (enter_line b.limits N k l) r new words'

-- the counts after a line that was entered
abbrev pub counts_in : Result Took RecordRefusal → Entered
counts_in (Ok t) = Ok t.counts
counts_in (Err x) = Err x

-- the line that starts at a position, before the one that starts at `next`, is entered as the definitions enter line k;
-- where it is, the reading goes on at `next`
pub record Takes (b : Bounds) (text : List ℕ) (at k : ℕ) (s : Counts) (old words : List ℕ) (r : Result Took RecordRefusal)
    (new words' : List ℕ) : Type 0 where
  pub next : ℕ
  pub found : LineTo text at next
  pub goes : IfOk r (λ t. t.next ≡ next)
  pub enters : EntersLine b k found.line s old words (counts_in r) new words'

-- the letter of the marks of a kind, and the kind of marks that a letter stands for, by its entry
abbrev pub letter_of : MarkKind → Class
letter_of Before = LetterB
letter_of After = LetterA
letter_of Read = LetterR

abbrev pub kind_by : ℕ → Option MarkKind
kind_by e =
    cond (eqb e (code_of LetterB)) (Some Before)
    (cond (eqb e (code_of LetterA)) (Some After)
    (cond (eqb e (code_of LetterR)) (Some Read) None))

-- the answer is the paper's, and where it is a record the bytes and words hold it
abbrev pub ReadsRecord : Bounds → List ℕ → Entered → List ℕ → List ℕ → Type 0
ReadsRecord b text r rec words =
    (N : Net) → Declares b N
    → Agrees no_values (answer_of r) (HoldsEntered r rec words)
    (by_lines (enter_line b.limits N) 1 (lines_of text) empty_record)

-- where it is a record, there are words for the marks of each of its conditions
abbrev pub MarksFit : Entered → List ℕ → Type 0
MarksFit r words = IfOk r (λ s. condition_words * s.conditions ≤ length words)
