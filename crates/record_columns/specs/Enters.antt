-- What the functions that enter one thing rely on and promise.
use Rattle.std.specs.Prelude.{ℕ, ◌*◌, ◌≤◌, ◌≡◌, List, length, Result, Ok, Err, IfOk}
use Rattle.spec.specs.Answer.{Answer, gives}
use Rattle.spec.specs.Net.{Net, places}
use Rattle.spec.specs.Checking.{enter_event, enter_condition, enter_mark}
use Rattle.spec.specs.Record.{RunRecord, Condition, Mark}
use Rattle.line_forms.specs.Rows.{event_of}
use Rattle.line_forms.specs.declared.Slot.{Slot}
use Rattle.spec.specs.declared.MarkKind.{MarkKind}
use Rattle.lines.specs.Agree.{Agrees, refused_as}
use Rattle.reach.specs.Rows.{Sub, row_of}
use Rattle.record_columns.specs.Layout.{events_most, conditions_most, condition_words, record_bytes}
use Rattle.record_columns.specs.Layout.{HoldsRecord, HoldsMarks}
use Rattle.record_columns.specs.declared.Bounds.{Bounds}
use Rattle.record_columns.specs.declared.Counts.{Counts}
use Rattle.record_columns.specs.declared.RecordRefusal.{RecordRefusal}
use Rattle.record_columns.specs.declared.RecordRefusal.TheVariants.{Malformed, LimitPassed, Undeclared}
use Rattle.record_columns.specs.declared.RecordRefusal.TheVariants.{MarkedAlready, WrongInitial, WrongArcs}
use Rattle.record_columns.specs.declared.RecordRefusal.TheVariants.{WrongMarks, WrongKind, BeforeItself}

-- the paper's number and spot of a refusal
abbrev pub record_refusal : RecordRefusal → ℕ × ℕ
record_refusal (Malformed k) = (31, k)
record_refusal (LimitPassed k) = (32, k)
record_refusal (Undeclared k) = (33, k)
record_refusal (MarkedAlready k) = (34, k)
record_refusal (WrongInitial p) = (35, p)
record_refusal (WrongArcs e) = (36, e)
record_refusal (WrongMarks e) = (37, e)
record_refusal (WrongKind e) = (38, e)
record_refusal (BeforeItself e) = (39, e)

-- what a line or a text is answered, with the counts after it
abbrev pub Entered : Type 0
Entered = Result Counts RecordRefusal

abbrev pub answer_of : Entered → Answer (Unit {0})
answer_of (Ok s) = gives tt
answer_of (Err x) = refused_as (record_refusal x)

-- nothing is returned of a record beside its counts
abbrev pub no_values : RunRecord → Unit {0}
no_values R = tt

-- the bytes hold a record with these counts
abbrev pub Keeps : Counts → List ℕ → RunRecord → Type 0
Keeps s b R = HoldsRecord s.events s.conditions s.marks b R

-- and the words its marks
pub record Holds (s : Counts) (b words : List ℕ) (R : RunRecord) : Type 0 where
  pub columns : Keeps s b R
  pub marks : HoldsMarks words R

-- the same of the counts that are answered
abbrev pub HoldsEntered : Entered → List ℕ → List ℕ → RunRecord → Type 0
HoldsEntered r b words R = IfOk r (λ s. Holds s b words R)

-- bounds whose numbers the bytes have room for
pub record Room (b : Bounds) : Type 0 where
  pub events : b.limits.events ≤ events_most
  pub conditions : b.limits.conditions ≤ conditions_most
  pub places : b.places ≤ 32
  pub transitions : b.transitions ≤ 32

-- what the code relies on while it reads
pub record Fits (s : Counts) (b : List ℕ) : Type 0 where
  pub events : s.events ≤ events_most
  pub conditions : s.conditions ≤ conditions_most
  pub long : record_bytes ≤ length b

pub record Spans (s : Counts) (words : List ℕ) : Type 0 where
  pub room : condition_words * s.conditions ≤ length words
  pub sub : (i : ℕ) → Sub (row_of words i)

-- the condition and the mark that a line names
abbrev pub condition_in : ℕ → Slot → Slot → Condition
condition_in p x y = record { place = p; producer = event_of x; consumer = event_of y }

abbrev pub mark_of : MarkKind → ℕ → ℕ → Mark
mark_of x c e = record { kind = x; condition = c; event = e }

-- what a step of the definitions answers of every record that the bytes and words hold
pub record Enters (s : Counts) (b words : List ℕ) (f : RunRecord → Answer RunRecord) (r : Entered)
    (b' words' : List ℕ) : Type 0 where
  pub answers : (R : RunRecord) → Holds s b words R
      → Agrees no_values (answer_of r) (HoldsEntered r b' words') (f R)

-- an event of transition t is entered as line k enters it beside a net of the bounds, whatever the marks are
abbrev pub EntersEvent : Bounds → ℕ → ℕ → Counts → List ℕ → Entered → List ℕ → Type 0
EntersEvent b k t s rec r rec' =
    (N : Net) (marks : List ℕ) → N.transitions ≡ b.transitions
    → Enters s rec marks (enter_event b.limits N k t) r rec' marks

-- a condition is entered as line k enters it beside a net of the bounds, whatever the marks are
abbrev pub EntersCondition : Bounds → ℕ → Condition → Counts → List ℕ → Entered → List ℕ → Type 0
EntersCondition b k c s rec r rec' =
    (N : Net) (marks : List ℕ) → places N ≡ b.places
    → Enters s rec marks (enter_condition b.limits N k c) r rec' marks

-- a mark is entered as line k enters it, whatever the bytes are
abbrev pub EntersMark : Bounds → ℕ → Mark → Counts → List ℕ → Entered → List ℕ → Type 0
EntersMark b k w s marks r marks' =
    (rec : List ℕ) → Enters s rec marks (enter_mark b.limits k w) r rec marks'
