-- The parts in which a line of a log is judged, each with its refusals: read (21, 22), counted (23), and at a marking
-- (24, 25).
use Rattle.std.specs.Prelude.{ℕ, ◌+◌, ◌<◌, ◌≡◌, Bool, not, Result, Ok, Err, List, ltb, leb, length}
use Rattle.spec.specs.Answer.{Answer, gives, refuses, ◌>>=◌, ◌>>◌, refuse◌at◌when◌}
use Rattle.spec.specs.Lists.{In, any}
use Rattle.spec.specs.Text.{Line, most_digits}
use Rattle.line_forms.specs.Rows.{values_of}
use Rattle.spec.specs.Net.{Net}
use Rattle.spec.specs.Step.{short, inhibited}
use Rattle.spec.specs.Building.{is_step_line}
use Rattle.arc_sets.specs.Sets.{HoldsArcs}
use Rattle.steps.specs.StepArrays.{HoldsStep, HoldsMarking}
use Rattle.steps.specs.declared.StepRefusal.{StepRefusal}
use Rattle.steps.specs.declared.StepRefusal.TheVariants.{Malformed, UnknownTransition, OverEvents}
use Rattle.steps.specs.declared.StepRefusal.TheVariants.{TooFewTokens, Inhibited}

-- the paper's number and spot of a refusal
abbrev pub step_refused : {A : Type 0} → StepRefusal → Answer A
step_refused (Malformed k) = refuses 21 k
step_refused (UnknownTransition k) = refuses 22 k
step_refused (OverEvents k) = refuses 23 k
step_refused (TooFewTokens k) = refuses 24 k
step_refused (Inhibited k) = refuses 25 k

-- the refusal, or that the line goes, whatever comes with it
abbrev pub step_answer : {A : Type 0} → Result A StepRefusal → Answer (Unit {0})
step_answer (Ok a) = gives tt
step_answer (Err x) = step_refused x

-- no value comes with an answer
abbrev pub nothing : {A : Type 0} → A → Unit {0}
nothing a = tt

-- the numbers of a line, as its reader has them
abbrev pub numbers_in : Line → List ℕ
numbers_in l = values_of most_digits l.bytes

-- 21 and 22: the transitions of line k, where the first `known` are known
unfoldable pub read_step : ℕ → ℕ → Line → Answer (List ℕ)
read_step known k l = do
  refuse 21 at k when not (is_step_line l)
  refuse 22 at k when any (leb known) (numbers_in l)
  gives (numbers_in l)

-- 23: so many events more, after so many
unfoldable pub count_step : ℕ → ℕ → ℕ → Answer (Unit {0})
count_step k events count = refuse 23 at k when ltb 128 (events + count)

-- 24 and 25: a step at a marking
unfoldable pub judge_step : Net → ℕ → List ℕ → List ℕ → Answer (Unit {0})
judge_step N k m ts = do
  refuse 24 at k when short N m ts
  refuse 25 at k when inhibited N m ts
  gives tt

-- 21 to 25: line k at a marking, after so many events; what is given is its step
unfoldable pub line_at : Net → ℕ → Line → ℕ → List ℕ → Answer (List ℕ)
line_at N k l events m = do
  ts ← read_step N.transitions k l
  count_step k events (length ts)
  judge_step N k m ts
  gives ts

-- the test of 24 is that of the definitions, for every net and marking that are held
abbrev pub IsShort : (xs : List ℕ) (count : ℕ) (sets marking : List ℕ) (m : ℕ) → Bool → Type 0
IsShort xs count sets marking m r =
    (N : Net) (ts mk : List ℕ) → HoldsArcs N sets m → HoldsStep xs count ts
    → ((t : ℕ) → In t ts → t < N.transitions) → HoldsMarking m marking mk
    → r ≡ short N mk ts

-- a step is judged as the definitions say, for every net and marking that are held
abbrev pub Judges : (xs : List ℕ) (count : ℕ) (sets marking : List ℕ) (m k : ℕ) → Result (Unit {0}) StepRefusal → Type 0
Judges xs count sets marking m k a =
    (N : Net) (ts mk : List ℕ) → HoldsArcs N sets m → HoldsStep xs count ts
    → ((t : ℕ) → In t ts → t < N.transitions) → HoldsMarking m marking mk
    → step_answer a ≡ judge_step N k mk ts
