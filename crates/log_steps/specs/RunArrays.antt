-- What ties a run held by lent arrays to a run of the definitions, and one more step of it.
use Rattle.std.specs.Prelude.{ℕ, ◌+◌, ◌≤◌, ◌<◌, ◌≡◌, List, ltb, length, Result, Ok, Err, IfOk}
use Rattle.spec.specs.Answer.{Answer, gives, refuses, ◌>>◌, refuse◌at◌when◌}
use Rattle.spec.specs.Lists.{In}
use Rattle.spec.specs.Net.{Net}
use Rattle.spec.specs.Building.{Run as RunD, play_step, marks_due}
use Rattle.lines.specs.Agree.{Agrees}
use Rattle.arc_sets.specs.Sets.{HoldsArcs}
use Rattle.steps.specs.StepArrays.{IsStep, HoldsStep}
use Rattle.steps.specs.Judged.{step_refused, nothing, judge_step}
use Rattle.runs.specs.Built.{Good}
use Rattle.run_counts.specs.Tally.{counts_long, Tally, tally_at, Tallied}
use Rattle.conditions.specs.declared.Extent.{Extent}
use Rattle.history.specs.HistoryColumns.{History, events_of, conditions_of, Whole, history_of}
use Rattle.log_steps.specs.declared.LogRefusal.{LogRefusal}
use Rattle.log_steps.specs.declared.LogRefusal.TheVariants.{Step, OverConditions, OverMarks}
use Rattle.record_columns.specs.Layout.{record_bytes}

-- what is built of a log so far: what is counted, and the history
pub record Run : Type 0 where
  pub tally : Tally
  pub history : History

-- by lent arrays
abbrev pub run_at : Extent → (rec steps counts : List ℕ) → Run
run_at x rec steps counts = record {
  tally = tally_at x.own x.reads counts;
  history = history_of x rec steps counts;
}

-- the run before line k, but for its marking
pub record HoldsRun (N : Net) (k : ℕ) (x : Run) (r : RunD) : Type 0 where
  pub good : Good N k r
  pub tally : Tallied N r x.tally
  pub whole : Whole x.history
  pub events : events_of x.history ≡ r.events
  pub conditions : conditions_of x.history ≡ r.conditions
  pub early : k ≤ x.history.events + 1

-- the paper's number and spot of a refusal of a log
abbrev pub log_refused : {A : Type 0} → LogRefusal → Answer A
log_refused (Step x) = step_refused x
log_refused (OverConditions k) = refuses 26 k
log_refused (OverMarks k) = refuses 27 k

abbrev pub log_answer : Result Extent LogRefusal → Answer (Unit {0})
log_answer (Ok x) = gives tt
log_answer (Err x) = log_refused x

-- how far a run has come behind an answer: a refusal leaves it
abbrev pub come_to : Extent → Result Extent LogRefusal → Extent
come_to x (Ok y) = y
come_to x (Err w) = x

-- 26 and 27: step k, whose transitions are ts, is built
unfoldable pub build_step : Net → ℕ → List ℕ → RunD → Answer RunD
build_step N k ts r = do
  refuse 26 at k when ltb 512 (length (play_step N k ts r).conditions)
  refuse 27 at k when ltb 4096 (length (marks_due N (play_step N k ts r)))
  gives (play_step N k ts r)

-- some net and run are held before line k
pub record Reached (sets : List ℕ) (m k : ℕ) (x : Run) : Type 0 where
  pub net : Net
  pub run : RunD
  pub arcs : HoldsArcs net sets m
  pub holds : HoldsRun net k x run

-- what a step relies on
pub record Buildable (xs : List ℕ) (count : ℕ) (sets : List ℕ) (x : Extent) (rec steps counts : List ℕ) : Type 0 where
  pub step : IsStep xs count
  pub some : 0 < count
  pub events : x.events + count ≤ 128
  pub long : record_bytes ≤ length rec
  pub wide : length counts ≡ counts_long
  pub reached : Reached sets x.places x.line (run_at x rec steps counts)

-- how far the run has come behind a line that is played: its net stays, and the line is passed
pub record Passes (x y : Extent) : Type 0 where
  pub places : y.places ≡ x.places
  pub transitions : y.transitions ≡ x.transitions
  pub line : y.line ≡ x.line + 1

-- what a step that is enabled answers, of every net and run that are held
abbrev pub BuildsOn : List ℕ → ℕ → ℕ → List ℕ → ℕ → Run → Result Extent LogRefusal → Run → Type 0
BuildsOn sets m k xs count x a y =
    (N : Net) (ts : List ℕ) (r : RunD) → HoldsArcs N sets m → HoldsStep xs count ts
    → ((t : ℕ) → In t ts → t < N.transitions) → judge_step N k r.marking ts ≡ gives tt → HoldsRun N k x r
    → Agrees nothing (log_answer a) (λ r'. HoldsRun N (k + 1) y r' × (r' ≡ play_step N k ts r)) (build_step N k ts r)

-- by the lent arrays before and after it
pub record BuiltOn
    (xs : List ℕ) (count : ℕ) (sets : List ℕ) (x : Extent) (rec steps counts : List ℕ)
    (s : Result Extent LogRefusal) (rec' steps' counts' : List ℕ)
    : Type 0 where
  pub answers : BuildsOn sets x.places x.line xs count (run_at x rec steps counts)
      s (run_at (come_to x s) rec' steps' counts')
  pub passes : IfOk s (Passes x)
  pub long : length rec' ≡ length rec
  pub wide : length counts' ≡ length counts
