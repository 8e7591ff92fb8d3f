-- What ties the lines of a log, played on lent arrays, to the definitions.
use Rattle.std.specs.Prelude.{ℕ, ◌+◌, ◌≤◌, ◌≡◌, List, length, get_or, take, Result}
use Rattle.spec.specs.Lists.{sum}
use Rattle.spec.specs.Text.{Line, lines_of}
use Rattle.spec.specs.Net.{Net}
use Rattle.spec.specs.Building.{Run as RunD, start, log_line, play_log}
use Rattle.spec.specs.Record.{bench}
use Rattle.lines.specs.Agree.{Agrees}
use Rattle.arc_sets.specs.Sets.{HoldsArcs}
use Rattle.steps.specs.StepArrays.{marking_long, HoldsMarking}
use Rattle.steps.specs.Judged.{nothing}
use Rattle.steps.specs.declared.Position.{Position}
use Rattle.run_counts.specs.Tally.{counts_long}
use Rattle.conditions.specs.declared.Extent.{Extent}
use Rattle.log_steps.specs.RunArrays.{Run, run_at, HoldsRun, log_answer, come_to}
use Rattle.log_steps.specs.declared.LogRefusal.{LogRefusal}
use Rattle.record_columns.specs.Layout.{record_bytes}

-- how far the steps of a run have come
abbrev pub position_of : Extent → Position
position_of x = record { places = x.places; transitions = x.transitions; line = x.line; events = x.events }

-- the run before line k, with its marking
pub record HoldsAt (N : Net) (m k : ℕ) (x : Run) (mk : List ℕ) (r : RunD) : Type 0 where
  pub run : HoldsRun N k x r
  pub marking : HoldsMarking m mk r.marking

-- what a line answers
abbrev pub LinesOn : List ℕ → ℕ → ℕ → ℕ → Line → Run → List ℕ → Result Extent LogRefusal → Run → List ℕ → Type 0
LinesOn sets m ts k l x mk a y mk' =
    (N : Net) (r : RunD) → HoldsArcs N sets m → ts ≡ N.transitions → HoldsAt N m k x mk r
    → Agrees nothing (log_answer a) (HoldsAt N m (k + 1) y mk') (log_line bench N k l r)

-- ---- the run at the initial marking

-- what it relies on
pub record Beginnable (marks : List ℕ) (m : ℕ) (rec counts marking : List ℕ) : Type 0 where
  pub few : m ≤ 32
  pub tokens : length marks ≡ 32
  pub most : sum (take m marks) ≤ 512
  pub long : record_bytes ≤ length rec
  pub wide : length counts ≡ counts_long
  pub blank : (i : ℕ) → get_or counts i 0 ≡ 0
  pub marked : length marking ≡ marking_long

-- the run where the places have these tokens
pub record BeginsAt (tokens : List ℕ) (m ts : ℕ) (x : Extent) (rec rec' counts' marking' : List ℕ) : Type 0 where
  pub places : x.places ≡ m
  pub transitions : x.transitions ≡ ts
  pub line : x.line ≡ 1
  pub long : length rec' ≡ length rec
  pub wide : length counts' ≡ counts_long
  pub marking : marking' ≡ tokens
  pub begins : (steps : List ℕ) → length steps ≡ 128 → (N : Net) → HoldsMarking m tokens N.tokens
      → HoldsRun N 1 (run_at x rec' steps counts') (start N)

-- some net is held, and its run at the initial marking
pub record Begun (sets : List ℕ) (x : Extent) (rec steps counts marking : List ℕ) : Type 0 where
  pub net : Net
  pub arcs : HoldsArcs net sets x.places
  pub transitions : x.transitions ≡ net.transitions
  pub few : x.transitions ≤ 32
  pub line : x.line ≡ 1
  pub long : record_bytes ≤ length rec
  pub wide : length counts ≡ counts_long
  pub holds : HoldsAt net x.places 1 (run_at x rec steps counts) marking (start net)

-- ---- a log

-- the run before some line
abbrev pub HoldsAny : Net → Run → RunD → Type 0
HoldsAny N x r = (k : ℕ) × HoldsRun N k x r

-- what a log answers
abbrev pub PlaysLog : List ℕ → ℕ → ℕ → List ℕ → Run → List ℕ → Result Extent LogRefusal → Run → Type 0
PlaysLog sets m ts log x mk a y = (N : Net) → HoldsArcs N sets m → ts ≡ N.transitions → HoldsAt N m 1 x mk (start N)
    → Agrees nothing (log_answer a) (HoldsAny N y) (play_log bench N (lines_of log))

-- by the lent arrays before and after it
pub record PlayedLog
    (log sets : List ℕ) (x : Extent) (rec steps counts marking : List ℕ) (s : Result Extent LogRefusal) (rec' steps' counts' : List ℕ)
    : Type 0 where
  pub answers : PlaysLog sets x.places x.transitions log (run_at x rec steps counts) marking
      s (run_at (come_to x s) rec' steps' counts')
  pub long : length rec' ≡ length rec
