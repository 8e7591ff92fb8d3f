-- What ties a line of a log, read, counted and judged on lent arrays, to the definitions.
use Rattle.std.specs.Prelude.{ℕ, ◌+◌, ◌≤◌, ◌<◌, ◌≡◌, Result, Ok, Err, List, length}
use Rattle.spec.specs.Answer.{gives}
use Rattle.spec.specs.Lists.{In}
use Rattle.spec.specs.Text.{Line}
use Rattle.spec.specs.Net.{Net}
use Rattle.lines.specs.Agree.{Agrees}
use Rattle.lines.specs.Lines.{LineTo}
use Rattle.arc_sets.specs.Sets.{HoldsArcs}
use Rattle.steps.specs.StepArrays.{step_long, IsStep, HoldsStep, HoldsMarking}
use Rattle.steps.specs.Judged.{step_answer, nothing, read_step, judge_step, line_at}
use Rattle.steps.specs.declared.Position.{Position}
use Rattle.steps.specs.declared.StepRefusal.{StepRefusal}
use Rattle.step_lines.specs.declared.StepLine.{StepLine}

-- what reading a line relies on
pub record Readable (x : Position) (step : List ℕ) : Type 0 where
  pub known : x.transitions ≤ 32
  pub events : x.events ≤ 128
  pub long : length step ≡ step_long

-- the step of a line that was read: its transitions are known, and the array has them if it has room for them
pub record Named (known count : ℕ) (step ts : List ℕ) : Type 0 where
  pub some : 0 < count
  pub size : count ≡ length ts
  pub each : (t : ℕ) → In t ts → t < known
  pub holds : count ≤ step_long → HoldsStep step count ts

-- where a line is read, so many of its numbers are told
abbrev pub NamedOf : ℕ → Result ℕ StepRefusal → List ℕ → List ℕ → Type 0
NamedOf known (Ok count) step ts = Named known count step ts
NamedOf known (Err w) step ts = ⊥

-- a line is read as the definitions read it
pub record ReadLine (l : Line) (x : Position) (r : Result ℕ StepRefusal) (step : List ℕ) : Type 0 where
  pub long : length step ≡ step_long
  pub answers :
      Agrees nothing (step_answer r) (NamedOf x.transitions r step) (read_step x.transitions x.line l)

-- the line that starts at a position is read so
pub record ReadAt (log : List ℕ) (at : ℕ) (x : Position) (r : StepLine) (step : List ℕ) : Type 0 where
  pub found : LineTo log at r.next
  pub read : ReadLine found.line x r.events step

-- the array has the step of a line that was read, if it has room for it
abbrev pub HasStep : Result ℕ StepRefusal → List ℕ → Type 0
HasStep (Ok count) step = count ≤ step_long → IsStep step count
HasStep (Err w) step = Unit {0}

-- the step of a line that is enabled at a marking
pub record Enabled (N : Net) (x : Position) (mk : List ℕ) (count : ℕ) (step ts : List ℕ) : Type 0 where
  pub some : 0 < count
  pub each : (t : ℕ) → In t ts → t < N.transitions
  pub events : x.events + count ≤ 128
  pub holds : HoldsStep step count ts
  pub judged : judge_step N x.line mk ts ≡ gives tt

-- that of a line that is judged
abbrev pub EnabledOf : Net → Position → List ℕ → Result ℕ StepRefusal → List ℕ → List ℕ → Type 0
EnabledOf N x mk (Ok count) step ts = Enabled N x mk count step ts
EnabledOf N x mk (Err w) step ts = ⊥

-- a line is judged as the definitions judge it, for every net and marking that are held
abbrev pub JudgesLine : Line → List ℕ → Position → List ℕ → Result ℕ StepRefusal → List ℕ → Type 0
JudgesLine l sets x marking r step = (N : Net) (mk : List ℕ) → HoldsArcs N sets x.places → x.transitions ≡ N.transitions
    → HoldsMarking x.places marking mk
    → Agrees nothing (step_answer r) (EnabledOf N x mk r step) (line_at N x.line l x.events mk)

-- the line that starts at a position is judged so
pub record LineAt
    (log : List ℕ) (at : ℕ) (sets : List ℕ) (x : Position) (marking : List ℕ) (r : StepLine) (step : List ℕ)
    : Type 0 where
  pub found : LineTo log at r.next
  pub long : length step ≡ step_long
  pub answers : JudgesLine found.line sets x marking r.events step
