-- The lines of a log, one after the other.
use Prim.Native.Nat.{ℕ, ◌+◌, ◌≤◌}
use mathlib.Core.Path.{◌≡◌, refl, sym, ◌∙◌, subst}
use mathlib.Core.Bool.{false}
use mathlib.Core.List.{List}
use native.Mathlib.Omega.{arith}
use lib.ListN.{length, take}
use Rattle.std.specs.Prelude.{Result, Ok, Err}
use Rattle.spec.specs.Answer.{gives}
use Rattle.spec.specs.Text.{Line}
use Rattle.spec.specs.Net.{Net}
use Rattle.spec.specs.Record.{bench}
use Rattle.spec.specs.Building.{start, log_line, play_log}
use Rattle.lines.specs.Lines.{LineTo}
use Rattle.lines.proofs.Answers.{is_given}
use Rattle.lines.proofs.ByLines.{Running, begun, turn, stop, done}
use Rattle.arc_sets.specs.Sets.{Within, HoldsArcs}
use Rattle.steps.specs.StepArrays.{HoldsMarking, Playable, MovedBy}
use Rattle.steps.specs.declared.StepRefusal.{StepRefusal}
use Rattle.steps.specs.declared.StepRefusal.TheVariants.{Malformed, UnknownTransition, OverEvents, TooFewTokens, Inhibited}
use Rattle.step_lines.specs.Lines.{Readable, Enabled, LineAt}
use Rattle.step_lines.specs.declared.StepLine.{StepLine}
use Rattle.step_lines.proofs.Lines.{refused-not, refuses-not}
use Rattle.conditions.specs.declared.Extent.{Extent}
use Rattle.log_steps.specs.RunArrays.{Run, run_at, Buildable, BuiltOn, log_answer, log_refused}
use Rattle.log_steps.specs.declared.LogRefusal.{LogRefusal}
use Rattle.log_steps.specs.declared.LogRefusal.TheVariants.{Step, OverConditions, OverMarks}
use Rattle.logs.specs.LogRun.{position_of, HoldsAt, Begun, LinesOn, PlaysLog, PlayedLog}
use Rattle.logs.proofs.Lines.{refused-on, enabled-on, playable-on, stepped-on}

-- a refusal of a log gives nothing
pub log-refused-not : (w : LogRefusal) {B : Type 0} → log_refused {A = Unit {0}} w ≡ gives tt → B
log-refused-not (Step w) e = refused-not w e
log-refused-not (OverConditions k) e = refuses-not e
log-refused-not (OverMarks k) e = refuses-not e

-- ---- the lines so far

-- a run is held, for every net that is held
abbrev pub Runs : List ℕ → ℕ → ℕ → List ℕ → ℕ → ℕ → Run → List ℕ → Run → List ℕ → Type 0
Runs sets m ts log k at x₀ mk₀ x mk = (N : Net) → HoldsArcs N sets m → ts ≡ N.transitions → HoldsAt N m 1 x₀ mk₀ (start N)
    → Running (log_line bench N) log (start N) k at (HoldsAt N m k x mk)

-- a refusal is no value
log-refused : (w : LogRefusal) → is_given (log_answer (Err w)) ≡ false
log-refused (Step (Malformed k)) = refl
log-refused (Step (UnknownTransition k)) = refl
log-refused (Step (OverEvents k)) = refl
log-refused (Step (TooFewTokens k)) = refl
log-refused (Step (Inhibited k)) = refl
log-refused (OverConditions k) = refl
log-refused (OverMarks k) = refl

module _ (sets : List ℕ) {log : List ℕ} {m ts : ℕ} {x₀ : Run} {mk₀ : List ℕ} where
  pub runs_none : {k : ℕ} → k ≡ 1 → Runs sets m ts log k 0 x₀ mk₀ x₀ mk₀
  runs_none e N A q H = rw e (begun (log_line bench N) log H)

  module _ {k at : ℕ} {x : Run} {mk : List ℕ} (R : Runs sets m ts log k at x₀ mk₀ x mk) where
    pub runs-end : (end : Extent) → length log ≤ at → PlaysLog sets m ts log x₀ mk₀ (Ok end) x
    unfolding play_log
    runs-end end h N A q H = let r = R N A q H in done r h refl (k, r.holds.run)

    module _ {next : ℕ} (l : LineTo log at next) {y : Run} {mk' : List ℕ} where
      pub runs-next : {j : ℕ} (end : Extent) → LinesOn sets m ts k l.line x mk (Ok end) y mk' → j ≡ k + 1 → Runs sets m ts log j next x₀ mk₀ y mk'
      runs-next end L j N A q H = let r = R N A q H in rw j (turn r l (L N r.state A q r.holds) refl)

      pub runs-stop : {z : Run} (w : LogRefusal) → LinesOn sets m ts k l.line x mk (Err w) y mk' → PlaysLog sets m ts log x₀ mk₀ (Err w) z
      unfolding play_log
      runs-stop w L N A q H = let r = R N A q H in stop r l (L N r.state A q r.holds) (log-refused w)

-- ---- by the lent arrays

-- what the loop keeps: the arrays are whole, the net stays, and the lines so far are played
pub record Going (log sets : List ℕ) (x : Extent) (rec steps counts marking xs : List ℕ) (run : Extent) (at : ℕ) (rec' steps' counts' marking' : List ℕ) : Type 0 where
  pub step : length xs ≡ 128
  pub long : length rec' ≡ length rec
  pub wide : length counts' ≡ length counts
  pub places : run.places ≡ x.places
  pub transitions : run.transitions ≡ x.transitions
  pub runs : Runs sets x.places x.transitions log run.line at (run_at x rec steps counts) marking (run_at run rec' steps' counts') marking'

module _ {log sets : List ℕ} {x : Extent} {rec steps counts marking step : List ℕ} {run : Extent} {at : ℕ} {rec' steps' counts' marking' : List ℕ}
    (B : Begun sets x rec steps counts marking) (G : Going log sets x rec steps counts marking step run at rec' steps' counts' marking') where
  now : Running (log_line bench B.net) log (start B.net) run.line at (HoldsAt B.net x.places run.line (run_at run rec' steps' counts') marking')
  now = G.runs B.net B.arcs B.transitions B.holds

  arcs-now : HoldsArcs B.net sets run.places
  arcs-now = rw G.places B.arcs

  known-now : run.transitions ≡ B.net.transitions
  known-now = G.transitions ∙ B.transitions

  holds-now : HoldsAt B.net run.places run.line (run_at run rec' steps' counts') marking' now.state
  holds-now = record { run = now.holds.run; marking = subst (λ (m : ℕ). HoldsMarking m marking' now.state.marking) (sym G.places) now.holds.marking }

  pub readable : Readable (position_of run) step
  readable = record { known = omega (arith, G.transitions, B.few); events = now.holds.run.whole.events; long = G.step }

  pub few-places : run.places ≤ 32
  few-places = arcs-now.few

  pub within : Within 32 sets
  within i p l h = B.arcs.within i p l (omega (arith, B.arcs.few))

  line_on : {k : ℕ} (l : Line) (a : Result Extent LogRefusal) {y : Run} {mk' : List ℕ} → LinesOn sets run.places run.transitions k l (run_at run rec' steps' counts') marking' a y mk'
      → LinesOn sets x.places x.transitions k l (run_at run rec' steps' counts') marking' a y mk'
  line_on l a L = rw (← G.places, ← G.transitions) L

  -- the line is refused as a step
  pub refused-line : {r : StepLine} {step' : List ℕ} (w : StepRefusal) → LineAt log at sets (position_of run) marking' r step' → r.events ≡ Err w → PlayedLog log sets x rec steps counts marking (Err (Step w)) rec' steps' counts'
  refused-line {r} w S e = record {
    answers = runs-stop sets G.runs S.found {mk' = marking'} (Step w) (line_on S.found.line (Err (Step w)) {y = run_at run rec' steps' counts'} (refused-on run refl w r S e));
    long = G.long;
  }

  module _ {r : StepLine} {step' : List ℕ} (S : LineAt log at sets (position_of run) marking' r step') {count : ℕ} (goes : r.events ≡ Ok count) where
    enabled-now : (ts : List ℕ) × Enabled B.net (position_of run) now.state.marking count step' ts
    enabled-now = enabled-on run refl r S goes B.net now.state arcs-now known-now holds-now

    pub buildable : Buildable step' count sets run rec' steps' counts'
    buildable = let E = enabled-now.1 in record {
      step = E.holds.step;
      some = E.some;
      events = E.events;
      long = omega (arith, G.long, B.long);
      wide = G.wide ∙ B.wide;
      reached = record { net = B.net; run = now.state; arcs = arcs-now; holds = now.holds.run };
    }

    pub can-play : Playable sets (take count step') marking'
    can-play = playable-on run refl r S goes B.net now.state arcs-now known-now holds-now

    module _ {rec'' steps'' counts'' : List ℕ} where
      pub refused-step : (w : LogRefusal) → BuiltOn step' count sets run rec' steps' counts' (Err w) rec'' steps'' counts'' → PlayedLog log sets x rec steps counts marking (Err w) rec'' steps'' counts''
      refused-step w P = record {
        answers = runs-stop sets G.runs S.found {mk' = marking'} w (line_on S.found.line (Err w) (stepped-on run refl r S goes (Err w) P.answers (log-refused-not w)));
        long = P.long ∙ G.long;
      }

      pub goes_on : {marking'' : List ℕ} {y : Extent} → BuiltOn step' count sets run rec' steps' counts' (Ok y) rec'' steps'' counts'' → MovedBy sets (take count step') marking' marking''
          → Going log sets x rec steps counts marking step' y r.next rec'' steps'' counts'' marking''
      goes_on {y = y} P M = record {
        step = S.long;
        long = P.long ∙ G.long;
        wide = P.wide ∙ G.wide;
        places = P.passes.places ∙ G.places;
        transitions = P.passes.transitions ∙ G.transitions;
        runs = runs-next sets G.runs S.found y (line_on S.found.line (Ok y) (stepped-on run refl r S goes (Ok y) P.answers (λ v. M))) P.passes.line;
      }
