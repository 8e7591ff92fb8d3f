-- What is known of a run that is held by arrays.
use Prim.Native.Nat.{ℕ, ◌+◌, ◌≤◌, ◌<◌}
use mathlib.Core.Path.{◌≡◌, refl, sym, ap, ◌∙◌}
use mathlib.Core.List.{List}
use native.Mathlib.Omega.{arith}
use lib.ListN.{length, get_or, take}
use lib.Seq.{length-take-le}
use Rattle.std.specs.Prelude.{Err}
use Rattle.spec.specs.Answer.{gives, refuses}
use Rattle.spec.specs.Lists.{In, up_to, sum_of}
use Rattle.spec.specs.Net.{Net}
use Rattle.spec.specs.Building.{Run as RunD}
use Rattle.lists.specs.Laws
use Rattle.lists.specs.Tables.{length-table}
use Rattle.lines.specs.Agree.{refusing}
use Rattle.columns.specs.Columns.{column}
use Rattle.arc_sets.specs.Sets.{arc_at, Within, HoldsArcs}
use Rattle.steps.specs.StepArrays.{HoldsStep, Summable, Summed, over}
use Rattle.steps.specs.Judged.{judge_step}
use Rattle.steps.proofs.Rows.{over-most}
use Rattle.run_counts.specs.Tally.{size_of, both_of, AtMost, tally_at, Small, Tallies}
use Rattle.run_counts.proofs.Held.{small}
use Rattle.run_counts.proofs.Tallying.{step-size, held-read, watched-read, tally-after, cursors-after}
use Rattle.runs.specs.Flows.{flows}
use Rattle.conditions.specs.Conditions.{condition_in, conditions_in}
use Rattle.conditions.specs.declared.Extent.{Extent}
use Rattle.history.specs.HistoryColumns.{History, event_in, events_in, events_of, conditions_of, Growable}
use Rattle.history.proofs.Held.{flows-length}
use Rattle.log_steps.specs.RunArrays.{Run, run_at, HoldsRun, Reached, Buildable, BuiltOn, log_refused, build_step}
use Rattle.log_steps.specs.declared.LogRefusal.{LogRefusal}

pub events-length : (h : History) → length (events_of h) ≡ h.events
unfolding events_of events_in
events-length h = length-table (event_in h.transitions h.steps) h.events

pub conditions-length : (h : History) → length (conditions_of h) ≡ h.conditions
unfolding conditions_of conditions_in
conditions-length h = length-table (condition_in h.places h.producers h.consumers) h.conditions

-- what a step makes, by event
pub made-total : (sets : List ℕ) (e : ℕ) (ts : List ℕ) → length (flows (arc_at sets 32) 64 e ts) ≡ sum_of (size_of sets 32) ts
unfolding size_of
made-total sets e ts = flows-length (arc_at sets 32) 64 e ts ∙ Laws.sum_of-swap (λ p t. arc_at sets 32 t p) (up_to 64) ts

module _ {N : Net} {k : ℕ} {x : Run} {r : RunD} (H : HoldsRun N k x r) where
  pub events-held : length r.events ≡ x.history.events
  events-held = ap length (sym H.events) ∙ events-length x.history

  pub conditions-held : length r.conditions ≡ x.history.conditions
  conditions-held = ap length (sym H.conditions) ∙ conditions-length x.history

pub tally-small : {sets : List ℕ} {m k : ℕ} {x : Run} → Reached sets m k x → Small m x.tally
tally-small R =
    small R.net R.run R.arcs.places R.holds.good R.holds.tally R.arcs.few
    (omega (arith, conditions-held R.holds, R.holds.whole.conditions)) (omega (arith, events-held R.holds, R.holds.whole.events))

-- a step that is built
module _ {xs : List ℕ} {count : ℕ} {sets : List ℕ} {x : Extent} {rec steps counts : List ℕ} (P : Buildable xs count sets x rec steps counts) where
  pub sets-within : Within 32 sets
  sets-within i p l h = P.reached.arcs.within i p l (omega (arith, P.reached.arcs.few))

  -- a refusal says nothing of the arrays
  pub refuses-on : (w : LogRefusal) (n : ℕ) {steps' counts' : List ℕ} → log_refused {A = Unit {0}} w ≡ refuses n x.line → length counts' ≡ length counts
      → ((N : Net) (ts : List ℕ) (r : RunD) → HoldsArcs N sets x.places → HoldsStep xs count ts → ((t : ℕ) → In t ts → t < N.transitions) → judge_step N x.line r.marking ts ≡ gives tt → HoldsRun N x.line (run_at x rec steps counts) r → build_step N x.line ts r ≡ refuses n x.line)
      → BuiltOn xs count sets x rec steps counts (Err w) rec steps' counts'
  refuses-on w n e l f = record {
    answers = λ N ts r A S K E H. refusing n x.line (f N ts r A S K E H) e;
    passes = tt;
    long = refl;
    wide = l;
  }

  -- what is counted can grow
  pub held-summable : Summable 32 0 sets counts
  held-summable = let T = tally-small P.reached in let A = P.reached.arcs in record {
    kind = omega arith;
    places = x.places;
    few = A.few;
    within = A.within;
    long = omega (arith, P.wide);
    low = λ p h. omega (arith, T.held p h, held-read counts p (omega (arith, A.few)), ap (λ (z : ℕ). get_or counts z 0) (front p));
  }
    where
      front : (p : ℕ) → 0 + p ≡ p
      front p = omega arith

  module _ {mid : List ℕ} (U : Summed (arc_at sets 32) (take count xs) 0 counts mid) where
    pub watched-summable : Summable 64 32 sets mid
    watched-summable = let T = tally-small P.reached in let A = P.reached.arcs in record {
      kind = omega arith;
      places = x.places;
      few = A.few;
      within = A.within;
      long = omega (arith, U.long, P.wide);
      low = λ p h. omega (arith, U.beyond (32 + p) (omega arith), T.watched p h, watched-read counts p (omega (arith, A.few)));
    }

    module _ {new : List ℕ} (Y : Summed (arc_at sets 64) (take count xs) 32 mid new) where
      -- 128 events, of arcs that weigh at most 16
      step-most : (a p : ℕ) → over (arc_at sets a) (take count xs) p ≤ 2048
      step-most a p = omega (arith, over-most sets a (take count xs) p, length-take-le count xs (omega (arith, P.step.long, P.step.few)), P.step.few)

      pub tally-grows : {v w : ℕ} → v ≡ sum_of (both_of sets) (take count xs) → w ≡ sum_of (size_of sets 96) (take count xs)
          → Tallies sets x.places (take count xs) (tally_at x.own x.reads counts) (tally_at (x.own + v) (x.reads + w) new)
      tally-grows e f = tally-after sets U Y P.reached.arcs.few P.wide x.own x.reads e f

      pub held-most : AtMost 2560 x.places (column 0 32 new)
      held-most p h = omega (arith, (tally-grows refl refl).held p h, (tally-small P.reached).held p h, step-most 32 p)

      pub watched-most : AtMost 2560 x.places (column 32 32 new)
      watched-most p h = omega (arith, (tally-grows refl refl).watched p h, (tally-small P.reached).watched p h, step-most 64 p)

      pub grown-wide : length new ≡ length counts
      grown-wide = Y.long ∙ U.long

      -- the cursors stay
      pub cursors-grown : column 64 32 new ≡ column 64 32 counts
      cursors-grown = cursors-after sets U Y P.wide

      -- a step that is counted within the limits can be played
      pub growable : {v : ℕ} → v ≡ sum_of (size_of sets 32) (take count xs) → x.conditions + v ≤ 512
          → Growable (length (take count xs)) (length (flows (arc_at sets 32) 64 x.events (take count xs))) x rec steps new
      growable e h = let H = P.reached.holds in record {
        line = omega (arith, H.early, P.some, P.events);
        events = omega (arith, P.events, step-size P.step);
        conditions = omega (arith, made-total sets x.events (take count xs));
        long = P.long;
        wide = grown-wide ∙ P.wide;
        whole = rw cursors-grown H.whole;
      }

-- playing moves the cursors alone among the counts by place
pub counts-kept : {N : Net} {k own reads : ℕ} {r : RunD} {h : History} (counts counts' : List ℕ) → ((at k : ℕ) → at + k ≤ 64 → column at k counts' ≡ column at k counts)
    → HoldsRun N k (record { tally = tally_at own reads counts; history = h }) r → HoldsRun N k (record { tally = tally_at own reads counts'; history = h }) r
counts-kept counts counts' e H = rw (e 0 32 (omega arith), e 32 32 (omega arith)) H
