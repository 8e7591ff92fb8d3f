-- A step that is enabled is built as the definitions say.
use Prim.Native.Nat.{ℕ, suc, ◌+◌, ◌≤◌, ◌<◌}
use mathlib.Core.Path.{◌≡◌, ap}
use mathlib.Core.List.{List, map}
use native.Mathlib.Numerals.{add-one}
use native.Mathlib.Omega.{arith}
use lib.ListN.{length, take, length-append, length-map}
use borrow.Author.Tests.{lt-ltb, le-ltb}
use Rattle.spec.specs.Answer.{gives, refuses, ◌>>◌, refuse◌at◌when◌}
use Rattle.spec.specs.Lists.{In, up_to, sum_of}
use Rattle.spec.specs.Net.{Net, places, makes}
use Rattle.spec.specs.Step.{EnabledAt}
use Rattle.spec.specs.Building.{Run as RunD, in_step, take_all, make_all, play_step, marks_due}
use Rattle.arc_sets.specs.Sets.{HoldsArcs}
use Rattle.steps.specs.StepArrays.{HoldsStep}
use Rattle.steps.specs.Judged.{judge_step}
use Rattle.steps.proofs.Held.{step-length, judged-tests}
use Rattle.runs.specs.Flows.{flows}
use Rattle.runs.specs.Consume.{made_of, make_all-makings, length-take_all}
use Rattle.runs.specs.Steps.{enabled-tests}
use Rattle.runs.specs.Built.{Good, good-step}
use Rattle.run_counts.specs.Tally.{size_of, times_at, Tally, Tallied, Tallies}
use Rattle.run_counts.proofs.Held.{tally-grown, marks-tallied}
use Rattle.history.specs.HistoryColumns.{History, events_of, Grown}
use Rattle.history.proofs.Held.{flows-held, events-grown, conditions-grown}
use Rattle.log_steps.specs.RunArrays.{Run, HoldsRun, build_step}
use Rattle.log_steps.proofs.Reaching.{events-length, conditions-held, made-total}

module _ {sets xs : List ℕ} {size m k : ℕ} {x : Run} (N : Net) (ts : List ℕ) (r : RunD)
    (A : HoldsArcs N sets m) (S : HoldsStep xs size ts) (K : (t : ℕ) → In t ts → t < N.transitions) (E : judge_step N k r.marking ts ≡ gives tt) (H : HoldsRun N k x r) where
  abbrev after : RunD
  after = play_step N k ts r

  enabled : EnabledAt N r.marking ts
  enabled = (enabled-tests N r.marking ts).0 (judged-tests N k r.marking ts E)

  conditions-after : length after.conditions ≡ x.history.conditions + sum_of (size_of sets 32) (take size xs)
  unfolding play_step
  conditions-after =
      let n = length r.events in
      omega (
        arith,
        length-append (take_all N n ts r.conditions) (make_all N n ts),
        length-take_all N n ts r.conditions,
        conditions-held H,
        ap length (make_all-makings N n ts),
        length-map (flows (makes N) (places N) n ts) made_of,
        ap (λ (z : ℕ). length (flows (makes N) z n ts)) A.places,
        ap length (flows-held A S K 32 n (omega arith) A.outputs),
        made-total sets n (take size xs),
      )

  module _ {v : ℕ} (q : v ≡ sum_of (size_of sets 32) (take size xs)) where
    pub answers-26 : 512 < x.history.conditions + v → build_step N k ts r ≡ refuses 26 k
    unfolding build_step ◌>>◌ refuse◌at◌when◌
    answers-26 c = rw (lt-ltb 512 (length after.conditions) (omega (arith, conditions-after)))

    module _ (c : x.history.conditions + v ≤ 512) {t : Tally} (W : Tallies sets m (take size xs) x.tally t) where
      good-after : Good N (suc k) after
      good-after = good-step N k r H.good ts enabled K

      tally-after : Tallied N after t
      tally-after = tally-grown N A S K k r H.tally W

      module _ {w : ℕ} (p : w ≡ sum_of (times_at t.held t.watched) (up_to m)) where
        pub answers-27 : 4096 + t.own < w + t.reads → build_step N k ts r ≡ refuses 27 k
        unfolding build_step ◌>>◌ refuse◌at◌when◌
        answers-27 d = rw (
          le-ltb 512 (length after.conditions) (omega (arith, conditions-after)),
          lt-ltb 4096 (length (marks_due N after)) (omega (arith, marks-tallied N after A.places good-after tally-after)),
        )

        pub answers-run : w + t.reads ≤ 4096 + t.own → build_step N k ts r ≡ gives after
        unfolding build_step ◌>>◌ refuse◌at◌when◌
        answers-run d = rw (
          le-ltb 512 (length after.conditions) (omega (arith, conditions-after)),
          le-ltb 4096 (length (marks_due N after)) (omega (arith, marks-tallied N after A.places good-after tally-after)),
        )

      pub run-after : {h : History} → 0 < size → Grown k (take size xs) sets x.history h → HoldsRun N (k + 1) (record { tally = t; history = h }) after
      run-after {h} l G = record {
        good = rw (add-one k) good-after;
        tally = tally-after;
        whole = G.whole;
        events = events-grown N A S K r H.events H.conditions G;
        conditions = conditions-grown N A S K r H.events H.conditions G;
        early = omega (arith, H.early, grown-events);
      }
        where
          grown-events : h.events ≡ x.history.events + size
          grown-events = omega (
            arith,
            events-length h,
            ap length G.events,
            length-append (events_of x.history) (map (in_step k) (take size xs)),
            events-length x.history,
            length-map (take size xs) (in_step k),
            ap length S.events,
            step-length S,
          )
