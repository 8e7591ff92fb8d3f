-- Runs only grow: where the record of a run is within the limits, so is that of every run before it.
use Rattle.std.specs.Prelude.{◌≡◌, refl, replicate}
use Rattle.std.proofs.Math.Path.{ap}
use Rattle.std.proofs.Common.{◌∙◌, arith}
use Prim.Native.Nat.{ℕ, suc, ◌+◌, ◌≤◌, zero-le}
use Rattle.std.proofs.Math.Nat.{le_trans}
use mathlib.Core.List.{List, [], ◌∷◌, ◌++◌, map, append-nil}
use Rattle.std.proofs.Math.ListN.{length, length-append, length-map, get_or-append}
use Rattle.std.proofs.lemmas.List.{length-replicate}
use Rattle.std.proofs.Math.Seq.{append_snoc}
use Rattle.spec.specs.Lists.{from, up_to, flat, count, sum, sum_of}
use Rattle.spec.specs.Net.{Net}
use Rattle.spec.specs.Record.{Condition}
use Rattle.spec.specs.Building.{Event, no_event, Run, initial_of, start, in_step, take_all, make_all, consumed_by, play_step, play_steps, run_of, marks_due, record_of, record_for}
use Rattle.spec.specs.declared.Limits.{Limits}
use Rattle.spec.specs.Runs.{EnabledSequence}
use Rattle.lists.specs.Laws.{count-append, sum_of-le, sum_of-append, in-up_to, from-append}
use Rattle.runs.specs.Consume.{count-blind, length-take_all}
use Rattle.runs.specs.Built.{fired_by, Good, blank}
use Rattle.runs.specs.MarkCounts.{due_for, reads_of, marks-length}
use Rattle.runs.specs.Log.{enabled-beginning, good-run}
use Rattle.runs.specs.ReadRecord.{Fits}

-- ---- how many marks there are

due-grows : (N : Net) (e t n : ℕ) (ts : List ℕ) (cs : List Condition) → count (due_for N e t) cs ≤ count (due_for N e t) (take_all N n ts cs ++ make_all N n ts)
unfolding due_for consumed_by
due-grows N e t n ts cs = omega (arith, count-append (due_for N e t) (take_all N n ts cs) (make_all N n ts), count-blind (due_for N e t) (λ e c. refl) N n ts cs)

-- the marks of a run grow with a step: no event loses one
marks-grow : (N : Net) (k : ℕ) (ts : List ℕ) (r : Run) → Good N k r → Good N (suc k) (play_step N k ts r) → length (marks_due N r) ≤ length (marks_due N (play_step N k ts r))
unfolding play_step up_to
marks-grow N k ts r G H =
    let es : List Event = r.events in
    let fs : List Event = es ++ map (in_step k) ts in
    let cs : List Condition = r.conditions in
    let ds : List Condition = take_all N (length es) ts cs ++ make_all N (length es) ts in
    let f : ℕ → ℕ = λ e. count (due_for N e (fired_by es e)) cs + reads_of N (fired_by es e) in
    let g : ℕ → ℕ = λ e. count (due_for N e (fired_by fs e)) ds + reads_of N (fired_by fs e) in
    let more : length fs ≡ length es + length ts = length-append es (map (in_step k) ts) ∙ ap (λ (z : ℕ). length es + z) (length-map ts (in_step k)) in
    let each : sum_of f (up_to (length es)) ≤ sum_of g (up_to (length es)) = sum_of-le f g (up_to (length es)) (λ e m.
    let q : fired_by fs e ≡ fired_by es e = ap (λ (v : Event). v.transition) (get_or-append es (map (in_step k) ts) no_event e (in-up_to (length es) m)) in
    omega (arith, due-grows N e (fired_by es e) (length es) ts cs, ap (λ t. count (due_for N e t) ds) q, ap (reads_of N) q)) in
    let before : length (marks_due N r) ≡ sum_of f (up_to (length es)) = marks-length N k r G in
    let after : length (marks_due N (play_step N k ts r)) ≡ sum_of g (up_to (length es)) + sum_of g (from (0 + length es) (length ts)) =
    marks-length N (suc k) (play_step N k ts r) H
    ∙ ap (λ (z : ℕ). sum_of g (up_to z)) more
    ∙ ap (sum_of g) (from-append 0 (length es) (length ts))
    ∙ sum_of-append g (up_to (length es)) (from (0 + length es) (length ts)) in
    omega (arith, before, after, each)

-- ---- steps

pub step-events : (N : Net) (k : ℕ) (ts : List ℕ) (r : Run) → length (record_of N (play_step N k ts r)).events ≡ length r.events + length ts
unfolding record_of play_step
step-events N k ts r =
    length-map (r.events ++ map (in_step k) ts) (λ (v : Event). v.transition)
    ∙ length-append r.events (map (in_step k) ts)
    ∙ ap (λ (z : ℕ). length r.events + z) (length-map ts (in_step k))

module _ (N : Net) where
  -- the run of a sequence goes on from that of its beginning
  steps-append : (k : ℕ) (s t : List (List ℕ)) (r : Run) → play_steps N k (s ++ t) r ≡ play_steps N (k + length s) t (play_steps N k s r)
  unfolding play_steps
  steps-append k [] t r = ap (λ (j : ℕ). play_steps N j t r) (omega arith)
  steps-append k (ts ∷ s) t r = steps-append (suc k) s t (play_step N k ts r) ∙ ap (λ (j : ℕ). play_steps N j t (play_steps N (suc k) s (play_step N k ts r))) (omega arith)

  run-append : (s t : List (List ℕ)) → run_of N (s ++ t) ≡ play_steps N (1 + length s) t (run_of N s)
  unfolding run_of
  run-append s t = steps-append 1 s t (start N)

  pub run-snoc : (s : List (List ℕ)) (ts : List ℕ) → run_of N (s ++ ts ∷ []) ≡ play_step N (1 + length s) ts (run_of N s)
  unfolding play_steps
  run-snoc s ts = run-append s (ts ∷ [])

module _ (lim : Limits) (N : Net) where
  fits-before : (k : ℕ) (ts : List ℕ) (r : Run) → Good N k r → Good N (suc k) (play_step N k ts r) → Fits lim (record_of N (play_step N k ts r)) → Fits lim (record_of N r)
  unfolding record_of play_step
  fits-before k ts r G H F =
      let n = length r.events in
      record {
        events = omega (arith, F.events, step-events N k ts r, length-map r.events (λ (v : Event). v.transition));
        conditions = omega (arith, F.conditions, length-append (take_all N n ts r.conditions) (make_all N n ts), length-take_all N n ts r.conditions);
        marks = le_trans (marks-grow N k ts r G H) F.marks;
      }

  pub fits-beginning : (s t : List (List ℕ)) → EnabledSequence N (s ++ t) → Fits lim (record_for N (s ++ t)) → Fits lim (record_for N s)
  unfolding record_for
  fits-beginning s [] E F = rw append-nil at F
  fits-beginning s (ts ∷ t) E F =
      let D : EnabledSequence N ((s ++ ts ∷ []) ++ t) = rw append_snoc E in
      let more : 1 + length (s ++ ts ∷ []) ≡ suc (1 + length s) = omega (arith, length-append s (ts ∷ [])) in
      let H : Good N (suc (1 + length s)) (play_step N (1 + length s) ts (run_of N s)) =
      rw (more, run-snoc) at (good-run N (s ++ ts ∷ []) (enabled-beginning N (s ++ ts ∷ []) t D)) in
      fits-before (1 + length s) ts (run_of N s) (good-run N s (enabled-beginning N s (ts ∷ t) E)) H
      (rw run-snoc at (fits-beginning (s ++ ts ∷ []) t D (rw append_snoc F)))

-- ---- the start

pub initial-length : (p : ℕ) (ks : List ℕ) → length (initial_of p ks) ≡ sum ks
unfolding initial_of sum blank
initial-length p [] = refl
initial-length p (k ∷ ks) = omega (arith, length-append (replicate k (blank p)) (initial_of (suc p) ks), length-replicate k (blank p), initial-length (suc p) ks)

pub start_fits : (lim : Limits) (N : Net) → sum N.tokens ≤ lim.conditions → Fits lim (record_for N [])
unfolding record_for record_of run_of play_steps start marks_due flat up_to from
start_fits lim N h = record { events = zero-le; conditions = omega (arith, initial-length 0 N.tokens); marks = zero-le }
