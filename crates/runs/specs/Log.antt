-- The record built from an enabled step sequence: its events are the sequence's, it is well formed and a process, and the
-- sequence is an arrangement of it that keeps its order.
use Rattle.std.specs.Prelude.{◌≡◌, ℕ, zero, suc, ◌+◌, ◌-◌, ◌≤◌, ◌<◌, get_or, take, eqb}
use Rattle.std.proofs.Math.Path.{refl, ap}
use Rattle.std.proofs.Common.{sym, ap₂, ◌∙◌, not-suc-le-zero, add-zero, add-suc, suc-add, arith, length-append, get_or-append-add, eq-eqb, ne_eqb}
use Rattle.std.proofs.Math.Decide.{dec_le}
use mathlib.Core.List.{List, [], ◌∷◌, ◌++◌, map, append_assoc, append-nil, map-append, map-map, map-id}
use Rattle.std.proofs.Math.ListN.{length, get_or-append}
use Rattle.std.proofs.lemmas.List.{length-map, take-append-le}
use Rattle.std.proofs.Math.Seq.{get_or-append_seam}
use Rattle.spec.specs.Lists.{In, from, up_to, flat}
use Rattle.spec.specs.Net.{Net}
use Rattle.spec.specs.Step.{EnabledAt, marking_after}
use Rattle.spec.specs.Order.{pairs}
use Rattle.spec.specs.Process.{Process, WellFormed}
use Rattle.spec.specs.Building.{Event, no_event, Run, step_of, start, in_step, play_step, play_steps, run_of, record_of, record_for}
use Rattle.spec.specs.Arrangement.{Arrangement, times, index}
use Rattle.spec.specs.Runs.{marking_at, EnabledSequence, KeepsOrder, as_steps, event_lines}
use Rattle.order.specs.Index.{index-here, index-there}
use Rattle.lists.specs.Laws
use Rattle.runs.specs.Pairs.{KeepsPairs, pairs-order}
use Rattle.runs.specs.Sources.{bounded}
use Rattle.runs.specs.Built.{Good, good_start, good-step}
use Rattle.runs.specs.Marks.{well-formed, process, steps-keep}

-- ---- the lines of a sequence's events

pub flat-lines : (e : ℕ) (steps : List (List ℕ)) → flat (event_lines e steps) ≡ from e (length (flat steps))
unfolding flat event_lines
flat-lines e [] = unfold from in refl
flat-lines e (ts ∷ tss) = rw (length-append ts (flat tss), Laws.from-append) (ap (λ l. from e (length ts) ++ l) (flat-lines (e + length ts) tss))

pub length-lines : (e : ℕ) (steps : List (List ℕ)) → length (event_lines e steps) ≡ length steps
unfolding event_lines
length-lines e [] = refl
length-lines e (ts ∷ tss) = ap suc (length-lines (e + length ts) tss)

length-line : (e : ℕ) (steps : List (List ℕ)) (k : ℕ) → length (get_or (event_lines e steps) k []) ≡ length (get_or steps k [])
unfolding event_lines
length-line e [] k = refl
length-line e (ts ∷ tss) zero = Laws.length_from e (length ts)
length-line e (ts ∷ tss) (suc k) = length-line (e + length ts) tss k

pub lines-arrange : (steps : List (List ℕ)) → ((k : ℕ) → k < length steps → 0 < length (get_or steps k [])) → Arrangement (length (flat steps)) (event_lines 0 steps)
unfolding times up_to
lines-arrange steps full = record {
  once = λ e l. rw (flat-lines 0 steps) (Laws.count-up_to e (length (flat steps)) l);
  only = λ e l. rw (flat-lines 0 steps) (Laws.count_none (eqb e) (up_to (length (flat steps))) (λ x m. ne_eqb e x (λ z. omega (arith, Laws.in-up_to (length (flat steps)) m))));
  full = λ k l. omega (arith, full k (omega (arith, length-lines 0 steps)), length-line 0 steps k);
}

-- ---- the events that steps add

unfoldable pub step_events : ℕ → List (List ℕ) → List Event
step_events k [] = []
step_events k (ts ∷ tss) = map (in_step k) ts ++ step_events (suc k) tss

pub played-events : (N : Net) (k : ℕ) (steps : List (List ℕ)) (r : Run) → (play_steps N k steps r).events ≡ r.events ++ step_events k steps
unfolding play_steps step_events play_step
played-events N k [] r = sym (append-nil r.events)
played-events N k (ts ∷ tss) r = played-events N (suc k) tss (play_step N k ts r) ∙ append_assoc r.events (map (in_step k) ts) (step_events (suc k) tss)

step-fired : (k : ℕ) (steps : List (List ℕ)) → map (λ v. v.transition) (step_events k steps) ≡ flat steps
unfolding step_events flat in_step
step-fired k [] = refl
step-fired k (ts ∷ tss) = rw (map-append (λ (v : Event). v.transition), map-map, map-id, step-fired (suc k) tss)

-- ---- an event's step number is that of its line

index-first : (e a : ℕ) (ts : List ℕ) (ls : List (List ℕ)) → a ≤ e → e < a + length ts → index e (from a (length ts) ∷ ls) ≡ 0
index-first e a ts ls l h = index-here e _ ls (Laws.count-in (eqb e) e (from a (length ts)) (Laws.from_in e a (length ts) l h) (eq-eqb e e refl))

index-later : (e a : ℕ) (ts : List ℕ) (ls : List (List ℕ)) → a + length ts ≤ e → index e (from a (length ts) ∷ ls) ≡ suc (index e ls)
index-later e a ts ls l = index-there e _ ls (Laws.count_none (eqb e) (from a (length ts)) (λ x m. ne_eqb e x (λ z. omega (arith, Laws.in-from x a (length ts) m))))

first_step : (k : ℕ) (ts : List ℕ) (tss : List (List ℕ)) (i : ℕ) → i < length ts → step_of (step_events k (ts ∷ tss)) i ≡ k
unfolding step_events in_step
first_step k ts tss i l = ap (λ (v : Event). v.step)
    (get_or-append (map (in_step k) ts) (step_events (suc k) tss) no_event i (omega (arith, length-map ts (in_step k))) ∙ Laws.get_or-map-in (in_step k) ts i no_event 0 l)

later-step : (k : ℕ) (ts : List ℕ) (tss : List (List ℕ)) (i : ℕ) → step_of (step_events k (ts ∷ tss)) (length ts + i) ≡ step_of (step_events (suc k) tss) i
unfolding step_events
later-step k ts tss i = ap (λ (v : Event). v.step) (rw length-map at (get_or-append-add (map (in_step k) ts) (step_events (suc k) tss) i no_event))

step_line : (k a : ℕ) (steps : List (List ℕ)) (e i : ℕ) → e ≡ a + i → i < length (flat steps) → step_of (step_events k steps) i ≡ k + index e (event_lines a steps)
unfolding event_lines flat
step_line k a [] e i q l = absurd (not-suc-le-zero l)
step_line k a (ts ∷ tss) e i q l = elim (dec_le (length ts) i) [
  | yes h ↦
      let j : ℕ = i - length ts in
      let d : i ≡ length ts + j = omega arith in
      omega (
        arith,
        ap (step_of (step_events k (ts ∷ tss))) d,
        later-step k ts tss j,
        step_line (suc k) (a + length ts) tss e j (omega arith) (omega (arith, length-append ts (flat tss))),
        index-later e a ts (event_lines (a + length ts) tss) (omega arith),
      )
  | no h ↦ omega (arith, first_step k ts tss i (omega arith), index-first e a ts (event_lines (a + length ts) tss) (omega arith) (omega arith))
]

-- ---- read as transitions, the lines are the steps

read-line : (pre ts post : List ℕ) → map (λ e. get_or (pre ++ (ts ++ post)) e 0) (from (length pre) (length ts)) ≡ ts
unfolding from
read-line pre [] post = refl
read-line pre (t ∷ ts) post = ap₂ (λ (x : ℕ) (l : List ℕ). x ∷ l) (get_or-append_seam pre t (ts ++ post) 0)
    (ap₂ (λ (z : List ℕ) (a : ℕ). map (λ e. get_or z e 0) (from a (length ts))) (sym (append_assoc pre (t ∷ []) (ts ++ post))) (more pre t) ∙ read-line (pre ++ t ∷ []) ts post)
  where
    more : (pre : List ℕ) (t : ℕ) → suc (length pre) ≡ length (pre ++ t ∷ [])
    more pre t = omega (arith, length-append pre (t ∷ []))

read-lines : (pre : List ℕ) (steps : List (List ℕ)) → map (map (λ e. get_or (pre ++ flat steps) e 0)) (event_lines (length pre) steps) ≡ steps
unfolding event_lines flat
read-lines pre [] = refl
read-lines pre (ts ∷ tss) = ap₂ (λ (x : List ℕ) (l : List (List ℕ)). x ∷ l) (read-line pre ts (flat tss))
    (ap₂ (λ (z : List ℕ) (a : ℕ). map (map (λ e. get_or z e 0)) (event_lines a tss)) (sym (append_assoc pre ts (flat tss))) (sym (length-append pre ts)) ∙ read-lines (pre ++ ts) tss)

-- ---- the marking that a run carries

pub played-marking : (N : Net) (k : ℕ) (steps : List (List ℕ)) (r : Run) → (play_steps N k steps r).marking ≡ marking_after N r.marking steps
unfolding play_steps play_step marking_after
played-marking N k [] r = refl
played-marking N k (ts ∷ tss) r = played-marking N (suc k) tss (play_step N k ts r)

pub run-marking : (N : Net) (steps : List (List ℕ)) (k : ℕ) → (run_of N (take k steps)).marking ≡ marking_at N steps k
unfolding run_of marking_at start
run-marking N steps k = played-marking N 1 (take k steps) (start N)

-- ---- the record built from an enabled sequence

good-steps : (N : Net) (k : ℕ) (steps : List (List ℕ)) (r : Run) → Good N k r
    → ((j : ℕ) → j < length steps → EnabledAt N (marking_after N r.marking (take j steps)) (get_or steps j []))
    → ((j t : ℕ) → j < length steps → In t (get_or steps j []) → t < N.transitions)
    → Good N (k + length steps) (play_steps N k steps r)
unfolding play_steps play_step marking_after
good-steps N k [] r G E K = rw add-zero G
good-steps N k (ts ∷ tss) r G E K = rw (add-suc, ← suc-add k (length tss))
    (good-steps N (suc k) tss (play_step N k ts r) (good-step N k r G ts (E 0 (omega arith)) (λ t m. K 0 t (omega arith) m)) (λ j l. E (suc j) (omega arith)) (λ j t l m. K (suc j) t (omega arith) m))

-- the beginning of an enabled sequence is enabled
pub enabled-beginning : (N : Net) (s t : List (List ℕ)) → EnabledSequence N (s ++ t) → EnabledSequence N s
unfolding marking_at
enabled-beginning N s t E = record {
  full = λ k l. rw (step k l) at (E.full k (longer k l));
  known = λ k x l m. E.known k x (longer k l) (rw (step k l) m);
  enabled = λ k l. rw (step k l, take-append-le k s t (omega arith)) at (E.enabled k (longer k l));
}
  where
    longer : (k : ℕ) → k < length s → k < length (s ++ t)
    longer k l = omega (arith, length-append s t)

    step : (k : ℕ) → k < length s → get_or (s ++ t) k [] ≡ get_or s k []
    step k l = get_or-append s t [] k l

module _ (N : Net) (steps : List (List ℕ)) where
  pub run-events : (run_of N steps).events ≡ step_events 1 steps
  unfolding run_of start
  run-events = played-events N 1 steps (start N)

  pub record-events : (record_for N steps).events ≡ flat steps
  unfolding record_for record_of
  record-events = ap (map (λ (v : Event). v.transition)) run-events ∙ step-fired 1 steps

  line_of : (e : ℕ) → e < length (record_for N steps).events → step_of (run_of N steps).events e ≡ suc (index e (event_lines 0 steps))
  line_of e l = rw run-events (omega (arith, step_line 1 0 steps e e (omega arith) (omega (arith, ap length record-events))))

  pub built-reads : as_steps (record_for N steps) (event_lines 0 steps) ≡ steps
  unfolding as_steps
  built-reads = rw record-events (read-lines [] steps)

  module _ (E : EnabledSequence N steps) where
    pub good-run : Good N (1 + length steps) (run_of N steps)
    unfolding run_of start marking_at
    good-run = good-steps N 1 steps (start N) (good_start N) E.enabled E.known

    pub built-well-formed : WellFormed N (record_for N steps)
    unfolding record_for
    built-well-formed = well-formed N (1 + length steps) (run_of N steps) good-run

    pub built-process : Process N (record_for N steps)
    unfolding record_for
    built-process = process N (1 + length steps) (run_of N steps) good-run

    lines_keep : KeepsPairs (pairs (record_for N steps)) (λ e. index e (event_lines 0 steps))
    unfolding record_for
    lines_keep =
        let s = steps-keep N (1 + length steps) (run_of N steps) good-run in
        let b = bounded N (record_for N steps) built-well-formed in
        record {
          strict = λ q m h. omega (arith, line_of q.source (b q m).0, line_of q.target (b q m).1, s.strict q m h);
          weak = λ q m. omega (arith, line_of q.source (b q m).0, line_of q.target (b q m).1, s.weak q m);
        }

    -- the sequence is among the arrangements that keep the record's order
    pub built-keeps : KeepsOrder (record_for N steps) (event_lines 0 steps)
    built-keeps = pairs-order (record_for N steps) (bounded N (record_for N steps) built-well-formed) (event_lines 0 steps)
        (rw record-events (lines-arrange steps E.full)) lines_keep
