-- What is counted of a run is what the definitions say of the run.
use Prim.Native.Nat.{ℕ, ◌+◌, ◌*◌, ◌≤◌, ◌<◌}
use mathlib.Core.Path.{◌≡◌, refl, ap, ap₂, ◌∙◌}
use mathlib.Core.List.{List, map}
use native.Mathlib.Nat.{mul-le-mul}
use native.Mathlib.Omega.{arith}
use lib.ListN.{length, get_or, take}
use Rattle.spec.specs.Lists.{In, up_to, count, sum_of, as_count}
use Rattle.spec.specs.Net.{Net, places, makes, inhibits, reads}
use Rattle.spec.specs.Building.{Run, in_step, take_all, made_by, make_all, play_step, consumed_by, marks_due}
use Rattle.lists.specs.Laws
use Rattle.lists.specs.Grouped.{sum_of-scaled}
use Rattle.bit_sets.specs.Bits.{bit}
use Rattle.arc_sets.specs.Sets.{arc_at, HoldsArcs}
use Rattle.arc_sets.specs.Weights.{weight-test, arc-within}
use Rattle.arc_sets.proofs.Making.{sum-places}
use Rattle.steps.specs.StepArrays.{HoldsStep}
use Rattle.steps.proofs.Rows.{step-known}
use Rattle.steps.proofs.Held.{over-held}
use Rattle.runs.specs.Flows.{flows, flows-sum}
use Rattle.runs.specs.Consume.{made_of, make_all-makings, count-blind}
use Rattle.runs.specs.Built.{Good}
use Rattle.runs.specs.MarkCounts.{reads_of}
use Rattle.run_counts.specs.Tally.{in_place, watched_from, own_of, own_all, reads_all, size_of, both_of, times_at, AtMost, Tally, Small, Tallies, Tallied}
use Rattle.run_counts.proofs.Weights.{times_none}
use Rattle.run_counts.proofs.Marks.{marks-counted}

-- ---- the tally after a step

module _ {sets xs ts : List ℕ} {size m : ℕ} (N : Net) (A : HoldsArcs N sets m) (S : HoldsStep xs size ts) (K : (t : ℕ) → In t ts → t < N.transitions)
    (k : ℕ) (r : Run) {t t' : Tally} (T : Tallied N r t) (U : Tallies sets m (take size xs) t t') where
  held_more : (p : ℕ) → p < places N → count (in_place p) (play_step N k ts r).conditions ≡ count (in_place p) r.conditions + sum_of (λ u. makes N u p) ts
  unfolding play_step in_place consumed_by
  held_more p l =
      let n = length r.events in
      Laws.count-append (in_place p) (take_all N n ts r.conditions) (make_all N n ts)
      ∙ ap₂ (λ (a b : ℕ). a + b) (count-blind (in_place p) (λ e c. refl) N n ts r.conditions) (held-made n)
    where
      held-made : (n : ℕ) → count (in_place p) (make_all N n ts) ≡ sum_of (λ u. makes N u p) ts
      held-made n =
          ap (count (in_place p)) (make_all-makings N n ts)
          ∙ Laws.count_map (in_place p) made_of (flows (makes N) (places N) n ts)
          ∙ unfold made_of made_by in_place in (flows-sum (makes N) (places N) p n ts l)

  watched-more : (p : ℕ) → count (watched_from N p) (play_step N k ts r).events ≡ count (watched_from N p) r.events + sum_of (λ u. as_count (inhibits N p u)) ts
  unfolding play_step watched_from in_step
  watched-more p =
      Laws.count-append (watched_from N p) r.events (map (in_step k) ts)
      ∙ ap (λ z. count (watched_from N p) r.events + z) (Laws.count_map (watched_from N p) (in_step k) ts ∙ Laws.count-sum _ ts)

  -- what the events have by their transitions
  events-more : (f : ℕ → ℕ) → sum_of (λ v. f v.transition) (play_step N k ts r).events ≡ sum_of (λ v. f v.transition) r.events + sum_of f ts
  unfolding play_step in_step
  events-more f =
      Laws.sum_of-append (λ v. f v.transition) r.events (map (in_step k) ts)
      ∙ ap (λ z. sum_of (λ v. f v.transition) r.events + z) (Laws.sum_of-map (λ v. f v.transition) (in_step k) ts)

  own-more : own_all N (play_step N k ts r).events ≡ own_all N r.events + sum_of (own_of N) ts
  unfolding own_all
  own-more = events-more (own_of N)

  reads_more : reads_all N (play_step N k ts r).events ≡ reads_all N r.events + sum_of (reads_of N) ts
  unfolding reads_all
  reads_more = events-more (reads_of N)

  -- what the sets say of the events and the places is what the definitions say
  step-summed : (h f : ℕ → ℕ → ℕ) → ((u p : ℕ) → u < 32 → m ≤ p → h u p ≡ 0) → ((u p : ℕ) → u < N.transitions → p < m → h u p ≡ f u p)
      → sum_of (λ u. sum_of (h u) (up_to 64)) (take size xs) ≡ sum_of (λ u. sum_of (f u) (up_to (places N))) ts
  step-summed h f z e =
      ap (sum_of (λ u. sum_of (h u) (up_to 64))) S.events
      ∙ Laws.sum_of-same _ _ ts (λ u i.
      sum-places m (h u) (omega (arith, A.few)) (λ p. z u p (step-known S.step u (rw S.events i)))
      ∙ ap (λ (n : ℕ). sum_of (h u) (up_to n)) A.places
      ∙ Laws.sum_of-same _ _ (up_to (places N)) (λ p j. e u p (K u i) (omega (arith, A.places, Laws.in-up_to (places N) j))))

  -- a set of inhibitors has a place, or has it not
  inhibiting : (u p : ℕ) → u < N.transitions → p < m → bit (get_or sets (64 + u) 0) p ≡ as_count (inhibits N p u)
  unfolding arc_at
  inhibiting u p k l = weight-test sets (64 + u) p (inhibits N p u) (A.inhibitors u p k l)

  own-summed : sum_of (both_of sets) (take size xs) ≡ sum_of (own_of N) ts
  unfolding both_of own_of
  own-summed = step-summed (λ u p. bit (get_or sets (64 + u) 0) p * arc_at sets 32 u p) (λ u p. as_count (inhibits N p u) * makes N u p)
      (λ u p k h. times_none (arc_at sets 32 u p) (A.within (64 + u) p (omega arith) h))
      (λ u p k l. ap₂ (λ (a b : ℕ). a * b) (inhibiting u p k l) (A.outputs u p k l))

  reads-summed : sum_of (size_of sets 96) (take size xs) ≡ sum_of (reads_of N) ts
  unfolding size_of reads_of
  reads-summed = step-summed (arc_at sets 96) (λ u p. as_count (reads N p u)) (λ u p k h. arc-within sets A.within 96 u p (omega arith) h) A.reads

  pub tally-grown : Tallied N (play_step N k ts r) t'
  tally-grown = record {
    long_held = U.long_held;
    long_watched = U.long_watched;
    held = λ p l. let h : p < m = omega (arith, A.places) in omega (arith, U.held p h, T.held p l, over-held A S K 32 A.outputs p h, held_more p l);
    watched = λ p l. let h : p < m = omega (arith, A.places) in omega (arith, U.watched p h, T.watched p l, over-held A S K 64 A.inhibitors p h, watched-more p);
    own = omega (arith, U.own, T.own, own-summed, own-more);
    reads = omega (arith, U.reads, T.reads, reads-summed, reads_more);
  }

-- ---- the tally of a run

module _ {m k : ℕ} (N : Net) (r : Run) {t : Tally} (e : m ≡ places N) (G : Good N k r) (T : Tallied N r t) where
  -- the marks that are due
  pub marks-tallied : length (marks_due N r) + t.own ≡ sum_of (times_at t.held t.watched) (up_to m) + t.reads
  unfolding times_at
  marks-tallied = omega (
    arith,
    marks-counted N k r G,
    T.own,
    T.reads,
    ap (λ (z : ℕ). sum_of (times_at t.held t.watched) (up_to z)) e,
    Laws.sum_of-same _ _ (up_to (places N)) (λ p i. let l : p < places N = Laws.in-up_to (places N) i in ap₂ (λ (a b : ℕ). a * b) (T.held p l) (T.watched p l)),
  )

  -- its counts are small
  module _ (few : m ≤ 32) (cs : length r.conditions ≤ 512) (es : length r.events ≤ 128) where
    held_low : AtMost 512 m t.held
    held_low p l = omega (arith, T.held p (omega arith), Laws.count-length (in_place p) r.conditions)

    watched-low : AtMost 128 m t.watched
    watched-low p l = omega (arith, T.watched p (omega arith), Laws.count-length (watched_from N p) r.events)

    -- no transition reads more places than there are
    reads-low : t.reads ≤ 4096
    unfolding reads_all reads_of
    reads-low = omega (
      arith,
      T.reads,
      Laws.sum_of-le (λ v. sum_of (λ p. as_count (reads N p v.transition)) (up_to (places N))) (λ v. 32 * 1) r.events (λ v i. omega (
        arith,
        e,
        Laws.sum_of-le (λ p. as_count (reads N p v.transition)) (λ p. 1) (up_to (places N)) (λ p j. Laws.one-le (reads N p v.transition)),
        Laws.sum_of-one (up_to (places N)),
        Laws.length-up_to (places N),
      )),
      sum_of-scaled 32 (λ v. 1) r.events,
      Laws.sum_of-one r.events,
    )

    own-low : t.own ≤ 2101248
    unfolding times_at
    own-low = omega (
      arith,
      marks-tallied,
      reads-low,
      Laws.sum_of-le (times_at t.held t.watched) (λ p. 65536 * 1) (up_to m) (λ p i. let l : p < m = Laws.in-up_to m i in mul-le-mul (held_low p l) (watched-low p l)),
      sum_of-scaled 65536 (λ p. 1) (up_to m),
      Laws.sum_of-one (up_to m),
      Laws.length-up_to m,
    )

    pub small : Small m t
    small = record {
      few = few;
      long_held = T.long_held;
      long_watched = T.long_watched;
      held = held_low;
      watched = watched-low;
      own = own-low;
      reads = reads-low;
    }
