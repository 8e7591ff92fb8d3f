-- An arrangement that keeps the order of a process is an enabled step sequence; its markings count the conditions that hold,
-- and are replay's rows.
use Rattle.std.specs.Prelude.{◌≡◌, length, get_or, take}
use Rattle.std.proofs.Common.{sym, ◌∙◌, le_refl, ext_get_or, lt-ltb, le-ltb}
use Rattle.std.proofs.Math.Path.{ap}
use Prim.Native.Nat.{ℕ, zero, suc, ◌+◌, ◌≤◌, ◌<◌}
use Rattle.std.proofs.Math.Decide.{dec_le}
use native.Mathlib.Omega.{arith}
use mathlib.Core.List.Memᴰ
use mathlib.Core.List.{List, [], ◌++◌, map, map-append}
use Rattle.std.proofs.Math.ListN.{length-map, get_or-map}
use Rattle.spec.specs.Lists.{In, count, sum_of, flat, up_to}
use Rattle.spec.specs.Net.{Net, places, takes, makes, inhibits, reads}
use Rattle.spec.specs.Step.{tokens_at, taken, made, EnabledAt, play, marking_after}
use Rattle.spec.specs.Record.{RunRecord, transition_of}
use Rattle.spec.specs.Process.{Process, WellFormed}
use Rattle.spec.specs.Building.{is_free}
use Rattle.spec.specs.Replaying.{count_after, fired_by, row_at}
use Rattle.spec.specs.Runs.{EnabledSequence, KeepsOrder, marking_at, as_steps}
use Rattle.lists.specs.Laws
use Rattle.runs.specs.Steps.{play-at, marking-suc, marking-length, marking-beyond}
use Rattle.runs.specs.Lines.{line-inside}
use Rattle.runs.specs.Course.{holds, came_at, left_at, taken-left, made-came, enough, emptied, present, came-holds, holds-last}

-- ---- the lines as steps

module _ (R : RunRecord) (lines : List (List ℕ)) where
  abbrev pub step_at : ℕ → List ℕ
  step_at k = map (transition_of R) (get_or lines k [])

  pub step-at : (k : ℕ) → get_or (as_steps R lines) k [] ≡ step_at k
  unfolding as_steps
  step-at k = get_or-map (map (transition_of R)) lines k []

  pub steps-length : length (as_steps R lines) ≡ length lines
  unfolding as_steps
  steps-length = length-map lines (map (transition_of R))

  fired-next : (k : ℕ) → k < length lines → fired_by R lines (suc k) ≡ fired_by R lines k ++ step_at k
  unfolding fired_by
  fired-next k h = ap (map (transition_of R)) (Laws.flat-take-suc lines k h) ∙ map-append (transition_of R) (flat (take k lines)) (get_or lines k [])

  next-marking : (N : Net) (k : ℕ) → k < length lines → marking_at N (as_steps R lines) (suc k) ≡ play N (marking_at N (as_steps R lines) k) (step_at k)
  next-marking N k h = marking-suc N (as_steps R lines) k (omega (arith, steps-length)) ∙ ap (play N (marking_at N (as_steps R lines) k)) (step-at k)

-- ---- the marking after k lines

module _ (N : Net) (R : RunRecord) (W : WellFormed N R) (P : Process N R) (lines : List (List ℕ)) (K : KeepsOrder R lines) where
  abbrev marking : ℕ → List ℕ
  marking k = marking_at N (as_steps R lines) k

  next-left : (k p : ℕ) → k < length lines → p < places N → left_at R lines (suc k) p ≡ left_at R lines k p + taken N (step_at R lines k) p
  unfolding taken
  next-left k p h l = omega (
    arith,
    taken-left N R W P lines K (suc k) p l,
    taken-left N R W P lines K k p l,
    ap (λ z. taken N z p) (fired-next R lines k h) ∙ Laws.sum_of-append (λ t. takes N t p) (fired_by R lines k) (step_at R lines k),
  )

  next-came : (k p : ℕ) → k < length lines → p < places N → came_at R lines (suc k) p ≡ came_at R lines k p + made N (step_at R lines k) p
  unfolding made
  next-came k p h l = omega (
    arith,
    made-came N R W P lines K (suc k) p l,
    made-came N R W P lines K k p l,
    ap (λ z. made N z p) (fired-next R lines k h) ∙ Laws.sum_of-append (λ t. makes N t p) (fired_by R lines k) (step_at R lines k),
  )

  -- with the conditions that have left it makes up those that came
  pub balance : (k p : ℕ) → k ≤ length lines → p < places N → tokens_at (marking k) p + left_at R lines k p ≡ came_at R lines k p
  unfolding marking_at marking_after taken made fired_by flat sum_of
  balance zero p h l = omega (arith, taken-left N R W P lines K 0 p l, made-came N R W P lines K 0 p l)
  balance (suc k) p h l =
      rw (next-marking R lines N k h, play-at N (marking k) (step_at R lines k) p l)
      (omega (arith, balance k p (omega arith) l, next-left k p h l, next-came k p h l, enough N R W P lines K k p))

  step-enabled : (k : ℕ) → k < length lines → EnabledAt N (marking k) (step_at R lines k)
  step-enabled k h = record {
    enough = λ p l. omega (arith, balance k p (omega arith) l, next-left k p h l, enough N R W P lines K k p);
    present = λ p t l i q.
        let r : (e : ℕ) × In e (get_or lines k []) × (transition_of R e ≡ t) = Memᴰ.of_map (transition_of R) (get_or lines k []) i in
        omega (arith, balance k p (omega arith) l, came-holds N R W P lines K k p, present N R W P lines K k p r.0 l r.1 (ap (reads N p) r.2 ∙ q));
    clear = λ p t l i q.
        let r : (e : ℕ) × In e (get_or lines k []) × (transition_of R e ≡ t) = Memᴰ.of_map (transition_of R) (get_or lines k []) i in
        omega (arith, balance k p (omega arith) l, emptied N R W P lines K k p r.0 r.1 (ap (inhibits N p) r.2 ∙ q));
  }

  pub enabled-steps : EnabledSequence N (as_steps R lines)
  enabled-steps = record {
    full = λ k h. rw (step-at R lines k, length-map (get_or lines k []) (transition_of R)) (K.each-once.full k (omega (arith, steps-length R lines)));
    known = λ k t h i.
        let r : (e : ℕ) × In e (get_or lines k []) × (transition_of R e ≡ t) = Memᴰ.of_map (transition_of R) (get_or lines k []) (rw (step-at R lines k) at i) in
        rw (← r.2) (W.known _ (Laws.at_in 0 R.events r.0 (line-inside _ lines K.each-once k r.0 r.1)));
    enabled = λ k h. rw (step-at R lines k) (step-enabled k (omega (arith, steps-length R lines)));
  }

  -- ---- replay's rows

  pub count-is : (k p : ℕ) → k ≤ length lines → p < places N → count_after N (fired_by R lines k) p ≡ tokens_at (marking k) p
  unfolding count_after
  count-is k p h l = omega (arith, balance k p h l, taken-left N R W P lines K k p l, made-came N R W P lines K k p l)

  pub row_is : (k p : ℕ) → k ≤ length lines → row_at N (fired_by R lines k) p ≡ tokens_at (marking k) p
  unfolding row_at
  row_is k p h = elim (dec_le (places N) p) [
    | yes l ↦ rw (le-ltb p (places N) l) (sym (marking-beyond N (as_steps R lines) k p l))
    | no l ↦ rw (lt-ltb p (places N) (omega arith)) (count-is k p h (omega arith))
  ]

  -- ---- the conditions that hold, and the last marking

  pub holding : (k p : ℕ) → k ≤ length lines → p < places N → tokens_at (marking k) p ≡ count (holds lines k p) R.conditions
  holding k p h l = omega (arith, balance k p h l, came-holds N R W P lines K k p)

  -- the last marking counts the conditions that no event consumes
  pub last-marking : marking (length lines) ≡ map (λ p. count (is_free p) R.conditions) (up_to (places N))
  last-marking = ext_get_or 0 _ _ (marking-length N (as_steps R lines) _ ∙ sym (length-map (up_to (places N)) _ ∙ Laws.length-up_to (places N))) (λ p h.
      let l : p < places N = omega (arith, marking-length N (as_steps R lines) (length lines)) in
      holding (length lines) p (le_refl (length lines)) l ∙ Laws.count_same _ _ R.conditions (holds-last N R W P lines K p)
      ∙ sym (Laws.get_or-table (λ p. count (is_free p) R.conditions) (places N) p 0 l))

pub one_end : (N : Net) (R : RunRecord) → WellFormed N R → Process N R → (lines others : List (List ℕ)) → KeepsOrder R lines → KeepsOrder R others
    → marking_at N (as_steps R lines) (length lines) ≡ marking_at N (as_steps R others) (length others)
one_end N R W P lines others K L = last-marking N R W P lines K ∙ sym (last-marking N R W P others L)
