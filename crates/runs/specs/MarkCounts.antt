-- The marks of a run: which they are, and how many. Each stands at an event and a condition; it is due there, or the event reads the
-- condition, and then that condition held when the event's step began.
use Rattle.std.specs.Prelude.{◌≡◌, ◌⊎◌, ℕ, ◌+◌, ◌*◌, ◌≤◌, ◌<◌, Bool, ◌&&◌, ◌||◌, cond, get_or, ltb}
use Rattle.std.proofs.Math.Path.{refl, sym, ap, ap₂}
use Rattle.std.proofs.Common.{◌∙◌}
use Rattle.std.proofs.Math.Logic.{inl, inr}
use native.Mathlib.Omega.{arith}
use Rattle.std.proofs.Math.Bool.{true, false, not, and-true, and-false}
use Rattle.std.proofs.Math.Option.{Option, none, some}
use mathlib.Core.List.Memᴰ
use mathlib.Core.List.{List, []}
use Rattle.std.proofs.Math.ListN.{length, get_or-map}
use Rattle.std.proofs.Math.Dec.{eqb}
use borrow.Author.Tests.{eq-eqb, eqb-true, ltb-true, lt-ltb, le-ltb, ltb-false}
use Rattle.spec.specs.Lists.{In, up_to, count, sum_of, as_count}
use Rattle.spec.specs.Net.{Net, places, inhibits, reads}
use Rattle.spec.specs.Record.{Condition, Mark, no_condition, condition_at, transition_of, names, is_none, slot_of, guard_slot, read_slot, is_at, due}
use Rattle.spec.specs.Process.{read_in}
use Rattle.spec.specs.Building.{Event, no_event, Run, unmarked, step_of, is_earlier, mark_at, held_in, lowest_held, read_by, read_mark, mark_if, marks_at, marks_of, marks_due, record_of}
use Rattle.spec.specs.declared.MarkKind.TheVariants.{Before, After, Read}
use Rattle.lists.specs.Laws
use Rattle.lists.specs.Grouped.{sum_of-only, count_by}
use Rattle.runs.specs.Course.{named_end}
use Rattle.runs.specs.Built.{fired_by, HeldAt, HeldOf, Good}

abbrev pub condition_of : Run → ℕ → Condition
condition_of r c = get_or r.conditions c no_condition

pub fired : (r : Run) (e : ℕ) → transition_of (unmarked r) e ≡ fired_by r.events e
unfolding no_event
fired r e = get_or-map (λ (v : Event). v.transition) r.events e no_event

-- ---- which they are

-- it is due, and of the kind that the steps say
pub record DueMark (N : Net) (r : Run) (m : Mark) : Type 0 where
  pub event : m.event < length r.events
  pub condition : m.condition < length r.conditions
  pub is_due : due N (unmarked r) m.condition m.event ≡ true
  pub kind : m.kind ≡ cond (is_earlier r.events (condition_of r m.condition).consumer m.event) After Before

-- its event reads the condition
pub record ReadMark (N : Net) (r : Run) (m : Mark) : Type 0 where
  pub event : m.event < length r.events
  pub condition : m.condition < length r.conditions
  pub is_read : read_by N r m.condition m.event ≡ true
  pub kind : m.kind ≡ Read

in-mark_if : {m : Mark} (b : Bool) (x : Mark) → In m (mark_if b x) → (b ≡ true) × (m ≡ x)
unfolding mark_if
in-mark_if true x i = (refl, Memᴰ.eq_of_singleton i)
in-mark_if false x i = absurd (Memᴰ.not-nil i)

module _ (N : Net) (r : Run) where
  pub mark_of : {m : Mark} → In m (marks_due N r) → DueMark N r m ⊎ ReadMark N r m
  unfolding marks_due marks_of marks_at mark_at read_mark
  mark_of {m} i =
      let x = Laws.in-flat-map (marks_of N r) (up_to (length r.events)) i in
      let y = Laws.in-flat-map (marks_at N r x.0) (up_to (length r.conditions)) x.2 in
      let e : x.0 < length r.events = Laws.in-up_to (length r.events) x.1 in
      let c : y.0 < length r.conditions = Laws.in-up_to (length r.conditions) y.1 in
      elim (Memᴰ.append_cases (mark_if (due N (unmarked r) y.0 x.0) (mark_at r x.0 y.0)) y.2) [
        | inl a ↦ let z = in-mark_if _ _ a in inl (rw z.1 (record { event = e; condition = c; is_due = z.0; kind = refl }))
        | inr a ↦ let z = in-mark_if _ _ a in inr (rw z.1 (record { event = e; condition = c; is_read = z.0; kind = refl }))
      ]

  -- ---- how many pass a test

  stands_at : (e c : ℕ) {m : Mark} → In m (marks_at N r e c) → (m.event ≡ e) × (m.condition ≡ c)
  unfolding marks_at mark_at read_mark
  stands_at e c i = elim (Memᴰ.append_cases (mark_if (due N (unmarked r) c e) (mark_at r e c)) i) [
    | inl a ↦ let z = in-mark_if _ _ a in (ap (λ (m : Mark). m.event) z.1, ap (λ (m : Mark). m.condition) z.1)
    | inr a ↦ let z = in-mark_if _ _ a in (ap (λ (m : Mark). m.event) z.1, ap (λ (m : Mark). m.condition) z.1)
  ]

  count-fails : (w : Mark → Bool) (ms : List Mark) → ((m : Mark) → In m ms → w m ≡ true → ⊥) → count w ms ≡ 0
  count-fails w ms h = Laws.count_none w ms (λ m i. elim (Laws.true-or-false (w m)) [ inl t ↦ absurd (h m i t) | inr f ↦ f ])

  -- a test that marks of one event alone pass
  event-only : (w : Mark → Bool) (e : ℕ) → e < length r.events → ((m : Mark) → w m ≡ true → m.event ≡ e)
      → count w (marks_due N r) ≡ sum_of (λ c. count w (marks_at N r e c)) (up_to (length r.conditions))
  unfolding marks_due marks_of
  event-only w e l h =
      Laws.count-flat-map w (marks_of N r) (up_to (length r.events))
      ∙ sum_of-only (λ f. count w (marks_of N r f)) (length r.events) e l (λ f k ne. others f ne)
      ∙ Laws.count-flat-map w (marks_at N r e) (up_to (length r.conditions))
    where
      others : (f : ℕ) → (f ≡ e → ⊥) → count w (marks_of N r f) ≡ 0
      others f ne = count-fails w (marks_of N r f) (λ m i t.
          let y = Laws.in-flat-map (marks_at N r f) (up_to (length r.conditions)) i in ne (sym (stands_at f y.0 y.2).0 ∙ h m t))

  -- and at one condition alone
  both-only : (w : Mark → Bool) (e c : ℕ) → e < length r.events → c < length r.conditions → ((m : Mark) → w m ≡ true → (m.event ≡ e) × (m.condition ≡ c))
      → count w (marks_due N r) ≡ count w (marks_at N r e c)
  both-only w e c l k h =
      event-only w e l (λ m t. (h m t).0)
      ∙ sum_of-only (λ d. count w (marks_at N r e d)) (length r.conditions) c k (λ d i ne.
      count-fails w (marks_at N r e d) (λ m j t. ne (sym (stands_at e d j).1 ∙ (h m t).1)))

  count-if : (w : Mark → Bool) (b : Bool) (m : Mark) → count w (mark_if b m) ≡ as_count (b && w m)
  unfolding mark_if
  count-if w true m = Laws.count-cons w m [] ∙ unfold count in (omega arith)
  count-if w false m = unfold count in (sym (Laws.count-false {b = false} refl))

  -- at an event and a condition: by what the test says of the two marks that may stand there
  count_at : (w : Mark → Bool) (a b : Bool) (e c : ℕ) → w (mark_at r e c) ≡ a → w (read_mark e c) ≡ b
      → count w (marks_at N r e c) ≡ as_count (due N (unmarked r) c e && a) + as_count (read_by N r c e && b)
  unfolding marks_at
  count_at w a b e c p q =
      Laws.count-append w (mark_if (due N (unmarked r) c e) (mark_at r e c)) (mark_if (read_by N r c e) (read_mark e c))
      ∙ ap₂ (λ (x y : ℕ). x + y) (count-if w _ _ ∙ ap (λ z. as_count (due N (unmarked r) c e && z)) p) (count-if w _ _ ∙ ap (λ z. as_count (read_by N r c e && z)) q)

  -- ---- B and A

  guard-slot : (b : Bool) → slot_of (cond b After Before) ≡ guard_slot
  unfolding slot_of
  guard-slot true = refl
  guard-slot false = refl

  -- one mark B or A for each condition and event where it is due, and none where it is not
  pub count-guards : (c e : ℕ) → c < length r.conditions → e < length r.events → count (is_at guard_slot c e) (marks_due N r) ≡ as_count (due N (unmarked r) c e)
  unfolding is_at mark_at read_mark slot_of
  count-guards c e k l =
      both-only (is_at guard_slot c e) e c l k stands
      ∙ count_at (is_at guard_slot c e) true false e c here there
      ∙ rw (and-true (due N (unmarked r) c e), and-false (read_by N r c e)) (omega (arith, Laws.count-false {b = false} refl))
    where
      stands : (m : Mark) → is_at guard_slot c e m ≡ true → (m.event ≡ e) × (m.condition ≡ c)
      stands m t =
          let z = Laws.and-three (eqb (slot_of m.kind) guard_slot) (eqb m.condition c) (eqb m.event e) t in
          (eqb-true _ _ z.2, eqb-true _ _ z.1)

      here : is_at guard_slot c e (mark_at r e c) ≡ true
      here = (rw (guard-slot (is_earlier r.events (condition_of r c).consumer e)) (Laws.true-and (Laws.true-and (eq-eqb 0 0 refl) (eq-eqb c c refl)) (eq-eqb e e refl)))

      there : is_at guard_slot c e (read_mark e c) ≡ false
      there = refl

  -- ---- R

  earlier-is : (o : Option ℕ) (e : ℕ) (g : ℕ) → o ≡ some g → is_earlier r.events o e ≡ ltb (step_of r.events g) (step_of r.events e)
  unfolding is_earlier
  earlier-is o e g q = rw q

  -- what is read held when the step began
  pub held-is : (p e c : ℕ) → held_in r p e c ≡ true → ((condition_of r c).place ≡ p) × HeldAt r.events e (condition_of r c)
  unfolding held_in
  held-is p e c h =
      let k : Condition = condition_of r c in
      let z = Laws.and-three (eqb k.place p) (is_none k.producer || is_earlier r.events k.producer e) (not (is_earlier r.events k.consumer e)) h in (
        eqb-true _ _ z.0,
        (
          λ g q. elim (Laws.or-true (is_none k.producer) (is_earlier r.events k.producer e) z.1) [
            | inl a ↦ Laws.clash a (ap is_none q ∙ unfold is_none in refl)
            | inr a ↦ ltb-true _ _ (sym (earlier-is k.producer e g q) ∙ a)
          ],
          λ f q. ltb-false _ _ (sym (earlier-is k.consumer e f q) ∙ Laws.not-is-true _ z.2),
        ),
      )

  is_held : (p e c : ℕ) → (condition_of r c).place ≡ p → HeldAt r.events e (condition_of r c) → held_in r p e c ≡ true
  unfolding held_in
  is_held p e c q h =
      let k : Condition = condition_of r c in
      Laws.true-and (Laws.true-and (eq-eqb k.place p q) (from k.producer h.0)) (to k.consumer h.1)
    where
      from : (o : Option ℕ) → ((g : ℕ) → o ≡ some g → step_of r.events g < step_of r.events e) → (is_none o || is_earlier r.events o e) ≡ true
      from none h = unfold is_none in refl
      from (some g) h = unfold is_none is_earlier in (lt-ltb _ _ (h g refl))

      to : (o : Option ℕ) → ((f : ℕ) → o ≡ some f → step_of r.events e ≤ step_of r.events f) → not (is_earlier r.events o e) ≡ true
      to none h = unfold is_earlier in refl
      to (some f) h = unfold is_earlier in (ap not (le-ltb _ _ (h f refl)))

  -- the condition that is marked in a place is one of it
  lowest-held : (p e c : ℕ) → names (lowest_held r p e) c ≡ true → (c < length r.conditions) × (held_in r p e c ≡ true)
  unfolding lowest_held
  lowest-held p e c h = Laws.lowest-some (held_in r p e) (length r.conditions) (named_end (lowest_held r p e) c h)

  -- a mark R stands at a condition that held
  pub read_held : {m : Mark} → ReadMark N r m → HeldAt r.events m.event (condition_of r m.condition)
  unfolding read_by
  read_held {m} d =
      let z = Laws.and-true (reads N (condition_of r m.condition).place (transition_of (unmarked r) m.event)) (names (lowest_held r (condition_of r m.condition).place m.event) m.condition) d.is_read in
      (held-is (condition_of r m.condition).place m.event m.condition (lowest-held (condition_of r m.condition).place m.event m.condition z.1).1).1

  module _ (k : ℕ) (G : Good N k r) (e p : ℕ) (l : e < length r.events) (j : p < places N) where
    abbrev t : ℕ
    t = transition_of (unmarked r) e

    -- what event e marks in place p, condition by condition
    one_place : (c : ℕ) → (read_by N r c e && eqb (condition_of r c).place p) ≡ (reads N p t && names (lowest_held r p e) c)
    unfolding read_by
    one_place c = Laws.same_tests _ _ (
      λ h.
          let z = Laws.and-true (read_by N r c e) (eqb (condition_of r c).place p) h in
          let q : (condition_of r c).place ≡ p = eqb-true (condition_of r c).place p z.1 in
          let b : (reads N (condition_of r c).place t && names (lowest_held r (condition_of r c).place e) c) ≡ true = z.0 in
          rw q at b,
      λ h.
          let z = Laws.and-true (reads N p t) (names (lowest_held r p e) c) h in
          let q : (condition_of r c).place ≡ p = (held-is p e c (lowest-held p e c z.1).1).0 in
          let b : read_by N r c e ≡ true = rw q h in
          Laws.true-and b (eq-eqb (condition_of r c).place p q),
    )

    -- where the place is read there is one
    one-read : reads N p t ≡ true → (c : ℕ) × (c < length r.conditions) × (lowest_held r p e ≡ some c)
    unfolding lowest_held
    one-read h =
        let d : HeldOf r.events r.conditions p e = G.readable e p l j (rw fired at h) in
        let i : (i : ℕ) × (i < length r.conditions) × (condition_of r i ≡ d.0) = Laws.in-at no_condition d.0 r.conditions d.1 in
        let x = Laws.some-lowest (held_in r p e) (length r.conditions) i.1 (is_held p e i.0 (rw i.2 d.2) (rw i.2 d.3)) in
        (x.0, (Laws.lowest-some (held_in r p e) (length r.conditions) x.1).0, x.1)

    pub reads_in : count (λ c. read_by N r c e && eqb (condition_of r c).place p) (up_to (length r.conditions)) ≡ as_count (reads N p t)
    unfolding names
    reads_in = Laws.count_same _ _ (up_to (length r.conditions)) (λ c m. one_place c) ∙ elim (Laws.true-or-false (reads N p t)) [
      | inl h ↦
          let x = one-read h in
          rw (h, x.2) (Laws.count-up_to x.0 (length r.conditions) x.1 ∙ sym (Laws.count-true {b = true} refl))
      | inr h ↦ rw h (Laws.count_none _ (up_to (length r.conditions)) (λ c m. refl) ∙ sym (Laws.count-false {b = false} refl))
    ]

    -- one mark R of an event in each place that its transition reads, and no other
    pub count-readings : count (read_in (record_of N r) e p) (marks_due N r) ≡ as_count (reads N p t)
    unfolding read_in mark_at read_mark record_of slot_of
    count-readings =
        event-only (read_in (record_of N r) e p) e l stands
        ∙ Laws.sum_of-same _ (λ c. as_count (read_by N r c e && eqb (condition_of r c).place p)) (up_to (length r.conditions)) (λ c m.
        count_at (read_in (record_of N r) e p) false (eqb (condition_of r c).place p) e c (here c) (there c)
        ∙ rw (and-false (due N (unmarked r) c e)) (omega (arith, Laws.count-false {b = false} refl)))
        ∙ sym (Laws.count-sum _ (up_to (length r.conditions)))
        ∙ reads_in
      where
        stands : (m : Mark) → read_in (record_of N r) e p m ≡ true → m.event ≡ e
        stands m h = eqb-true _ _ (Laws.and-three (eqb (slot_of m.kind) read_slot) (eqb m.event e) (eqb (condition_at (record_of N r) m.condition).place p) h).1

        here : (c : ℕ) → read_in (record_of N r) e p (mark_at r e c) ≡ false
        here c = rw (guard-slot (is_earlier r.events (condition_of r c).consumer e))

        there : (c : ℕ) → read_in (record_of N r) e p (read_mark e c) ≡ eqb (condition_of r c).place p
        there c = rw (eq-eqb e e refl)

-- ---- how many there are

-- a mark B or A is due at the condition for event e, whose transition is t
unfoldable pub due_for : Net → ℕ → ℕ → Condition → Bool
due_for n e t c = inhibits n c.place t && not (names c.producer e)

-- how many places transition t reads
unfoldable pub reads_of : Net → ℕ → ℕ
reads_of n t = sum_of (λ p. as_count (reads n p t)) (up_to (places n))

module _ (N : Net) (k : ℕ) (r : Run) (G : Good N k r) where
  due-listed : (e : ℕ) → count (λ c. due N (unmarked r) c e) (up_to (length r.conditions)) ≡ count (due_for N e (fired_by r.events e)) r.conditions
  unfolding due due_for
  due-listed e =
      Laws.count_same _ (λ c. due_for N e (fired_by r.events e) (condition_of r c)) (up_to (length r.conditions)) (λ c m. ap (λ t. inhibits N (condition_of r c).place t && not (names (condition_of r c).producer e)) (fired r e))
      ∙ sym (Laws.count_map (due_for N e (fired_by r.events e)) (condition_of r) (up_to (length r.conditions)))
      ∙ ap (count (due_for N e (fired_by r.events e))) (sym (Laws.tabled no_condition r.conditions))

  -- an event has as many marks R as its transition reads places
  reads-counted : (e : ℕ) → e < length r.events → count (λ c. read_by N r c e) (up_to (length r.conditions)) ≡ reads_of N (fired_by r.events e)
  unfolding reads_of as_count
  reads-counted e l =
      count_by (λ c. (condition_of r c).place) (λ p. true) (λ c. read_by N r c e) (places N) (up_to (length r.conditions)) (λ c m.
      (G.sound (condition_of r c) (Laws.at_in no_condition r.conditions c (Laws.in-up_to (length r.conditions) m))).placed)
      ∙ Laws.sum_of-same _ _ (up_to (places N)) (λ p m.
      one-times _
      ∙ Laws.count_same _ _ (up_to (length r.conditions)) (λ c i. swapped (eqb (condition_of r c).place p) (read_by N r c e))
      ∙ reads_in N r k G e p l (Laws.in-up_to (places N) m)
      ∙ ap (λ t. as_count (reads N p t)) (fired r e))
    where
      one-times : (x : ℕ) → 1 * x ≡ x
      one-times x = omega arith

      swapped : (a b : Bool) → (a && b) ≡ (b && a)
      swapped true b = sym (and-true b)
      swapped false b = sym (and-false b)

  marks-at : (e c : ℕ) → length (marks_at N r e c) ≡ as_count (due N (unmarked r) c e) + as_count (read_by N r c e)
  marks-at e c =
      sym (Laws.count-all (λ m. true) (marks_at N r e c) (λ m i. refl))
      ∙ count_at N r (λ m. true) true true e c refl refl
      ∙ rw (and-true (due N (unmarked r) c e), and-true (read_by N r c e)) refl

  -- the marks of a run, event by event: those that are due, and one for each place that is read
  pub marks-length : length (marks_due N r) ≡ sum_of (λ e. count (due_for N e (fired_by r.events e)) r.conditions + reads_of N (fired_by r.events e)) (up_to (length r.events))
  unfolding marks_due marks_of
  marks-length =
      Laws.length-flat-map (marks_of N r) (up_to (length r.events))
      ∙ Laws.sum_of-same _ _ (up_to (length r.events)) (λ e m.
      Laws.length-flat-map (marks_at N r e) (up_to (length r.conditions))
      ∙ Laws.sum_of-same _ _ (up_to (length r.conditions)) (λ c i. marks-at e c)
      ∙ Laws.sum_of-add (λ c. as_count (due N (unmarked r) c e)) (λ c. as_count (read_by N r c e)) (up_to (length r.conditions))
      ∙ ap₂ (λ (x y : ℕ). x + y)
      (sym (Laws.count-sum (λ c. due N (unmarked r) c e) (up_to (length r.conditions))) ∙ due-listed e)
      (sym (Laws.count-sum (λ c. read_by N r c e) (up_to (length r.conditions))) ∙ reads-counted e (Laws.in-up_to (length r.events) m)))
