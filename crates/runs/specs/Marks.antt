-- The record of a run is well formed and a process, and the step numbers keep its pairs.
use Rattle.std.specs.Prelude.{◌≡◌, refl, ◌⊎◌, ℕ, ◌≤◌, ◌<◌, true, false, not, List}
use Rattle.std.proofs.Common.{sym, ◌∙◌, arith, ltb-true, lt-ltb}
use Rattle.std.proofs.Math.Path.{ap}
use Rattle.std.proofs.Math.Logic.{inl, inr}
use Rattle.std.proofs.Math.Option.{Option, none, some}
use mathlib.Core.List.Memᴰ
use Rattle.std.proofs.Math.ListN.{length, length-map}
use Rattle.spec.specs.Lists.{In}
use Rattle.spec.specs.Net.{Net, takes, makes, inhibits}
use Rattle.spec.specs.Record.{RunRecord, Condition, Mark, no_condition, transition_of, names, is_none, due}
use Rattle.spec.specs.Order.{Pair, pairs}
use Rattle.spec.specs.Process.{Process, WellFormed, is_below, wrong_end}
use Rattle.spec.specs.Building.{Event, Run, unmarked, step_of, is_earlier, marks_due, record_of}
use Rattle.spec.specs.declared.MarkKind.{MarkKind}
use Rattle.spec.specs.declared.MarkKind.TheVariants.{Before, After, Read}
use Rattle.lists.specs.Laws
use Rattle.runs.specs.Pairs.{KeepsPairs, no-cycle}
use Rattle.runs.specs.Sources.{between, each-pair}
use Rattle.runs.specs.Built.{fired_by, ConsumedBefore, ProducedSince, HeldAt, Sound, Good}
use Rattle.runs.specs.MarkCounts.{condition_of, fired as fired-run, DueMark, mark_of, read_held, count-guards, count-readings}

earlier-is : (es : List Event) (e : ℕ) (o : Option ℕ) → is_earlier es o e ≡ true → (f : ℕ) × (o ≡ some f) × (step_of es f < step_of es e)
unfolding is_earlier
earlier-is es e none h = Laws.clash h refl
earlier-is es e (some f) h = (f, refl, ltb-true _ _ h)

is-earlier : (es : List Event) (e : ℕ) (o : Option ℕ) (f : ℕ) → o ≡ some f → step_of es f < step_of es e → is_earlier es o e ≡ true
unfolding is_earlier
is-earlier es e o f q l = rw q (lt-ltb _ _ l)

all-below : (n : ℕ) (o : Option ℕ) → ((e : ℕ) → o ≡ some e → e < n) → is_below n o ≡ true
unfolding is_below
all-below n none h = refl
all-below n (some e) h = lt-ltb e n (h e refl)

-- the steps of a pair's events keep it
abbrev Kept : List Event → Pair → Type 0
Kept es q = (step_of es q.source ≤ step_of es q.target) × (q.strict ≡ true → step_of es q.source < step_of es q.target)

-- a number for each kind
unfoldable kind_number : MarkKind → ℕ
kind_number Before = 0
kind_number After = 1
kind_number Read = 2

module _ (N : Net) (k : ℕ) (r : Run) (G : Good N k r) where
  abbrev R : RunRecord
  R = record_of N r

  abbrev es : List Event
  es = r.events

  pub length-events : length R.events ≡ length es
  unfolding record_of
  length-events = length-map es (λ (v : Event). v.transition)

  fired : (e : ℕ) → transition_of R e ≡ fired_by es e
  unfolding record_of
  fired e = fired-run r e

  sound-at : (c : ℕ) → c < length r.conditions → Sound N es (condition_of r c)
  sound-at c l = G.sound (condition_of r c) (Laws.at_in no_condition r.conditions c l)

  -- A stands where the condition was consumed before, B where it was produced since
  abbrev AfterMark : Mark → Type 0
  AfterMark m = (m.kind ≡ After) × ConsumedBefore es (condition_of r m.condition) m.event

  abbrev BeforeMark : Mark → Type 0
  BeforeMark m = (m.kind ≡ Before) × ProducedSince es (condition_of r m.condition) m.event

  -- R stands where the condition held
  abbrev HeldMark : Mark → Type 0
  HeldMark m = (m.kind ≡ Read) × HeldAt es m.event (condition_of r m.condition)

  due-kind : (m : Mark) → DueMark N r m → AfterMark m ⊎ BeforeMark m
  unfolding due
  due-kind m d =
      let c : Condition = condition_of r m.condition in
      elim (Laws.true-or-false (is_earlier es c.consumer m.event)) [
        | inl a ↦ inl (d.kind ∙ rw a, earlier-is es m.event c.consumer a)
        | inr a ↦ elim ((sound-at m.condition d.condition).clear m.event d.event (rw fired-run at (Laws.and-true (inhibits N c.place (transition_of (unmarked r) m.event)) (not (names c.producer m.event)) d.is_due).0)) [
          | inl z ↦ Laws.clash (is-earlier es m.event c.consumer z.0 z.1 z.2) a
          | inr z ↦ inr (d.kind ∙ rw a, z)
        ]
      ]

  mark-kind : (m : Mark) → In m (marks_due N r) → (AfterMark m ⊎ BeforeMark m) ⊎ HeldMark m
  mark-kind m i = elim (mark_of N r i) [ inl d ↦ inl (due-kind m d) | inr d ↦ inr (d.kind, read_held N r d) ]

  mark-at : (m : Mark) → In m (marks_due N r) → (m.condition < length r.conditions) × (m.event < length es)
  mark-at m i = elim (mark_of N r i) [ inl d ↦ (d.condition, d.event) | inr d ↦ (d.condition, d.event) ]

  pub well-formed : WellFormed N R
  unfolding record_of
  well-formed = record {
    known = λ t m. let z = Memᴰ.of_map (λ (v : Event). v.transition) es m in rw (← z.2) (G.known z.0 z.1);
    placed = λ c m. (G.sound c m).placed;
    producers = λ c m. rw length-events (all-below (length es) c.producer (G.sound c m).producer);
    consumers = λ c m. rw length-events (all-below (length es) c.consumer (G.sound c m).consumer);
    conditions = λ m i. (mark-at m i).0;
    events = λ m i. rw length-events (mark-at m i).1;
  }

  -- ---- the step numbers keep the pairs

  condition-kept : (c : Condition) → In c r.conditions → (g f : ℕ) → c.producer ≡ some g → c.consumer ≡ some f → Kept es (between g f true)
  condition-kept c i g f x y = let l : step_of es g < step_of es f = (G.sound c i).apart g f x y in (omega arith, λ s. l)

  -- a mark is of one kind
  other-kind : {X : Type 0} {a x y : MarkKind} → (kind_number x ≡ kind_number y → ⊥) → a ≡ x → a ≡ y → X
  other-kind n p q = absurd (n (ap kind_number (sym p ∙ q)))

  before-kept : (m : Mark) → In m (marks_due N r) → m.kind ≡ Before → (g : ℕ) → (condition_of r m.condition).producer ≡ some g → Kept es (between m.event g false)
  unfolding kind_number
  before-kept m i k g p = elim (mark-kind m i) [
    | inl (inl a) ↦ other-kind (λ z. omega arith) a.0 k
    | inl (inr a) ↦ let z : a.1.0 ≡ g = cc in (rw (← z) a.1.2, λ s. Laws.clash s refl)
    | inr a ↦ other-kind (λ z. omega arith) a.0 k
  ]

  after_kept : (m : Mark) → In m (marks_due N r) → m.kind ≡ After → (f : ℕ) → (condition_of r m.condition).consumer ≡ some f → Kept es (between f m.event true)
  unfolding kind_number
  after_kept m i k f p = elim (mark-kind m i) [
    | inl (inl a) ↦ let z : a.1.0 ≡ f = cc in rw (← z) (omega (arith, a.1.2), λ s. a.1.2)
    | inl (inr a) ↦ other-kind (λ z. omega arith) a.0 k
    | inr a ↦ other-kind (λ z. omega arith) a.0 k
  ]

  held-mark : (m : Mark) → In m (marks_due N r) → m.kind ≡ Read → HeldAt es m.event (condition_of r m.condition)
  unfolding kind_number
  held-mark m i k = elim (mark-kind m i) [
    | inl (inl a) ↦ other-kind (λ z. omega arith) a.0 k
    | inl (inr a) ↦ other-kind (λ z. omega arith) a.0 k
    | inr a ↦ a.1
  ]

  made_kept : (m : Mark) → In m (marks_due N r) → m.kind ≡ Read → (g : ℕ) → (condition_of r m.condition).producer ≡ some g → Kept es (between g m.event true)
  made_kept m i k g p = let l = (held-mark m i k).0 g p in (omega (arith, l), λ s. l)

  taken-kept : (m : Mark) → In m (marks_due N r) → m.kind ≡ Read → (f : ℕ) → (condition_of r m.condition).consumer ≡ some f → Kept es (between m.event f false)
  taken-kept m i k f p = ((held-mark m i k).1 f p, λ s. Laws.clash s refl)

  pub steps-keep : KeepsPairs (pairs R) (step_of es)
  unfolding record_of
  steps-keep = record { strict = λ q m. (kept q m).1; weak = λ q m. (kept q m).0 }
    where
      kept : (q : Pair) → In q (pairs R) → Kept es q
      kept = each-pair R (Kept es) condition-kept before-kept after_kept made_kept taken-kept

  -- ---- the record is a process

  kinds-right : (m : Mark) → In m (marks_due N r) → wrong_end m.kind (condition_of r m.condition) ≡ false
  unfolding wrong_end is_none
  kinds-right m i = elim (mark-kind m i) [
    | inl (inl a) ↦ rw (a.0, a.1.1)
    | inl (inr a) ↦ rw (a.0, a.1.1)
    | inr a ↦ rw a.0
  ]

  pub process : Process N R
  unfolding record_of due
  process = record {
    initial = G.initial;
    arcs = λ e p l h.
        let i : e < length es = omega (arith, length-events) in
        (G.consumed e p i h ∙ ap (λ t. takes N t p) (sym (fired e)), G.produced e p i h ∙ ap (λ t. makes N t p) (sym (fired e)));
    marks = λ c e h l. count-guards N r c e h (omega (arith, length-events));
    readings = λ e p l h. count-readings N r k G e p (omega (arith, length-events)) h;
    kinds = kinds-right;
    acyclic = no-cycle steps-keep;
  }
