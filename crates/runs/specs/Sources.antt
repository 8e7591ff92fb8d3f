-- Which conditions and marks make the pairs of a record; in a well-formed record they stand between its events.
use Rattle.std.specs.Prelude.{◌≡◌, refl, ℕ, ◌<◌, Bool, true, false, map, length}
use Rattle.std.proofs.Common.{sym, ap, ◌∙◌, inl, inr, ltb-true}
use Rattle.std.proofs.Math.Option.{Option, none, some}
use mathlib.Core.List.Memᴰ
use Rattle.spec.specs.Lists.{In, flat}
use Rattle.spec.specs.Net.{Net}
use Rattle.spec.specs.Record.{RunRecord, Condition, Mark, condition_at, no_condition}
use Rattle.spec.specs.Order.{Pair, pair_of, condition_pair, mark_pair_of, mark_pair, pairs}
use Rattle.spec.specs.Process.{WellFormed, is_below}
use Rattle.spec.specs.declared.MarkKind.{MarkKind}
use Rattle.spec.specs.declared.MarkKind.TheVariants.{Before, After, Read}
use Rattle.lists.specs.Laws
use Rattle.runs.specs.Pairs.{Bounded}

abbrev pub between : ℕ → ℕ → Bool → Pair
between e f s = record { source = e; target = f; strict = s }

-- ---- the pair of a condition, of a mark B and of a mark A, and the two of a mark R

module _ (R : RunRecord) where
  pub condition-pair : {c : Condition} → In c R.conditions → {e f : ℕ} → c.producer ≡ some e → c.consumer ≡ some f → In (between e f true) (pairs R)
  unfolding pairs condition_pair pair_of
  condition-pair i p q = Memᴰ.append_left _ (Laws.flat-map-in condition_pair R.conditions i (rw (p, q) Laws.here))

  mark-pair : {m : Mark} {q : Pair} → In m R.marks → In q (mark_pair R m) → In q (pairs R)
  unfolding pairs
  mark-pair i j = Memᴰ.append_right (flat (map condition_pair R.conditions)) (Laws.flat-map-in (mark_pair R) R.marks i j)

  pub before-pair : {m : Mark} → In m R.marks → m.kind ≡ Before → {g : ℕ} → (condition_at R m.condition).producer ≡ some g → In (between m.event g false) (pairs R)
  unfolding mark_pair mark_pair_of pair_of
  before-pair i k p = mark-pair i (rw (k, p) Laws.here)

  pub after-pair : {m : Mark} → In m R.marks → m.kind ≡ After → {f : ℕ} → (condition_at R m.condition).consumer ≡ some f → In (between f m.event true) (pairs R)
  unfolding mark_pair mark_pair_of pair_of
  after-pair i k p = mark-pair i (rw (k, p) Laws.here)

  pub made-read : {m : Mark} → In m R.marks → m.kind ≡ Read → {g : ℕ} → (condition_at R m.condition).producer ≡ some g → In (between g m.event true) (pairs R)
  unfolding mark_pair mark_pair_of pair_of
  made-read i k p = mark-pair i (rw (k, p) Laws.here)

  pub read_taken : {m : Mark} → In m R.marks → m.kind ≡ Read → {f : ℕ} → (condition_at R m.condition).consumer ≡ some f → In (between m.event f false) (pairs R)
  unfolding mark_pair mark_pair_of pair_of
  read_taken {m} i k p = mark-pair i (rw k (Memᴰ.append_right (pair_of (condition_at R m.condition).producer (some m.event) true) (rw p Laws.here)))

-- ---- there are no others: what holds of those holds of every pair

in_pair : (X : Pair → Type 0) {q : Pair} (a d : Option ℕ) (s : Bool) → ((e f : ℕ) → a ≡ some e → d ≡ some f → X (between e f s)) → In q (pair_of a d s) → X q
unfolding pair_of
in_pair X none d s x m = absurd (Memᴰ.not-nil m)
in_pair X (some e) none s x m = absurd (Memᴰ.not-nil m)
in_pair X (some e) (some f) s x m = rw (Memᴰ.eq_of_singleton m) (x e f refl refl)

pub each-pair : (R : RunRecord) (X : Pair → Type 0)
    → ((c : Condition) → In c R.conditions → (e f : ℕ) → c.producer ≡ some e → c.consumer ≡ some f → X (between e f true))
    → ((m : Mark) → In m R.marks → m.kind ≡ Before → (g : ℕ) → (condition_at R m.condition).producer ≡ some g → X (between m.event g false))
    → ((m : Mark) → In m R.marks → m.kind ≡ After → (f : ℕ) → (condition_at R m.condition).consumer ≡ some f → X (between f m.event true))
    → ((m : Mark) → In m R.marks → m.kind ≡ Read → (g : ℕ) → (condition_at R m.condition).producer ≡ some g → X (between g m.event true))
    → ((m : Mark) → In m R.marks → m.kind ≡ Read → (f : ℕ) → (condition_at R m.condition).consumer ≡ some f → X (between m.event f false))
    → (q : Pair) → In q (pairs R) → X q
unfolding pairs condition_pair mark_pair mark_pair_of
each-pair R X x y z u v q i = elim (Memᴰ.append_cases (flat (map condition_pair R.conditions)) i) [
  | inl a ↦
      let r : (c : Condition) × In c R.conditions × In q (condition_pair c) = Laws.in-flat-map condition_pair R.conditions a in
      in_pair X r.0.producer r.0.consumer true (x r.0 r.1) r.2
  | inr a ↦
      let r : (m : Mark) × In m R.marks × In q (mark_pair R m) = Laws.in-flat-map (mark_pair R) R.marks a in
      mark r.0 r.1 r.0.kind refl r.2
]
  where
    mark : (m : Mark) → In m R.marks → (k : MarkKind) → m.kind ≡ k → In q (mark_pair_of k (condition_at R m.condition) (some m.event)) → X q
    mark m i Before k j = in_pair X _ (condition_at R m.condition).producer false (λ e g p r. let s : m.event ≡ e = cc in rw (← s) (y m i k g r)) j
    mark m i After k j = in_pair X (condition_at R m.condition).consumer _ true (λ f e r p. let s : m.event ≡ e = cc in rw (← s) (z m i k f r)) j
    mark m i Read k j = elim (Memᴰ.append_cases (pair_of (condition_at R m.condition).producer (some m.event) true) j) [
      | inl a ↦ in_pair X (condition_at R m.condition).producer _ true (λ g e r p. let s : m.event ≡ e = cc in rw (← s) (u m i k g r)) a
      | inr a ↦ in_pair X _ (condition_at R m.condition).consumer false (λ e f p r. let s : m.event ≡ e = cc in rw (← s) (v m i k f r)) a
    ]

-- ---- well-formed records

below-some : {n f : ℕ} {a : Option ℕ} → is_below n a ≡ true → a ≡ some f → f < n
unfolding is_below
below-some {n} h p = ltb-true _ _ (sym (ap (is_below n) p) ∙ h)

module _ (N : Net) (R : RunRecord) (W : WellFormed N R) where
  pub producer-below : {c : Condition} → In c R.conditions → {e : ℕ} → c.producer ≡ some e → e < length R.events
  producer-below {c} i p = below-some (W.producers c i) p

  pub consumer-below : {c : Condition} → In c R.conditions → {f : ℕ} → c.consumer ≡ some f → f < length R.events
  consumer-below {c} i p = below-some (W.consumers c i) p

  pub marked-in : (m : Mark) → In m R.marks → In (condition_at R m.condition) R.conditions
  marked-in m i = Laws.at_in no_condition R.conditions m.condition (W.conditions m i)

  pub bounded : Bounded (pairs R) (length R.events)
  bounded = each-pair R (λ q. (q.source < length R.events) × (q.target < length R.events))
      (λ c i e f p q. (producer-below i p, consumer-below i q))
      (λ m i k g p. (W.events m i, producer-below (marked-in m i) p))
      (λ m i k f p. (consumer-below (marked-in m i) p, W.events m i))
      (λ m i k g p. (producer-below (marked-in m i) p, W.events m i))
      (λ m i k f p. (W.events m i, consumer-below (marked-in m i) p))
