-- The bytes of a record after the stores for one event, one condition, one mark.
use Prim.Native.Nat.{ℕ, ◌+◌, ◌≤◌, ◌<◌, max}
use mathlib.Core.Path.{◌≡◌, refl, sym, ap, ◌∙◌}
use mathlib.Core.Bool.{Bool, true, false, true≢false}
use mathlib.Core.List.{List, [], ◌∷◌, ◌++◌}
use native.Mathlib.Decide.{ℕ_discrete}
use native.Mathlib.Omega.{arith}
use lib.ListN.{length, get_or, set, length-set, length-append, get_or-append}
use lib.Seq.{get_or-set_same, get_or-set_other, get_or-append_seam}
use Rattle.spec.specs.Record.{RunRecord, Condition, Mark, no_condition, condition_at, slot_of, is_at}
use Rattle.spec.specs.Checking.{with_event, with_condition, with_mark}
use Rattle.reach.specs.Rows.{cell_of, Raised}
use Rattle.record_columns.specs.Layout.{event_code, mark_slots, mark_row, kind_code, mark_says, mark_value, HoldsRecord, HoldsMarks}
use Rattle.record_columns.proofs.Marks.{value-append, value-one, says_here, says-away, at_all, at_own_lem, slot-few}

-- a column of bytes, the i-th at pos i, that holds what f says of the elements of a list, with one more in both
column-more : {A : Type 0} (pos : ℕ → ℕ) (f : A → ℕ) (d : A) (b b' : List ℕ) (xs : List A) (x : A) (n : ℕ) → n ≡ length xs
    → ((i : ℕ) → i < n → get_or b' (pos i) 0 ≡ get_or b (pos i) 0) → get_or b' (pos n) 0 ≡ f x
    → ((i : ℕ) → i < n → get_or b (pos i) 0 ≡ f (get_or xs i d)) → (i : ℕ) → i < n + 1 → get_or b' (pos i) 0 ≡ f (get_or (xs ++ x ∷ []) i d)
column-more pos f d b b' xs x n e kept new h i l = elim (ℕ_discrete i n) [
  | yes q ↦ rw (q, new, e, get_or-append_seam xs x [] d)
  | no q ↦ kept i (omega arith) ∙ h i (omega arith) ∙ ap f (sym (get_or-append xs (x ∷ []) d i (omega arith)))
]

-- an index that is none of the three for condition m
abbrev Away : ℕ → ℕ → Type 0
Away m i = (i ≡ 128 + m → ⊥) × (i ≡ 640 + m → ⊥) × (i ≡ 1152 + m → ⊥)

module _ {n m k : ℕ} {b : List ℕ} {R : RunRecord} (h : HoldsRecord n m k b R) where
  -- ---- one event

  module _ (t : ℕ) (u : n < 128) where
    -- what the store leaves
    kept : (i : ℕ) → (i ≡ n → ⊥) → get_or (set b n t) i 0 ≡ get_or b i 0
    kept i = get_or-set_other b n i t 0

    pub event-stored : HoldsRecord (n + 1) m k (set b n t) (with_event t R)
    unfolding with_event
    event-stored = record {
      events = omega (arith, h.events, length-append R.events (t ∷ []));
      conditions = h.conditions;
      marks = h.marks;
      few_events = omega arith;
      few_conditions = h.few_conditions;
      long = omega (arith, h.long, length-set b n t);
      transition = column-more (λ e. e) (λ t. t) 0 b (set b n t) R.events t n h.events (λ e l. kept e (omega arith)) (get_or-set_same b n t 0 (omega (arith, h.long))) h.transition;
      place = λ c l. kept (128 + c) (omega arith) ∙ h.place c l;
      producer = λ c l. kept (640 + c) (omega arith) ∙ h.producer c l;
      consumer = λ c l. kept (1152 + c) (omega arith) ∙ h.consumer c l;
    }

  -- ---- one condition

  module _ (p x y : ℕ) (u : m < 512) where
    abbrev b1 : List ℕ
    b1 = set b (128 + m) p

    abbrev b2 : List ℕ
    b2 = set b1 (640 + m) x

    abbrev b3 : List ℕ
    b3 = set b2 (1152 + m) y

    long1 : 1664 ≤ length b1
    long1 = omega (arith, h.long, length-set b (128 + m) p)

    long2 : 1664 ≤ length b2
    long2 = omega (arith, long1, length-set b1 (640 + m) x)

    -- what the three stores leave
    left : (i : ℕ) → Away m i → get_or b3 i 0 ≡ get_or b i 0
    left i q = get_or-set_other b2 (1152 + m) i y 0 q.2 ∙ get_or-set_other b1 (640 + m) i x 0 q.1 ∙ get_or-set_other b (128 + m) i p 0 q.0

    -- a column from an offset on
    column : (o : ℕ) (f : Condition → ℕ) (c : Condition) → ((i : ℕ) → i < m → Away m (o + i)) → get_or b3 (o + m) 0 ≡ f c
        → ((i : ℕ) → i < m → get_or b (o + i) 0 ≡ f (condition_at R i)) → (i : ℕ) → i < m + 1 → get_or b3 (o + i) 0 ≡ f (get_or (R.conditions ++ c ∷ []) i no_condition)
    column o f c away new = column-more (λ i. o + i) f no_condition b b3 R.conditions c m h.conditions (λ i l. left (o + i) (away i l)) new

    pub condition-stored : (c : Condition) → p ≡ c.place → x ≡ event_code c.producer → y ≡ event_code c.consumer → HoldsRecord n (m + 1) k b3 (with_condition c R)
    unfolding with_condition
    condition-stored c hp hx hy = record {
      events = h.events;
      conditions = omega (arith, h.conditions, length-append R.conditions (c ∷ []));
      marks = h.marks;
      few_events = h.few_events;
      few_conditions = omega arith;
      long = omega (arith, long2, length-set b2 (1152 + m) y);
      transition = λ e l. left e (omega (arith, h.few_events)) ∙ h.transition e l;
      place = column 128 (λ c. c.place) c (λ i l. omega arith)
          (get_or-set_other b2 (1152 + m) (128 + m) y 0 (omega arith) ∙ get_or-set_other b1 (640 + m) (128 + m) x 0 (omega arith) ∙ get_or-set_same b (128 + m) p 0 (omega (arith, h.long)) ∙ hp) h.place;
      producer = column 640 (λ c. event_code c.producer) c (λ i l. omega arith)
          (get_or-set_other b2 (1152 + m) (640 + m) y 0 (omega arith) ∙ get_or-set_same b1 (640 + m) x 0 (omega (arith, long1)) ∙ hx) h.producer;
      consumer = column 1152 (λ c. event_code c.consumer) c (λ i l. omega arith) (get_or-set_same b2 (1152 + m) y 0 (omega (arith, long2)) ∙ hy) h.consumer;
    }

-- ---- one mark

pub mark-counted : {n m k : ℕ} {b : List ℕ} {R : RunRecord} → HoldsRecord n m k b R → (w : Mark) → HoldsRecord n m (k + 1) b (with_mark w R)
unfolding with_mark
mark-counted {R} h w = record {
  events = h.events;
  conditions = h.conditions;
  marks = omega (arith, h.marks, length-append R.marks (w ∷ []));
  few_events = h.few_events;
  few_conditions = h.few_conditions;
  long = h.long;
  transition = h.transition;
  place = h.place;
  producer = h.producer;
  consumer = h.consumer;
}

-- ---- the words

module _ {words : List ℕ} {R : RunRecord} (h : HoldsMarks words R) where
  pub event-marks : (t : ℕ) → HoldsMarks words (with_event t R)
  unfolding with_event
  event-marks t = record { sub = h.sub; cell = h.cell }

  pub condition-marks : (c : Condition) → HoldsMarks words (with_condition c R)
  unfolding with_condition
  condition-marks c = record { sub = h.sub; cell = h.cell }

  -- a mark that is raised in the row of its slot; other slots and conditions have other rows
  pub mark-raised : {words' : List ℕ} (w : Mark) → Raised words (mark_row w.condition (slot_of w.kind)) w.event (kind_code w.kind) words' → HoldsMarks words' (with_mark w R)
  unfolding with_mark
  mark-raised {words'} w r = record {
    sub = λ i. r.sub i (h.sub i);
    cell = λ s c e l. go s c e l (is_at s c e w) refl;
  }
    where
      said : (s c e : ℕ) → mark_value (R.marks ++ w ∷ []) s c e ≡ max (mark_value R.marks s c e) (mark_says w s c e)
      said s c e = value-append R.marks (w ∷ []) s c e ∙ ap (max (mark_value R.marks s c e)) (value-one w s c e)

      go : (s c e : ℕ) → s < mark_slots → (b : Bool) → is_at s c e w ≡ b → cell_of words' (mark_row c s) e ≡ mark_value (R.marks ++ w ∷ []) s c e
      go s c e l true q =
          let p = at_all w s c e q in
          let o = slot_of w.kind in
          rw (← p.0, ← p.1, ← p.2)
          (r.here
          ∙ omega (
            arith,
            h.cell o w.condition w.event (slot-few w.kind),
            said o w.condition w.event,
            says_here w o w.condition w.event (at_own_lem w _ _ _ refl refl refl),
          ))
      go s c e l false q =
          r.other (mark_row c s) e (λ z. true≢false (sym (at_own_lem w s c e (omega (arith, z.0, slot-few w.kind)) (omega (arith, z.0, slot-few w.kind)) z.1) ∙ q))
          ∙ omega (arith, h.cell s c e l, said s c e, says-away w s c e q)
