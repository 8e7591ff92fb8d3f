-- A well-formed record is a process exactly when it meets none of the refusals 35 to 39.
use Rattle.std.specs.Prelude.{◌≡◌, refl, ◌↔◌, ℕ, ◌≤◌, ◌<◌, Bool, true, false, length, eqb, ltb}
use Rattle.std.proofs.Math.Path.{sym, ap}
use Rattle.std.proofs.Common.{◌∙◌, le_of_eq}
use Rattle.std.proofs.Math.Logic.{inl, inr}
use Rattle.std.proofs.Math.Nat.{le_trans}
use borrow.Author.Tests.{eq-eqb, eqb-true}
use Rattle.spec.specs.Lists.{In, count, as_count, up_to}
use Rattle.spec.specs.Answer.{gives, ◌>>◌, refuse◌at?◌}
use Rattle.spec.specs.Net.{Net, places, takes, makes, reads}
use Rattle.spec.specs.Step.{tokens_at}
use Rattle.spec.specs.Record.{RunRecord, Mark, transition_of, condition_at, guard_slot, is_at, marked, due}
use Rattle.spec.specs.Order.{StrictlyBefore, is_strictly_before}
use Rattle.spec.specs.Process.{Process, WellFormed, initial_in, consumed_in, produced_in, read_in, wrong_end}
use Rattle.spec.specs.Checking.{wrong_initial, wrong_arcs_at, wrong_arcs, agree, wrong_mark_at, wrong_marks, wrong_readings_at, wrong_readings, wrongly_marked, wrong_kind_at, wrong_kind, before_itself, obeys}
use Rattle.lists.specs.Laws
use Rattle.runs.specs.Answers.{of-lowest, of-last}
use Rattle.runs.specs.Pairs.{path-bounded}
use Rattle.runs.specs.Sources.{bounded}
use Rattle.runs.specs.Closure.{strict-is}

-- ---- each rule's test finds nothing exactly where the rule holds

same-is : (a b : Bool) → (agree a b ≡ true) ↔ (a ≡ b)
unfolding agree
same-is true b = (sym, sym)
same-is false true = (λ h. h, λ h. h)
same-is false false = (λ h. refl, λ h. refl)

module _ (N : Net) (R : RunRecord) where
  initial-rule : (p : ℕ) → (wrong_initial N R p ≡ false) ↔ (count (initial_in p) R.conditions ≡ tokens_at N.tokens p)
  unfolding wrong_initial
  initial-rule p = (λ h. eqb-true _ _ (Laws.not-is-false _ h), λ h. rw (eq-eqb _ _ h))

  arcs-rule : (e : ℕ) → (wrong_arcs N R e ≡ false)
      ↔ ((p : ℕ) → p < places N → (count (consumed_in e p) R.conditions ≡ takes N (transition_of R e) p) × (count (produced_in e p) R.conditions ≡ makes N (transition_of R e) p))
  unfolding wrong_arcs wrong_arcs_at
  arcs-rule e = (
    λ h p l. let r = Laws.and-true _ _ (Laws.not-is-false _ (Laws.any_none (wrong_arcs_at N R e) _ h p (Laws.up_to-in (places N) l))) in (eqb-true _ _ r.0, eqb-true _ _ r.1),
    λ h. Laws.none_any _ (up_to (places N)) (λ p m. let r = h p (Laws.in-up_to (places N) m) in rw (eq-eqb _ _ r.0, eq-eqb _ _ r.1)),
  )

  -- where no condition and event are marked twice in a slot, a mark there counts once
  pub mark-count : (s c e : ℕ) (b : Bool) → count (is_at s c e) R.marks ≤ 1 → marked R s c e ≡ b → count (is_at s c e) R.marks ≡ as_count b
  unfolding marked
  mark-count s c e b l h = sym (Laws.pos-count _ l) ∙ ap as_count (sym (Laws.any-count (is_at s c e) R.marks) ∙ h)

  pub count-mark : (s c e : ℕ) (b : Bool) → count (is_at s c e) R.marks ≡ as_count b → marked R s c e ≡ b
  unfolding marked
  count-mark s c e b h = Laws.any-count (is_at s c e) R.marks ∙ ap (ltb 0) h ∙ Laws.count-pos b

  marks-rule : (e : ℕ) → ((c : ℕ) → c < length R.conditions → count (is_at guard_slot c e) R.marks ≤ 1) → (wrong_marks N R e ≡ false)
      ↔ ((c : ℕ) → c < length R.conditions → count (is_at guard_slot c e) R.marks ≡ as_count (due N R c e))
  unfolding wrong_marks wrong_mark_at
  marks-rule e once = (
    λ h c l. mark-count guard_slot c e _ (once c l) ((same-is _ _).0 (Laws.not-is-false _ (Laws.any_none (wrong_mark_at N R e) _ h c (Laws.up_to-in (length R.conditions) l)))),
    λ h. Laws.none_any _ (up_to (length R.conditions)) (λ c m. rw ((same-is _ _).1 (count-mark guard_slot c e _ (h c (Laws.in-up_to (length R.conditions) m))))),
  )

  readings-rule : (e : ℕ) → (wrong_readings N R e ≡ false) ↔ ((p : ℕ) → p < places N → count (read_in R e p) R.marks ≡ as_count (reads N p (transition_of R e)))
  unfolding wrong_readings wrong_readings_at
  readings-rule e = (
    λ h p l. eqb-true _ _ (Laws.not-is-false _ (Laws.any_none (wrong_readings_at N R e) _ h p (Laws.up_to-in (places N) l))),
    λ h. Laws.none_any _ (up_to (places N)) (λ p m. rw (eq-eqb _ _ (h p (Laws.in-up_to (places N) m)))),
  )

  -- 37 is the one rule and the other
  both-rules : (e : ℕ) → (wrongly_marked N R e ≡ false) ↔ ((wrong_marks N R e ≡ false) × (wrong_readings N R e ≡ false))
  unfolding wrongly_marked
  both-rules e = (Laws.or-false (wrong_marks N R e) (wrong_readings N R e), λ h. Laws.false-or h.0 h.1)

  kinds-rule : (e : ℕ) → (wrong_kind R e ≡ false) ↔ ((m : Mark) → In m R.marks → m.event ≡ e → wrong_end m.kind (condition_at R m.condition) ≡ false)
  unfolding wrong_kind wrong_kind_at
  kinds-rule e = (
    λ h m i q. rw (eq-eqb _ _ q) at (Laws.any_none (wrong_kind_at R e) R.marks h m i),
    λ h. Laws.none_any _ R.marks (λ m i. elim (Laws.true-or-false (eqb m.event e)) [ inl a ↦ rw (a, h m i (eqb-true _ _ a)) | inr a ↦ rw a ]),
  )

  order-rule : WellFormed N R → (e : ℕ) → (before_itself R e ≡ false) ↔ ¬ StrictlyBefore R e e
  unfolding before_itself
  order-rule W e = (
    λ h p. Laws.clash ((strict-is N R W e e).1 p) h,
    λ h. elim (Laws.true-or-false (is_strictly_before R e e)) [ inl a ↦ absurd (h ((strict-is N R W e e).0 a)) | inr a ↦ a ],
  )

-- ---- the five rules, each over the whole record

module _ (N : Net) (R : RunRecord) (W : WellFormed N R) where
  pub obeys-process : ((c e : ℕ) → count (is_at guard_slot c e) R.marks ≤ 1) → obeys N R ≡ gives tt → Process N R
  unfolding obeys
  obeys-process once h =
      let h1 = of-lowest 35 _ _ h in
      let h2 = of-lowest 36 _ _ h1.1 in
      let h3 = of-lowest 37 _ _ h2.1 in
      let h4 = of-lowest 38 _ _ h3.1 in
      record {
        initial = λ p l. (initial-rule N R p).0 (Laws.lowest-none _ _ h1.0 p l);
        arcs = λ e p l. (arcs-rule N R e).0 (Laws.lowest-none _ _ h2.0 e l) p;
        marks = λ c e l m. (marks-rule N R e (λ c k. once c e)).0 ((both-rules N R e).0 (Laws.lowest-none _ _ h3.0 e m)).0 c l;
        readings = λ e p l. (readings-rule N R e).0 ((both-rules N R e).0 (Laws.lowest-none _ _ h3.0 e l)).1 p;
        kinds = λ m i. (kinds-rule N R m.event).0 (Laws.lowest-none _ _ h4.0 m.event (W.events m i)) m i refl;
        acyclic = λ e p. (order-rule N R W e).0 (Laws.lowest-none _ _ (of-last 39 _ h4.1) e (path-bounded (bounded N R W) p).0) p;
      }

  pub process-obeys : Process N R → obeys N R ≡ gives tt
  unfolding obeys refuse◌at?◌ ◌>>◌
  process-obeys P = rw (
    Laws.none-lowest (wrong_initial N R) (places N) (λ p l. (initial-rule N R p).1 (P.initial p l)),
    Laws.none-lowest (wrong_arcs N R) (length R.events) (λ e l. (arcs-rule N R e).1 (λ p. P.arcs e p l)),
    Laws.none-lowest (wrongly_marked N R) (length R.events) (λ e l. (both-rules N R e).1 (
      (marks-rule N R e (λ c k. le_trans (le_of_eq (P.marks c e k l)) (Laws.one-le _))).1 (λ c k. P.marks c e k l),
      (readings-rule N R e).1 (λ p. P.readings e p l),
    )),
    Laws.none-lowest (wrong_kind R) (length R.events) (λ e l. (kinds-rule N R e).1 (λ m i q. P.kinds m i)),
    Laws.none-lowest (before_itself R) (length R.events) (λ e l. (order-rule N R W e).1 (P.acyclic e)),
  )
