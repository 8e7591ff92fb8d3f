-- Marks by slots: B and A share one slot of their condition and event, and R has its own.
use Rattle.std.specs.Prelude.{◌≡◌, refl, ◌⊎◌, ◌↔◌, ℕ, ◌≤◌, Bool, true, false, eqb}
use Rattle.std.proofs.Common.{ap, inl, inr, arith, eq-eqb, eqb-true}
use Rattle.spec.specs.Record.{RunRecord, Mark, condition_at, slot_of, guard_slot, read_slot, is_at}
use Rattle.spec.specs.Process.{read_in}
use Rattle.spec.specs.declared.MarkKind.{MarkKind}
use Rattle.spec.specs.declared.MarkKind.TheVariants.{Before, After, Read}
use Rattle.lists.specs.Laws.{true-or-false, and-three, true-and}

-- ---- the kinds of a slot

pub slots-few : (x : MarkKind) → slot_of x ≤ 1
unfolding slot_of
slots-few Before = omega arith
slots-few After = omega arith
slots-few Read = omega arith

pub guard-kind : (x : MarkKind) → slot_of x ≡ guard_slot → (x ≡ Before) ⊎ (x ≡ After)
unfolding slot_of
guard-kind Before h = inl refl
guard-kind After h = inr refl
guard-kind Read h = absurd (omega arith)

pub read-kind : (x : MarkKind) → slot_of x ≡ read_slot → x ≡ Read
unfolding slot_of
read-kind Before h = absurd (omega arith)
read-kind After h = absurd (omega arith)
read-kind Read h = refl

-- ---- where a mark stands

pub at-is : (s c e : ℕ) (m : Mark) → (is_at s c e m ≡ true) ↔ ((slot_of m.kind ≡ s) × (m.condition ≡ c) × (m.event ≡ e))
unfolding is_at
at-is s c e m = (
  λ h. let z = and-three (eqb (slot_of m.kind) s) (eqb m.condition c) (eqb m.event e) h in (eqb-true _ _ z.0, eqb-true _ _ z.1, eqb-true _ _ z.2),
  λ h. true-and (true-and (eq-eqb _ _ h.0) (eq-eqb _ _ h.1)) (eq-eqb _ _ h.2),
)

pub not_at : (s c e : ℕ) (m : Mark) → (slot_of m.kind ≡ s → m.condition ≡ c → m.event ≡ e → ⊥) → is_at s c e m ≡ false
not_at s c e m h = elim (true-or-false (is_at s c e m)) [ inl a ↦ (let z = (at-is s c e m).0 a in absurd (h z.0 z.1 z.2)) | inr a ↦ a ]

-- the mark's own slot, condition and event
abbrev pub at_own : Mark → Mark → Bool
at_own m = is_at (slot_of m.kind) m.condition m.event

pub at_own_lem : (m : Mark) → at_own m m ≡ true
at_own_lem m = (at-is (slot_of m.kind) m.condition m.event m).1 (refl, refl, refl)

pub reading-is : (R : RunRecord) (e p : ℕ) (m : Mark) → (read_in R e p m ≡ true) ↔ ((slot_of m.kind ≡ read_slot) × (m.event ≡ e) × ((condition_at R m.condition).place ≡ p))
unfolding read_in
reading-is R e p m = (
  λ h.
      let z = and-three (eqb (slot_of m.kind) read_slot) (eqb m.event e) (eqb (condition_at R m.condition).place p) h in
      (eqb-true _ _ z.0, eqb-true _ _ z.1, eqb-true _ _ z.2),
  λ h. true-and (true-and (eq-eqb _ _ h.0) (eq-eqb _ _ h.1)) (eq-eqb _ _ h.2),
)

-- an R mark at a condition is one on a condition of that place
pub at-reading : (R : RunRecord) (c e : ℕ) (m : Mark) → is_at read_slot c e m ≡ true → read_in R e (condition_at R c).place m ≡ true
at-reading R c e m h =
    let z = (at-is read_slot c e m).0 h in
    (reading-is R e (condition_at R c).place m).1 (z.0, z.2, ap (λ (i : ℕ). (condition_at R i).place) z.1)
