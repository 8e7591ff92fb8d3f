-- Arcs by slots. An input and a read arc share one slot of their place and transition, an output has another and an
-- inhibitor a third: 14 and 51 together say that an arc's slot is taken. So in a net that is read no slot is taken twice.
use Rattle.std.specs.Prelude.{◌≡◌, ◌⊎◌, ℕ, ◌+◌, ◌≤◌, Bool, true, false, ◌&&◌, ◌||◌, List}
use Rattle.std.proofs.Math.Path.{refl}
use Rattle.std.proofs.Common.{◌∙◌, inl, inr, zero-le}
use native.Mathlib.Omega.{arith}
use Rattle.std.proofs.Math.Dec.{eqb}
use borrow.Author.Tests.{eq-eqb, eqb-true, le-ltb}
use Rattle.spec.specs.Lists.{In, any, count, as_count}
use Rattle.spec.specs.Answer.{gives}
use Rattle.spec.specs.Net.{Net, Arc, arc_kind_code, is_arc, joined, takes, reads, read_and_consumed, with_place, with_transition, with_arc, empty_net, read_net}
use Rattle.spec.specs.NetText.{Declaration, new_place, new_transition, new_arc, weighted_input, weighted_output, declare, Allowed}
use Rattle.spec.specs.declared.ArcKind.{ArcKind}
use Rattle.spec.specs.declared.ArcKind.TheVariants.{Input, Output, Inhibitor, Read}
use Rattle.lists.specs.Laws.{true-or-false, clash, and-three, true-and, or-true, false-or, true-or-l, true-or-r, same_tests, any-in, any_found, any_none, any-count, count-cons, count-either, count_none, count-in, count-true, count-false}
use Rattle.lists.specs.ArcWeights.{weight-none}
use Rattle.runs.specs.NetText.{sound-keeps, net-text}

abbrev pub arc_slot : ArcKind → ℕ
arc_slot Input = 0
arc_slot Output = 1
arc_slot Inhibitor = 2
arc_slot Read = 0

pub slots-few : (x : ArcKind) → arc_slot x ≤ 2
slots-few Input = omega arith
slots-few Output = omega arith
slots-few Inhibitor = omega arith
slots-few Read = omega arith

-- a kind's slot is its code, but for reading, which has the slot of taking
of-slot : (x : ArcKind) → (arc_kind_code x ≡ arc_slot x) ⊎ ((arc_kind_code x ≡ arc_kind_code Read) × (arc_slot x ≡ arc_slot Read))
of-slot Input = inl refl
of-slot Output = inl refl
of-slot Inhibitor = inl refl
of-slot Read = inr (refl, refl)

slot-by-code : (x y : ArcKind) → arc_kind_code x ≡ arc_kind_code y → arc_slot x ≡ arc_slot y
slot-by-code x y e = elim (of-slot x) [
  | inl p ↦ elim (of-slot y) [ inl q ↦ omega arith | inr q ↦ absurd (omega (arith, slots-few x)) ]
  | inr p ↦ elim (of-slot y) [ inl q ↦ absurd (omega (arith, slots-few y)) | inr q ↦ omega arith ]
]

-- the arc stands in slot s of place p and transition t
unfoldable pub in_slot : ℕ → ℕ → ℕ → Arc → Bool
in_slot s p t a = eqb (arc_slot a.kind) s && eqb a.place p && eqb a.transition t

module _ (n : Net) (p t : ℕ) where
  -- an arc of kind y stands there, in the slot of x
  joined-slot : (x y : ArcKind) → arc_slot y ≡ arc_slot x → joined n y p t ≡ true → any (in_slot (arc_slot x) p t) n.arcs ≡ true
  unfolding joined is_arc in_slot
  joined-slot x y s h =
      let r = any_found (is_arc y p t) n.arcs h in
      let z = and-three (eqb (arc_kind_code r.0.kind) (arc_kind_code y)) (eqb r.0.place p) (eqb r.0.transition t) r.2 in
      any-in (in_slot (arc_slot x) p t) r.0 n.arcs r.1 (true-and (true-and (eq-eqb _ _ (slot-by-code r.0.kind y (eqb-true _ _ z.0) ∙ s)) z.1) z.2)

  other-slot : (x : ArcKind) → read_and_consumed n x p t ≡ true → any (in_slot (arc_slot x) p t) n.arcs ≡ true
  unfolding read_and_consumed
  other-slot Input h = joined-slot Input Read refl h
  other-slot Output h = clash h refl
  other-slot Inhibitor h = clash h refl
  other-slot Read h = joined-slot Read Input refl h

  slot-joined : (x : ArcKind) (a : Arc) → In a n.arcs → in_slot (arc_slot x) p t a ≡ true → (joined n x p t || read_and_consumed n x p t) ≡ true
  unfolding in_slot read_and_consumed
  slot-joined x a i h = go x (eqb-true _ _ z.0)
    where
      z : (eqb (arc_slot a.kind) (arc_slot x) ≡ true) × (eqb a.place p ≡ true) × (eqb a.transition t ≡ true)
      z = and-three (eqb (arc_slot a.kind) (arc_slot x)) (eqb a.place p) (eqb a.transition t) h

      named : (y : ArcKind) → arc_kind_code a.kind ≡ arc_kind_code y → joined n y p t ≡ true
      named y e = unfold joined is_arc in (any-in (is_arc y p t) a n.arcs i (true-and (true-and (eq-eqb _ _ e) z.1) z.2))

      go : (x : ArcKind) → arc_slot a.kind ≡ arc_slot x → (joined n x p t || read_and_consumed n x p t) ≡ true
      go Input s = elim (of-slot a.kind) [ inl q ↦ true-or-l _ (named Input (q ∙ s)) | inr q ↦ true-or-r (joined n Input p t) (named Read q.0) ]
      go Output s = elim (of-slot a.kind) [ inl q ↦ true-or-l _ (named Output (q ∙ s)) | inr q ↦ absurd (omega arith) ]
      go Inhibitor s = elim (of-slot a.kind) [ inl q ↦ true-or-l _ (named Inhibitor (q ∙ s)) | inr q ↦ absurd (omega arith) ]
      go Read s = elim (of-slot a.kind) [ inl q ↦ true-or-r (joined n Read p t) (named Input (q ∙ s)) | inr q ↦ true-or-l _ (named Read q.0) ]

  -- the slot of an arc is taken exactly where one of the two refuses the arc
  pub slot-taken : (x : ArcKind) → any (in_slot (arc_slot x) p t) n.arcs ≡ (joined n x p t || read_and_consumed n x p t)
  slot-taken x = same_tests _ _ (
    λ h. let r = any_found (in_slot (arc_slot x) p t) n.arcs h in slot-joined x r.0 r.1 r.2,
    λ h. elim (or-true (joined n x p t) (read_and_consumed n x p t) h) [ inl a ↦ joined-slot x x refl a | inr a ↦ other-slot x a ],
  )

-- ---- no slot is taken twice

abbrev pub SlotsOnce : Net → Type 0
SlotsOnce n = (s p t : ℕ) → count (in_slot s p t) n.arcs ≤ 1

-- one arc more, that neither 14 nor 51 refuses
pub slots-more : (n : Net) (x : ArcKind) (p t w : ℕ) → SlotsOnce n → joined n x p t ≡ false → read_and_consumed n x p t ≡ false → SlotsOnce (with_arc x p t w n)
unfolding with_arc in_slot
slots-more n x p t w h j r s q u =
    let more = count-cons (in_slot s q u) (record { kind = x; place = p; transition = t; weight = w }) n.arcs in
    elim (true-or-false (eqb (arc_slot x) s && eqb p q && eqb t u)) [
      | inl a ↦
          let z = and-three (eqb (arc_slot x) s) (eqb p q) (eqb t u) a in
          let free : any (in_slot s q u) n.arcs ≡ false = rw (← eqb-true (arc_slot x) s z.0, ← eqb-true p q z.1, ← eqb-true t u z.2) (slot-taken n p t x ∙ false-or j r) in
          omega (arith, more, count-true a, count_none (in_slot s q u) n.arcs (any_none (in_slot s q u) n.arcs free))
      | inr a ↦ omega (arith, more, count-false a, h s q u)
    ]

declare-slots : (n : Net) (d : Declaration) → SlotsOnce n → Allowed n d → SlotsOnce (declare n d)
unfolding declare with_place with_transition
declare-slots n (new_place v) h a = h
declare-slots n new_transition h a = h
declare-slots n (new_arc x p t) h a = slots-more n x p t 1 h a.2 a.3
declare-slots n (weighted_input p t w) h a = slots-more n Input p t w h a.0.2 a.0.3
declare-slots n (weighted_output p t w) h a = slots-more n Output p t w h a.0.2 a.0.3

no-slots : SlotsOnce empty_net
unfolding empty_net count
no-slots s p t = zero-le

pub net-slots : (text : List ℕ) (N : Net) → read_net text ≡ gives N → SlotsOnce N
net-slots text N h = let I = net-text text N h in rw I.named (sound-keeps SlotsOnce declare-slots empty_net I.lines no-slots I.sound)

-- so a transition takes nothing from a place that it reads
module _ (n : Net) (once : SlotsOnce n) (p t : ℕ) where
  both-count : (a : Arc) → as_count (in_slot (arc_slot Read) p t a) ≡ as_count (is_arc Input p t a) + as_count (is_arc Read p t a)
  unfolding in_slot is_arc as_count
  both-count a = go a.kind
    where
      go : (x : ArcKind) → as_count (eqb (arc_slot x) (arc_slot Read) && eqb a.place p && eqb a.transition t)
          ≡ as_count (eqb (arc_kind_code x) (arc_kind_code Input) && eqb a.place p && eqb a.transition t) + as_count (eqb (arc_kind_code x) (arc_kind_code Read) && eqb a.place p && eqb a.transition t)
      go Input = omega arith
      go Output = refl
      go Inhibitor = refl
      go Read = omega arith

  pub read-takes-none : reads n p t ≡ true → takes n t p ≡ 0
  unfolding reads takes joined
  read-takes-none h =
      let r = any_found (is_arc Read p t) n.arcs h in
      let some = count-in (is_arc Read p t) r.0 n.arcs r.1 r.2 in
      let both = count-either (is_arc Input p t) (is_arc Read p t) (in_slot (arc_slot Read) p t) n.arcs (λ a i. both-count a) in
      weight-none n Input p t (unfold joined in (any-count (is_arc Input p t) n.arcs ∙ le-ltb 0 (count (is_arc Input p t) n.arcs) (omega (arith, once (arc_slot Read) p t))))
