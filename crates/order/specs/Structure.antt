-- Stratified order structures and the ◇-closure (004, section 2.2): the closure is such a structure exactly when nothing is strictly
-- before itself, and it adds nothing to a structure whose ⊏ is irreflexive.
use Rattle.std.specs.Prelude.{◌≡◌, refl, ◌≢◌, ◌↔◌, ◌⊎◌}
use Rattle.std.proofs.Common.{subst, inl, inr}
use Rattle.std.proofs.Math.Path.{subst⁻¹}

module _ {X : Type 0} (◌≺◌ ◌⊏◌ : X → X → Type 0) where
  infix 4 ◌≺◌ ◌⊏◌
  -- 004's C2 to C4
  pub record Composes : Type 0 where
    pub C2 : (x y : X) → x ≺ y → x ⊏ y
    pub C3 : (x y z : X) → x ⊏ y → y ⊏ z → x ≢ z → x ⊏ z
    pub C4 : (x y z : X) → x ⊏ y → y ≺ z → x ≺ z
    pub C4' : (x y z : X) → x ≺ y → y ⊏ z → x ≺ z

  -- and C1
  pub record StratifiedOrder : Type 0 where
    pub C1 : (x : X) → ¬ (x ≺ x)
    pub composes : Composes

  -- (≺ ∪ ⊏)*
  pub data Reach : X → X → Type 0 where
    stay : {x : X} → Reach x x
    strictly : {x y z : X} → x ≺ y → Reach y z → Reach x z
    weakly : {x y z : X} → x ⊏ y → Reach y z → Reach x z

  -- ≺◇ = (≺ ∪ ⊏)* ∘ ≺ ∘ (≺ ∪ ⊏)*
  abbrev pub Before◇ : X → X → Type 0
  Before◇ x w = (y : X) × (z : X) × Reach x y × (y ≺ z) × Reach z w

  -- ⊏◇ = (≺ ∪ ⊏)* without the identity
  abbrev pub NotLater◇ : X → X → Type 0
  NotLater◇ x y = (x ≢ y) × Reach x y

  pub reach-append : {x y z : X} → Reach x y → Reach y z → Reach x z
  reach-append stay r = r
  reach-append (strictly p q) r = strictly p (reach-append q r)
  reach-append (weakly p q) r = weakly p (reach-append q r)

-- ---- Proposition 1.1

module _ {X : Type 0} (◌≺◌ ◌⊏◌ : X → X → Type 0) where
  closure-composes : ((x : X) → ¬ Before◇ ◌≺◌ ◌⊏◌ x x) → Composes (Before◇ ◌≺◌ ◌⊏◌) (NotLater◇ ◌≺◌ ◌⊏◌)
  closure-composes h = record {
    C2 = λ x y p. (λ e. h y (subst (λ z. Before◇ ◌≺◌ ◌⊏◌ z y) e p), reach-append ◌≺◌ ◌⊏◌ p.2 (strictly p.3 p.4));
    C3 = λ x y z p q d. (d, reach-append ◌≺◌ ◌⊏◌ p.1 q.1);
    C4 = λ x y z p q. (q.0, q.1, reach-append ◌≺◌ ◌⊏◌ p.1 q.2, q.3, q.4);
    C4' = λ x y z p q. (p.0, p.1, p.2, p.3, reach-append ◌≺◌ ◌⊏◌ p.4 q.1);
  }

  pub closure-stratified : StratifiedOrder (Before◇ ◌≺◌ ◌⊏◌) (NotLater◇ ◌≺◌ ◌⊏◌) ↔ ((x : X) → ¬ Before◇ ◌≺◌ ◌⊏◌ x x)
  closure-stratified = (λ s. s.C1, λ h. record { C1 = h; composes = closure-composes h })

-- ---- The closure is in each pair of relations ≪ ⊑ that composes and has ≺ and ⊏ in it.

module _ {X : Type 0} (same? : Discrete X) (◌≺◌ ◌⊏◌ ◌≪◌ ◌⊑◌ : X → X → Type 0) (c : Composes ◌≪◌ ◌⊑◌)
    (strict : (x y : X) → ◌≺◌ x y → ◌≪◌ x y) (weak : (x y : X) → ◌⊏◌ x y → ◌⊑◌ x y) where
  infix 4 ◌≪◌ ◌⊑◌
  link : (x y z : X) → x ⊑ y → (y ≡ z) ⊎ (y ⊑ z) → (x ≡ z) ⊎ (x ⊑ z)
  link x y z p (inl e) = inr (subst (λ w. x ⊑ w) e p)
  link x y z p (inr q) = elim (same? x z) [ yes e ↦ inl e | no d ↦ inr (c.C3 x y z p q d) ]

  pub least-reach : {x y : X} → Reach ◌≺◌ ◌⊏◌ x y → (x ≡ y) ⊎ (x ⊑ y)
  least-reach stay = inl refl
  least-reach (strictly {x} {y} {z} p r) = link x y z (c.C2 x y (strict x y p)) (least-reach r)
  least-reach (weakly {x} {y} {z} p r) = link x y z (weak x y p) (least-reach r)

  before : (x y z : X) → (x ≡ y) ⊎ (x ⊑ y) → y ≪ z → x ≪ z
  before x y z (inl e) q = subst⁻¹ (λ w. w ≪ z) e q
  before x y z (inr p) q = c.C4 x y z p q

  after : (x y z : X) → x ≪ y → (y ≡ z) ⊎ (y ⊑ z) → x ≪ z
  after x y z p (inl e) = subst (λ w. x ≪ w) e p
  after x y z p (inr q) = c.C4' x y z p q

  pub least-before : {x y : X} → Before◇ ◌≺◌ ◌⊏◌ x y → x ≪ y
  least-before {x} {y} p = after x p.1 y (before x p.0 p.1 (least-reach p.2) (strict p.0 p.1 p.3)) (least-reach p.4)

  pub least-not_later : {x y : X} → NotLater◇ ◌≺◌ ◌⊏◌ x y → x ⊑ y
  least-not_later p = elim (least-reach p.1) [ inl e ↦ absurd (p.0 e) | inr q ↦ q ]

-- ---- Proposition 1.2, for an irreflexive ⊏: where x ⊏ x, C1 to C4 may hold, and the closure has no x ⊏ x

module _ {X : Type 0} (same? : Discrete X) (◌≺◌ ◌⊏◌ : X → X → Type 0) (s : StratifiedOrder ◌≺◌ ◌⊏◌) (x y : X) where
  pub same-before : Before◇ ◌≺◌ ◌⊏◌ x y ↔ ◌≺◌ x y
  same-before = (least-before same? ◌≺◌ ◌⊏◌ ◌≺◌ ◌⊏◌ s.composes (λ x y p. p) (λ x y p. p), λ p. (x, y, stay, p, stay))

  pub same-not_later : ¬ (◌⊏◌ y y) → NotLater◇ ◌≺◌ ◌⊏◌ x y ↔ ◌⊏◌ x y
  same-not_later h = (
    least-not_later same? ◌≺◌ ◌⊏◌ ◌≺◌ ◌⊏◌ s.composes (λ x y p. p) (λ x y p. p),
    λ p. (λ e. h (subst (λ z. ◌⊏◌ z y) e p), weakly p stay),
  )
