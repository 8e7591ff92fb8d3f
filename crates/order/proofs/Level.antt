-- The level of an event: the length, in strict pairs, of the longest chain of the order that ends at it.
use Rattle.std.specs.Prelude.{◌≡◌, refl}
use Rattle.std.proofs.Common.{sym, ap₂, not-suc-le-zero, arith}
use Rattle.std.proofs.Math.Path.{ap}
use Prim.Native.Nat.{ℕ, zero, suc, ◌≤◌, ◌<◌, zero-le}
use Rattle.std.proofs.Math.Nat.{le_refl, le_trans, le_of_eq}
use Rattle.order.specs.Below.{max_below, max-above, max_least, max-attained, max-same, sum_lt, sum_one}
use Rattle.order.specs.Order.{Order, Keeps}
use Rattle.order.specs.Level.{gate, lev_f, lev, predecessors}

-- ---- the gate

pub gate-yes : (a x : ℕ) → 2 ≤ a → gate a x ≡ x
unfolding gate
gate-yes zero x h = omega arith
gate-yes (suc zero) x h = omega arith
gate-yes (suc (suc a)) x h = refl

pub gate-no : (a x : ℕ) → a < 2 → gate a x ≡ 0
unfolding gate
gate-no zero x h = refl
gate-no (suc zero) x h = refl
gate-no (suc (suc a)) x h = omega arith

pub gate-le : (a x y : ℕ) → (2 ≤ a → x ≤ y) → gate a x ≤ y
unfolding gate
gate-le zero x y h = zero-le
gate-le (suc zero) x y h = zero-le
gate-le (suc (suc a)) x y h = h (omega arith)

gate_same : (a x y : ℕ) → (2 ≤ a → x ≡ y) → gate a x ≡ gate a y
unfolding gate
gate_same zero x y h = refl
gate_same (suc zero) x y h = refl
gate_same (suc (suc a)) x y h = h (omega arith)

-- where a gate lets something through, it is open
gate-open : (a x : ℕ) → 0 < gate a x → 2 ≤ a
unfolding gate
gate-open zero x h = absurd (not-suc-le-zero h)
gate-open (suc zero) x h = absurd (not-suc-le-zero h)
gate-open (suc (suc a)) x h = omega arith

-- ---- the levels

module _ (n : ℕ) (c : ℕ → ℕ → ℕ) where
  -- no ρ that keeps the strict order puts an event lower
  lev_f-least : (ρ : ℕ → ℕ) → ((e f : ℕ) → e < n → f < n → 2 ≤ c e f → ρ e < ρ f) → (k e : ℕ) → e < n → lev_f n c k e ≤ ρ e
  unfolding lev_f
  lev_f-least ρ h zero e l = zero-le
  lev_f-least ρ h (suc k) e l =
      max_least n _ (ρ e) (λ g m. gate-le (c g e) _ (ρ e) (λ s. le_trans (omega (arith, lev_f-least ρ h k g m)) (h g e m l s)))

  pub lev-least : (ρ : ℕ → ℕ) → ((e f : ℕ) → e < n → f < n → 2 ≤ c e f → ρ e < ρ f) → (e : ℕ) → e < n → lev n c e ≤ ρ e
  unfolding lev
  lev-least ρ h e l = lev_f-least ρ h _ e l

module _ (n : ℕ) (c : ℕ → ℕ → ℕ) (o : Order n c) where
  -- they grow in number along a strict pair, so n rounds are enough
  pub predecessors-up : (g e : ℕ) → g < n → e < n → 2 ≤ c g e → predecessors n c g < predecessors n c e
  unfolding predecessors
  predecessors-up g e l m s =
      sum_lt n _ _ (λ h k. gate-le (c h g) 1 _ (λ r. le_of_eq (sym (gate-yes (c h e) 1 (omega (arith, o.trans h g e k l m (omega arith) (omega arith)))))))
      g l (omega (arith, gate-no (c g g) 1 (o.acyclic g l), gate-yes (c g e) 1 s))

  pub predecessors-bound : (e : ℕ) → e < n → predecessors n c e < n
  unfolding predecessors
  predecessors-bound e l =
      le_trans (sum_lt n _ (λ g. 1) (λ h k. gate-le (c h e) 1 1 (λ r. le_refl 1)) e l (omega (arith, gate-no (c e e) 1 (o.acyclic e l))))
      (le_of_eq (sum_one n))

  stable : (k e : ℕ) → e < n → predecessors n c e ≤ k → lev_f n c k e ≡ lev_f n c (suc k) e
  unfolding lev_f
  stable zero e l h = omega (arith, max_least n (λ g. gate (c g e) 1) 0 (λ g m. gate-le (c g e) 1 0 (λ s. omega (arith, predecessors-up g e m l s))))
  stable (suc k) e l h =
      max-same n _ _ (λ g m. gate_same (c g e) _ _ (λ s. ap suc (stable k g m (omega (arith, predecessors-up g e m l s)))))

  -- the equation of `lev`
  pub lev-eq : (e : ℕ) → e < n → lev n c e ≡ max_below n (λ g. gate (c g e) (suc (lev n c g)))
  unfolding lev lev_f
  lev-eq e l = stable n e l (omega (arith, predecessors-bound e l))

  pub lev-strict : (e f : ℕ) → e < n → f < n → 2 ≤ c e f → lev n c e < lev n c f
  lev-strict e f l m s = rw (lev-eq f m)
      (le_trans (le_of_eq (sym (gate-yes (c e f) _ s))) (max-above n (λ g. gate (c g f) (suc (lev n c g))) e l))

  lev-weak : (e f : ℕ) → e < n → f < n → 0 < c e f → lev n c e ≤ lev n c f
  lev-weak e f l m s = le_trans (le_of_eq (lev-eq e l))
      (max_least n _ _ (λ g k. gate-le (c g e) _ _ (λ r. lev-strict g f k m (omega (arith, o.trans g e f k l m (omega arith) s)))))

  pub lev-keeps : Keeps n c (lev n c)
  lev-keeps = record { strict = lev-strict; weak = lev-weak }

  pub lev-bound : (e : ℕ) → e < n → lev n c e < n
  lev-bound e l = omega (arith, lev-least n c (predecessors n c) predecessors-up e l, predecessors-bound e l)

  -- no level below an event's is empty
  pub lev-dense : (e k : ℕ) → e < n → lev n c e ≡ suc k → (g : ℕ) × (g < n) × (2 ≤ c g e) × (lev n c g ≡ k)
  lev-dense e k l q =
      let h : ℕ → ℕ = λ g. gate (c g e) (suc (lev n c g)) in
      let r : (g : ℕ) × (g < n) × (h g ≡ max_below n h) = max-attained n h (omega (arith, lev-eq e l)) in
      let s : 2 ≤ c r.0 e = gate-open (c r.0 e) (suc (lev n c r.0)) (omega (arith, lev-eq e l, r.2)) in
      (r.0, r.1, s, omega (arith, lev-eq e l, r.2, gate-yes (c r.0 e) (suc (lev n c r.0)) s))

-- ---- only the entries below n count

pub lev-same : (n : ℕ) (c d : ℕ → ℕ → ℕ) → ((e f : ℕ) → e < n → f < n → c e f ≡ d e f) → (e : ℕ) → e < n → lev n c e ≡ lev n d e
unfolding lev lev_f
lev-same n c d h e l = go n e l
  where
    go : (k e : ℕ) → e < n → lev_f n c k e ≡ lev_f n d k e
    go zero e l = refl
    go (suc k) e l = max-same n _ _ (λ g m. ap₂ (λ (x y : ℕ). gate x (suc y)) (h g e m l) (go k g m))
