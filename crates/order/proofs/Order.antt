-- Closed orders on the events below n, and the numberings of the events that keep them. A numbering that keeps a relation keeps its closure.
use Rattle.std.specs.Prelude.{◌≡◌, ℕ, ◌≤◌, ◌<◌}
use Rattle.std.proofs.Common.{le_refl, arith}
use Rattle.std.proofs.Math.Decide.{dec_le}
use Rattle.order.specs.Closure.{close}
use Rattle.order.proofs.Closure.{close-trans, close-least}
use Rattle.order.specs.Paths.{Path, one, more}
use Rattle.order.proofs.Paths.{path-from, sound}
use Rattle.order.specs.Order.{Order, Keeps, Acyclic}

-- only the entries below n count
pub order_same : (n : ℕ) (c d : ℕ → ℕ → ℕ) → ((e f : ℕ) → e < n → f < n → c e f ≡ d e f) → Order n d → Order n c
order_same n c d h o = record {
  trans = λ e g f i l j p q. rw (h e g i l, h g f l j, h e f i j) (o.trans e g f i l j (rw (h e g i l) at p) (rw (h g f l j) at q));
  acyclic = λ e l. rw (h e e l l) (o.acyclic e l);
}

pub keeps_same : (n : ℕ) (c : ℕ → ℕ → ℕ) (ρ σ : ℕ → ℕ) → ((e : ℕ) → e < n → σ e ≡ ρ e) → Keeps n c ρ → Keeps n c σ
keeps_same n c ρ σ h k = record {
  strict = λ e f l m s. omega (arith, h e l, h f m, k.strict e f l m s);
  weak = λ e f l m s. omega (arith, h e l, h f m, k.weak e f l m s);
}

-- what keeps an order keeps each part of it
pub keeps-less : (n : ℕ) (c d : ℕ → ℕ → ℕ) (ρ : ℕ → ℕ) → ((e f : ℕ) → c e f ≤ d e f) → Keeps n d ρ → Keeps n c ρ
keeps-less n c d ρ h k = record {
  strict = λ e f l m s. k.strict e f l m (omega (arith, h e f));
  weak = λ e f l m s. k.weak e f l m (omega (arith, h e f));
}

pub closed : (pair : ℕ → ℕ → ℕ) (n : ℕ) → Acyclic pair n → Order n (close pair n)
closed pair n h = record { trans = λ e g f i l j. close-trans pair n e g f l; acyclic = h }

-- ---- a numbering that keeps the pairs keeps the closed order, and then there is no strict cycle

module _ (pair : ℕ → ℕ → ℕ) (n : ℕ) (ρ : ℕ → ℕ) (k : Keeps n pair ρ) where
  pub along : {v e f : ℕ} → Path pair n v e f → (ρ e ≤ ρ f) × (2 ≤ v → ρ e < ρ f)
  along (one {e} {f} a b p) = (k.weak e f a b p, k.strict e f a b)
  along (more {v} {e} {g} {f} a p w) =
      let r : (ρ g ≤ ρ f) × (2 ≤ v → ρ g < ρ f) = along w in
      let m : g < n = path-from pair n w in (
        omega (arith, k.weak e g a m p),
        λ s. elim (dec_le 2 v)
            [ yes h ↦ omega (arith, k.weak e g a m p, r.1 h) | no h ↦ omega (arith, k.strict e g a m (omega arith)) ],
      )

  pub keeps-closed : Keeps n (close pair n) ρ
  keeps-closed = record {
    strict = λ e f l m s. (along (sound pair n n (le_refl n) e f l m (omega arith))).1 s;
    weak = λ e f l m s. (along (sound pair n n (le_refl n) e f l m s)).0;
  }

  pub keeps-acyclic : Acyclic pair n
  keeps-acyclic e l = elim (dec_le 2 (close pair n e e)) [ yes s ↦ absurd (omega (arith, keeps-closed.strict e e l l s)) | no s ↦ omega arith ]

pub closed-keeps : (pair : ℕ → ℕ → ℕ) (n : ℕ) (ρ : ℕ → ℕ) → Keeps n (close pair n) ρ → Keeps n pair ρ
closed-keeps pair n ρ k = keeps-less n pair (close pair n) ρ (close-least pair n) k
