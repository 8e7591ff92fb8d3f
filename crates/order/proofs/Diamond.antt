-- The ◇-closure of a relation between n events is its computed closure, and is a stratified order structure exactly when that is acyclic.
use Rattle.std.proofs.Common.{ap, le_refl, arith, eq-eqb, ne_eqb}
use Rattle.std.specs.Prelude.{ℕ, ◌≤◌, ◌<◌, ◌≢◌, ◌↔◌}
use Rattle.std.proofs.Math.Decide.{dec_le, ℕ_discrete}
use Rattle.order.specs.Closure.{close}
use Rattle.order.proofs.Closure.{close-least, close-trans}
use Rattle.order.specs.Paths.{Path, one, more}
use Rattle.order.proofs.Paths.{path-from, sound}
use Rattle.order.specs.Order.{Order, Acyclic}
use Rattle.order.proofs.Order.{closed}
use Rattle.order.specs.Structure.{Composes, StratifiedOrder, Reach, stay, weakly, Before◇, NotLater◇, least-before, least-not_later}
use Rattle.order.specs.Diamond.{Strict, Weak, entry}

-- ---- an acyclic closed order is a stratified order structure

pub order-stratified : (n : ℕ) (c : ℕ → ℕ → ℕ) → Order n c → StratifiedOrder (Strict n c) (λ e f. (e ≢ f) × Weak n c e f)
order-stratified n c o = record {
  C1 = λ e p. omega (arith, p.2, o.acyclic e p.0);
  composes = record {
    C2 = λ e f p. (λ q. omega (arith, p.2, o.acyclic e p.0, ap (c e) q), (p.0, p.1, omega (arith, p.2)));
    C3 = λ e g f p q d. (d, (p.1.0, q.1.1, omega (arith, p.1.2, o.trans e g f p.1.0 p.1.1 q.1.1 p.1.2 q.1.2)));
    C4 = λ e g f p q. (p.1.0, q.1, omega (arith, q.2, o.trans e g f p.1.0 p.1.1 q.1 p.1.2 (omega (arith, q.2))));
    C4' = λ e g f p q. (p.0, q.1.1, omega (arith, p.2, o.trans e g f p.0 p.1 q.1.1 (omega (arith, p.2)) q.1.2));
  };
}

module _ (pair : ℕ → ℕ → ℕ) (n : ℕ) where
  pub stratified-acyclic : StratifiedOrder (Strict n (close pair n)) (λ e f. (e ≢ f) × Weak n (close pair n) e f) ↔ Acyclic pair n
  stratified-acyclic = (
    λ s e l. elim (dec_le 2 (close pair n e e)) [ yes h ↦ absurd (s.C1 e (l, l, h)) | no h ↦ omega arith ],
    λ h. order-stratified n (close pair n) (closed pair n h),
  )

  -- ---- the two closures

  close-composes : Composes (Strict n (close pair n)) (Weak n (close pair n))
  close-composes = record {
    C2 = λ e f p. (p.0, p.1, omega (arith, p.2));
    C3 = λ e g f p q d. (p.0, q.1, omega (arith, p.2, close-trans pair n e g f p.1 p.2 q.2));
    C4 = λ e g f p q. (p.0, q.1, omega (arith, q.2, close-trans pair n e g f p.1 p.2 (omega (arith, q.2))));
    C4' = λ e g f p q. (p.0, q.1, omega (arith, p.2, close-trans pair n e g f p.1 (omega (arith, p.2)) q.2));
  }

  path-reach : {v e f : ℕ} → Path pair n v e f → Reach (Strict n pair) (Weak n pair) e f
  path-reach (one a b p) = weakly (a, b, p) stay
  path-reach (more a p w) = weakly (a, path-from pair n w, p) (path-reach w)

  path-before : {v e f : ℕ} → Path pair n v e f → 2 ≤ v → Before◇ (Strict n pair) (Weak n pair) e f
  path-before (one {e} {f} a b p) s = (e, f, stay, (a, b, s), stay)
  path-before (more {v} {e} {g} {f} a p w) s = elim (dec_le 2 v) [
    | yes h ↦ let r = path-before w h in (r.0, r.1, weakly (a, path-from pair n w, p) r.2, r.3, r.4)
    | no h ↦ (e, g, stay, (a, path-from pair n w, omega arith), path-reach w)
  ]

  strict_in : (e f : ℕ) → Strict n pair e f → Strict n (close pair n) e f
  strict_in e f p = (p.0, p.1, omega (arith, p.2, close-least pair n e f))

  weak-in : (e f : ℕ) → Weak n pair e f → Weak n (close pair n) e f
  weak-in e f p = (p.0, p.1, omega (arith, p.2, close-least pair n e f))

  pub closure-before : (e f : ℕ) → Before◇ (Strict n pair) (Weak n pair) e f ↔ Strict n (close pair n) e f
  closure-before e f = (
    least-before ℕ_discrete (Strict n pair) (Weak n pair) (Strict n (close pair n)) (Weak n (close pair n)) close-composes strict_in weak-in,
    λ p. path-before (sound pair n n (le_refl n) e f p.0 p.1 (omega (arith, p.2))) p.2,
  )

  pub closure-not_later : (e f : ℕ) → NotLater◇ (Strict n pair) (Weak n pair) e f ↔ ((e ≢ f) × Weak n (close pair n) e f)
  closure-not_later e f = (
    λ p. (p.0, least-not_later ℕ_discrete (Strict n pair) (Weak n pair) (Strict n (close pair n)) (Weak n (close pair n)) close-composes strict_in weak-in p),
    λ p. (p.0, path-reach (sound pair n n (le_refl n) e f p.1.0 p.1.1 p.1.2)),
  )

pub entry-strict : (n : ℕ) (c : ℕ → ℕ → ℕ) → Order n c → (e f : ℕ) → e < n → (2 ≤ entry c e f) ↔ (2 ≤ c e f)
unfolding entry
entry-strict n c o e f l = elim (ℕ_discrete e f) [
  | yes q ↦ rw (eq-eqb e f q) (λ h. absurd (omega arith), λ h. absurd (omega (arith, o.acyclic e l, ap (c e) q)))
  | no q ↦ rw (ne_eqb e f q) (λ h. h, λ h. h)
]

pub entry-weak : (c : ℕ → ℕ → ℕ) (e f : ℕ) → (0 < entry c e f) ↔ ((e ≢ f) × (0 < c e f))
unfolding entry
entry-weak c e f = elim (ℕ_discrete e f) [
  | yes q ↦ rw (eq-eqb e f q) (λ h. absurd (omega arith), λ h. absurd (h.0 q))
  | no q ↦ rw (ne_eqb e f q) (λ h. (q, h), λ h. h.1)
]
