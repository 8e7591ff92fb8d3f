-- The closed order of a relation between events, computed (Warshall, with the loop at the middle event taken in): it is closed.
use Rattle.std.specs.Prelude.{refl}
use Rattle.std.proofs.Common.{sym, subst, le_refl, not-suc-le-zero, eq-or-lt_of_le, le_of_suc-le-suc, inl, inr}
use Prim.Native.Nat.{ℕ, zero, suc, ◌≤◌, ◌<◌, max}
use Rattle.std.proofs.Math.Nat.{le_trans, max-le}
use native.Mathlib.Omega.{arith}
use Rattle.order.specs.Join.{join, join-mono, join-idem, join-pos, join-assoc, join-max-l, join-max-r, join-bound}
use Rattle.order.specs.Closure.{col, step, close, Through, Same}

module _ (c : ℕ → ℕ → ℕ) (k : ℕ) where
  col-round : (e : ℕ) → join (col c k e) (c k k) ≤ col c k e
  unfolding col
  col-round e = rw (join-max-l (c e k) (join (c e k) (c k k)) (c k k), join-assoc, join-idem) (omega arith)

  col-before : (e g : ℕ) → Through c g → join (c e g) (col c k g) ≤ col c k e
  unfolding col
  col-before e g h =
      rw (join-max-r (c e g) (c g k) (join (c g k) (c k k)), ← join-assoc (c e g) (c g k) (c k k))
      (omega (arith, h e k, join-mono (h e k) (le_refl (c k k))))

  pub col-self : col c k k ≤ c k k
  unfolding col
  col-self = rw join-idem (omega arith)

  pub round : (e f : ℕ) → join (col c k e) (join (c k k) (c k f)) ≤ join (col c k e) (c k f)
  round e f = rw join-assoc at (join-mono (col-round e) (le_refl (c k f)))

  before : (e g f : ℕ) → Through c g → join (c e g) (join (col c k g) (c k f)) ≤ join (col c k e) (c k f)
  before e g f h = rw join-assoc at (join-mono (col-before e g h) (le_refl (c k f)))

  col-most : (e : ℕ) → c e k ≤ col c k e
  unfolding col
  col-most e = omega arith

  -- k itself
  step-at : Through (step c k) k
  unfolding step
  step-at e f =
      let l : step c k e k ≤ col c k e = omega (arith, col-round e, col-most e) in
      let r : step c k k f ≤ max (c k f) (join (c k k) (c k f)) = omega (arith, join-mono col-self (le_refl (c k f))) in
      le_trans (join-mono l r) (rw join-max-r (omega (arith, round e f)))

  step-keep : (g : ℕ) → Through c g → Through (step c k) g
  unfolding step
  step-keep g h e f =
      let p : join (c k g) (join (col c k g) (c k f)) ≤ join (c k k) (c k f) = le_trans (before k g f h) (join-mono col-self (le_refl (c k f))) in
      simp (join-max-l, join-max-r, join-assoc)
      (omega (arith, h e f, before e g f h, join-mono (le_refl (col c k e)) (h k f), le_trans (join-mono (le_refl (col c k e)) p) (round e f)))

pub close-through : (pair : ℕ → ℕ → ℕ) (n g : ℕ) → g < n → Through (close pair n) g
unfolding close
close-through pair zero g h = absurd (not-suc-le-zero h)
close-through pair (suc k) g h =
    elim (eq-or-lt_of_le (le_of_suc-le-suc h)) [
      | inl e ↦ subst (λ (g : ℕ). Through (step (close pair k) k) g) (sym e) (step-at (close pair k) k)
      | inr l ↦ step-keep (close pair k) k g (close-through pair k g l)
    ]

pub close-least : (pair : ℕ → ℕ → ℕ) (n e f : ℕ) → pair e f ≤ close pair n e f
unfolding close step
close-least pair zero e f = le_refl (pair e f)
close-least pair (suc k) e f = omega (arith, close-least pair k e f)

pub close-trans : (pair : ℕ → ℕ → ℕ) (n e g f : ℕ) → g < n → 0 < close pair n e g → 0 < close pair n g f
    → max (close pair n e g) (close pair n g f) ≤ close pair n e f
close-trans pair n e g f l p q = omega (arith, close-through pair n g l e f, join-pos (close pair n e g) (close pair n g f) p q)

pub close-bound : (pair : ℕ → ℕ → ℕ) → ((e f : ℕ) → pair e f ≤ 2) → (k e f : ℕ) → close pair k e f ≤ 2
unfolding close step col
close-bound pair h zero e f = h e f
close-bound pair h (suc k) e f =
    let r : (e f : ℕ) → close pair k e f ≤ 2 = close-bound pair h k in
    max-le (r e f) (join-bound _ _ (max-le (r e k) (join-bound _ _ (r e k) (r k k))) (r k f))

-- the step reads entries below n only
step_same : (n : ℕ) (c d : ℕ → ℕ → ℕ) (k : ℕ) → k < n → Same n c d → Same n (step c k) (step d k)
unfolding step col
step_same n c d k m h e f l q = rw (h e f l q, h e k l m, h k k m m, h k f m q) refl

pub close-same : (n : ℕ) (c d : ℕ → ℕ → ℕ) → Same n c d → (k : ℕ) → k ≤ n → Same n (close c k) (close d k)
unfolding close
close-same n c d h zero l = h
close-same n c d h (suc k) l = step_same n (close c k) (close d k) k l (close-same n c d h k (omega arith))
