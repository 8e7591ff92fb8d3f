-- The computed closure is the order of paths: each path has its value there, and each value there has a path.
use Rattle.std.specs.Prelude.{◌≡◌, ◌↔◌}
use Rattle.std.proofs.Common.{subst, le_refl, arith}
use Prim.Native.Nat.{ℕ, zero, suc, ◌≤◌, ◌<◌, max}
use Rattle.std.proofs.Math.Decide.{dec_le}
use Rattle.order.specs.Join.{join, join-pos}
use Rattle.order.specs.Closure.{col, step, close}
use Rattle.order.proofs.Closure.{close-through, close-least, close-bound}
use Rattle.order.specs.Paths.{Path, one, more}

module _ (pair : ℕ → ℕ → ℕ) (n : ℕ) where
  path-pos : {v e f : ℕ} → Path pair n v e f → 0 < v
  path-pos (one a b p) = p
  path-pos (more a p w) = omega (arith, p)

  pub path-from : {v e f : ℕ} → Path pair n v e f → e < n
  path-from (one a b p) = a
  path-from (more a p w) = a

  pub complete : {v e f : ℕ} → Path pair n v e f → v ≤ close pair n e f
  complete (one {e} {f} a b p) = close-least pair n e f
  complete (more {v} {e} {g} {f} a p w) =
      let q : v ≤ close pair n g f = complete w in
      let p' : pair e g ≤ close pair n e g = close-least pair n e g in
      let z : 0 < v = path-pos w in
      omega (arith, close-through pair n g (path-from w) e f, join-pos (close pair n e g) (close pair n g f) (omega arith) (omega arith))

  path-cast : {u v e f : ℕ} → u ≡ v → Path pair n u e f → Path pair n v e f
  path-cast {e} {f} q p = subst (λ (z : ℕ). Path pair n z e f) q p

  path-append : {u v e g f : ℕ} → Path pair n u e g → Path pair n v g f → Path pair n (max u v) e f
  path-append (one a b p) q = more a p q
  path-append (more a p r) q = path-cast (omega arith) (more a p (path-append r q))

  -- a value comes with a path of that level
  abbrev Has : ℕ → ℕ → ℕ → Type 0
  Has v e f = 0 < v → Path pair n v e f

  has-max : (u v e f : ℕ) → Has u e f → Has v e f → Has (max u v) e f
  has-max u v e f p q h =
      elim (dec_le u v) [ yes l ↦ path-cast (omega arith) (q (omega arith)) | no l ↦ path-cast (omega arith) (p (omega arith)) ]

  has_join : (u v e g f : ℕ) → Has u e g → Has v g f → Has (join u v) e f
  unfolding join
  has_join zero v e g f p q h = absurd (omega arith)
  has_join (suc u) zero e g f p q h = absurd (omega arith)
  has_join (suc u) (suc v) e g f p q h = path-append (p (omega arith)) (q (omega arith))

  pub sound : (k : ℕ) → k ≤ n → (e f : ℕ) → e < n → f < n → Has (close pair k e f) e f
  unfolding close step col
  sound zero l e f a b = one a b
  sound (suc k) l e f a b =
      let r : (e f : ℕ) → e < n → f < n → Has (close pair k e f) e f = sound k (omega arith) in
      has-max _ _ e f (r e f a b) (has_join _ _ e k f (has-max _ _ e k (r e k a l) (has_join _ _ e k k (r e k a l) (r k k l l))) (r k f l b))

-- a strict value is a path with a strict pair
pub strict-is-path : (pair : ℕ → ℕ → ℕ) (n : ℕ) → ((e f : ℕ) → pair e f ≤ 2)
    → (e f : ℕ) → e < n → f < n → (2 ≤ close pair n e f) ↔ Path pair n 2 e f
strict-is-path pair n small e f l m = (
  λ s. path-cast pair n (omega (arith, close-bound pair small n e f)) (sound pair n n (le_refl n) e f l m (omega arith)),
  complete pair n,
)
