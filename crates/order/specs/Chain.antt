-- The level of an event is the length, in strict pairs, of the longest chain that ends at it, weak pairs allowed; and how it is computed so.
use Rattle.std.specs.Prelude.{Bool, cond}
use Prim.Native.Nat.{ℕ, zero, suc, ◌≤◌, ◌<◌}
use Rattle.order.specs.Below.{max_below}

-- a chain of the order that ends at e, with k strict pairs
pub data Chain (n : ℕ) (c : ℕ → ℕ → ℕ) : ℕ → ℕ → Type 0 where
  alone : {e : ℕ} → e < n → Chain n c 0 e
  weakly : {k g e : ℕ} → Chain n c k g → e < n → 0 < c g e → Chain n c k e
  strictly : {k g e : ℕ} → Chain n c k g → e < n → 2 ≤ c g e → Chain n c (suc k) e

-- ---- computed from two tests: a strict link counts, a weak one does not

unfoldable pub prolong : Bool → Bool → ℕ → ℕ
prolong before not_later k = cond before (suc k) (cond not_later k 0)

-- the strict pairs of the longest chain, of at most k pairs, that ends at e
unfoldable pub chain_f : ℕ → (ℕ → ℕ → Bool) → (ℕ → ℕ → Bool) → ℕ → ℕ → ℕ
chain_f n before not_later zero e = 0
chain_f n before not_later (suc k) e = max_below n (λ g. prolong (before g e) (not_later g e) (chain_f n before not_later k g))
