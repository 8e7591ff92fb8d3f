-- The level of an event: the length, in strict pairs, of the longest chain of the order that ends at it.
use Prim.Native.Nat.{ℕ, zero, suc}
use Rattle.order.specs.Below.{max_below, sum_below}

-- x where a says strict, else 0
unfoldable pub gate : ℕ → ℕ → ℕ
gate zero x = 0
gate (suc zero) x = 0
gate (suc (suc a)) x = x

-- the level as far as chains of at most k pairs go
unfoldable pub lev_f : ℕ → (ℕ → ℕ → ℕ) → ℕ → ℕ → ℕ
lev_f n c zero e = 0
lev_f n c (suc k) e = max_below n (λ g. gate (c g e) (suc (lev_f n c k g)))

unfoldable pub lev : ℕ → (ℕ → ℕ → ℕ) → ℕ → ℕ
lev n c e = lev_f n c n e

-- how many events are strictly before e
unfoldable pub predecessors : ℕ → (ℕ → ℕ → ℕ) → ℕ → ℕ
predecessors n c e = sum_below n (λ g. gate (c g e) 1)
