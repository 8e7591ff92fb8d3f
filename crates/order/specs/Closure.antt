-- The closed order of a relation between events, computed (Warshall, with the loop at the middle event taken in): it is closed.
use Rattle.std.specs.Prelude.{◌≡◌}
use Prim.Native.Nat.{ℕ, zero, suc, ◌≤◌, ◌<◌, max}
use Rattle.order.specs.Join.{join}

-- from e to k, round k or not
unfoldable pub col : (ℕ → ℕ → ℕ) → ℕ → ℕ → ℕ
col c k e = max (c e k) (join (c e k) (c k k))

-- k is let in as a middle event
unfoldable pub step : (ℕ → ℕ → ℕ) → ℕ → ℕ → ℕ → ℕ
step c k e f = max (c e f) (join (col c k e) (c k f))

unfoldable pub close : (ℕ → ℕ → ℕ) → ℕ → ℕ → ℕ → ℕ
close pair zero e f = pair e f
close pair (suc k) e f = step (close pair k) k e f

-- paths from e to g and from g to f are paths from e to f
abbrev pub Through : (ℕ → ℕ → ℕ) → ℕ → Type 0
Through c g = (e f : ℕ) → join (c e g) (c g f) ≤ c e f

-- ---- relations that agree below n

-- the events below n stand to each other alike
abbrev pub Same : ℕ → (ℕ → ℕ → ℕ) → (ℕ → ℕ → ℕ) → Type 0
Same n c d = (e f : ℕ) → e < n → f < n → c e f ≡ d e f
