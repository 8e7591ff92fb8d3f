-- The ◇-closure of a relation between n events is its computed closure, and is a stratified order structure exactly when that is acyclic.
use Rattle.std.specs.Prelude.{ℕ, ◌≤◌, ◌<◌, cond, eqb}

abbrev pub Strict : ℕ → (ℕ → ℕ → ℕ) → ℕ → ℕ → Type 0
Strict n c e f = (e < n) × (f < n) × (2 ≤ c e f)

abbrev pub Weak : ℕ → (ℕ → ℕ → ℕ) → ℕ → ℕ → Type 0
Weak n c e f = (e < n) × (f < n) × (0 < c e f)

-- ---- the table: an event is not said to be not later than itself

unfoldable pub entry : (ℕ → ℕ → ℕ) → ℕ → ℕ → ℕ
entry c e f = cond (eqb e f) 0 (c e f)
