-- Closed orders on the events below n, and the numberings of the events that keep them. A numbering that keeps a relation keeps its closure.
use Rattle.std.specs.Prelude.{ℕ, ◌≤◌, ◌<◌, max}
use Rattle.order.specs.Closure.{close}

-- A closed order on the events below n, 0 none, 1 not later, 2 strictly before, with no event strictly before itself.
pub record Order (n : ℕ) (c : ℕ → ℕ → ℕ) : Type 0 where
  pub trans : (e g f : ℕ) → e < n → g < n → f < n → 0 < c e g → 0 < c g f → max (c e g) (c g f) ≤ c e f
  pub acyclic : (e : ℕ) → e < n → c e e < 2

-- ρ puts each strict predecessor on an earlier line, and each weak one on no later line
pub record Keeps (n : ℕ) (c : ℕ → ℕ → ℕ) (ρ : ℕ → ℕ) : Type 0 where
  pub strict : (e f : ℕ) → e < n → f < n → 2 ≤ c e f → ρ e < ρ f
  pub weak : (e f : ℕ) → e < n → f < n → 0 < c e f → ρ e ≤ ρ f

-- ---- the closure of a relation

-- no event is strictly before itself
abbrev pub Acyclic : (ℕ → ℕ → ℕ) → ℕ → Type 0
Acyclic pair n = (e : ℕ) → e < n → close pair n e e < 2
