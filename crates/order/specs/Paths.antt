-- The computed closure is the order of paths: each path has its value there, and each value there has a path.
use Prim.Native.Nat.{ℕ, ◌<◌, max}

-- A path of pairs from e to f through events below n; v is the greatest pair on it: 2 if one is strict, else 1.
pub data Path (pair : ℕ → ℕ → ℕ) (n : ℕ) : ℕ → ℕ → ℕ → Type 0 where
  one : {e f : ℕ} → e < n → f < n → 0 < pair e f → Path pair n (pair e f) e f
  more : {v e g f : ℕ} → e < n → 0 < pair e g → Path pair n v g f → Path pair n (max (pair e g) v) e f
