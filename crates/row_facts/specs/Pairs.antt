-- Strict pairs and loops of a relation with the values 0, 1, 2.
use Rattle.std.specs.Prelude.{ℕ, Bool, leb}

unfoldable pub strict_in : (ℕ → ℕ → ℕ) → ℕ → ℕ → Bool
strict_in c e f = leb 2 (c e f)

-- e is strictly before itself
unfoldable pub on_cycle : (ℕ → ℕ → ℕ) → ℕ → Bool
on_cycle c e = strict_in c e e
