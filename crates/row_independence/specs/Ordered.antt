-- How many ordered pairs an event begins.
use Rattle.std.specs.Prelude.{ℕ}
use Rattle.order.specs.Below.{sum_below}
use Rattle.row_independence.specs.Pairs.{ordered}

-- how many of the n events e is not later than
unfoldable pub row_size : ℕ → (ℕ → ℕ → ℕ) → ℕ → ℕ
row_size n c e = sum_below n (ordered c e)
