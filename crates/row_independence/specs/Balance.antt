-- How many pairs there are, how many events the rows have, and how many are on loops.
use Prim.Native.Nat.{ℕ}
use Rattle.order.specs.Below.{sum_below}
use Rattle.row_independence.specs.Pairs.{ordered}
use Rattle.row_independence.specs.Ordered.{row_size}

-- of the first k events: how many pairs they are, how many of n events are in their rows, and how many are on loops
unfoldable pub pairs_of : ℕ → ℕ
pairs_of k = sum_below k (λ e. e)

unfoldable pub in_rows : ℕ → ℕ → (ℕ → ℕ → ℕ) → ℕ
in_rows n k c = sum_below k (row_size n c)

unfoldable pub loops_of : ℕ → (ℕ → ℕ → ℕ) → ℕ
loops_of k c = sum_below k (λ e. ordered c e e)
