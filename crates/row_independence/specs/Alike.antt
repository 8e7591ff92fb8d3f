-- Events on loops, sorted by the sizes of their rows, so that synchronous events are found in one set.
use Rattle.std.specs.Prelude.{◌≡◌, List, ℕ, ◌+◌, ◌≤◌, ◌<◌}
use Rattle.order.specs.Below.{sum_below}
use Rattle.set_rows.specs.Sorted.{Sorted}
use Rattle.row_independence.specs.Pairs.{ordered, synchronous}
use Rattle.row_independence.specs.Ordered.{row_size}

-- the events below e that are on loops, each in the set of its row's size
abbrev pub ByRows : ℕ → (ℕ → ℕ → ℕ) → ℕ → List ℕ → Type 0
ByRows n c e b = Sorted (λ g. (g < e) × (0 < ordered c g g)) (row_size n c) b

-- the events synchronous with e are counted, and e is sorted with them
pub record Counted (n : ℕ) (c : ℕ → ℕ → ℕ) (e r : ℕ) (b : List ℕ) : Type 0 where
  pub here : r ≡ sum_below e (synchronous c e)
  pub few : r ≤ 128
  pub sorted : ByRows n c (e + 1) b
