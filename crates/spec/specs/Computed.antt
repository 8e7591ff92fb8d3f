-- That what is computed is what the papers say. The statements are types here; the crate `runs` has a proof of each.
use Rattle.std.specs.Prelude.{◌≡◌, ◌↔◌, ℕ, ◌≤◌, ◌<◌, true, false, List, length, get_or}
use Rattle.spec.specs.Net.{Net}
use Rattle.spec.specs.Step.{EnabledAt, short, inhibited}
use Rattle.spec.specs.Record.{RunRecord}
use Rattle.spec.specs.Order.{StrictlyBefore, NotLater, is_strictly_before, is_not_later}
use Rattle.spec.specs.Process.{Process, WellFormed}
use Rattle.spec.specs.Arranging.{Chain, levels}

-- the level of an event is the number of strict pairs in the longest chain of the closed order that ends at it
pub record LevelIsLongest (R : RunRecord) (e : ℕ) : Type 0 where
  pub attained : Chain R (get_or (levels R) e 0) e
  pub most : (k : ℕ) → Chain R k e → k ≤ get_or (levels R) e 0

pub record Computed : Type 0 where
  -- 24 and 25 are the two halves of "enabled"
  pub enabled : (N : Net) (m step : List ℕ)
      → ((short N m step ≡ false) × (inhibited N m step ≡ false)) ↔ EnabledAt N m step
  -- the computed closed order is that of paths
  pub strict : (N : Net) (R : RunRecord) → WellFormed N R
      → (e f : ℕ) → (is_strictly_before R e f ≡ true) ↔ StrictlyBefore R e f
  pub weak : (N : Net) (R : RunRecord) → WellFormed N R
      → (e f : ℕ) → (is_not_later R e f ≡ true) ↔ NotLater R e f
  -- the computed level of an event is the longest chain that ends at it
  pub longest : (N : Net) (R : RunRecord) → WellFormed N R → Process N R
      → (e : ℕ) → e < length R.events → LevelIsLongest R e
