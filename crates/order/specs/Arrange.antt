-- Every numbering of the events as an arrangement in lines. That of the levels keeps the order, and none that keeps it is shorter.
use Rattle.std.specs.Prelude.{◌≡◌}
use Prim.Native.Nat.{ℕ, suc, ◌-◌, ◌<◌}
use mathlib.Core.List.{List, map}
use Rattle.spec.specs.Lists.{up_to}
use Rattle.spec.specs.Arrangement.{Arrangement, index}
use Rattle.spec.specs.Arranging.{arranged_lines}
use Rattle.order.specs.Below.{max_below}
use Rattle.order.specs.Order.{Keeps}
use Rattle.order.specs.Level.{lev}

-- an arrangement that keeps the order
pub record Kept (n : ℕ) (c : ℕ → ℕ → ℕ) (ls : List (List ℕ)) : Type 0 where
  pub arranged : Arrangement n ls
  pub keeps : Keeps n c (λ e. index e ls)

-- the arrangement that puts event e on line ρ e
unfoldable pub arrange : ℕ → (ℕ → ℕ) → List (List ℕ)
arrange n ρ = arranged_lines (map ρ (up_to n))

-- how many lines it has
unfoldable pub height : ℕ → (ℕ → ℕ) → ℕ
height n ρ = max_below n (λ e. suc (ρ e))

-- below each line in use every line is in use
abbrev pub Dense : ℕ → (ℕ → ℕ) → Type 0
Dense n ρ = (e k : ℕ) → e < n → ρ e ≡ suc k → (g : ℕ) × (g < n) × (ρ g ≡ k)

-- ---- any numbering made dense: its events' levels in the order of its lines

unfoldable pub ord_of : (ℕ → ℕ) → ℕ → ℕ → ℕ
ord_of ρ e f = suc (ρ f) - ρ e

unfoldable pub squeeze : ℕ → (ℕ → ℕ) → ℕ → ℕ
squeeze n ρ = lev n (ord_of ρ)
