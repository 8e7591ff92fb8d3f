-- A fraction a / b rounded to a whole number, a tie to the even one (the toolchain's `closest`): no whole number is nearer, and
-- where another is as near, the chosen one is even. By cases: which of the two neighbours was chosen, and where the other number
-- stands. Nothing here is about floats.
use Rattle.std.specs.Prelude.{◌≡◌, ◌⊎◌}
use Prim.Native.Nat.{ℕ, suc, ◌%◌, ◌≤◌}

-- t is as near as q: it is q, or q is even and t the odd number on the other side
abbrev pub Tie : ℕ → ℕ → ℕ → Type 0
Tie w q t = (t ≡ q) ⊎ ((q % 2 ≡ 0) × (t % 2 ≡ 1) × (w ≤ t) × (t ≤ suc w))
