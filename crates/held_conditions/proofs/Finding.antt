-- What a search over a range says of the first number that passes a test.
use Prim.Native.Nat.{ℕ, ◌≤◌, ◌<◌}
use mathlib.Core.Path.{◌≡◌}
use mathlib.Core.Bool.{Bool, true, false}
use native.Mathlib.Omega.{arith}
use Rattle.std.specs.Prelude.{Option, Some, None, MatchOption}
use Rattle.std.specs.Option.{unwrap_or}
use Rattle.held_conditions.specs.Held.{FirstOf}

-- what a search from a number on finds
pub first-found : (q : ℕ → Bool) {start n r : ℕ} (o : Option ℕ) → start ≤ n
    → MatchOption o ((k : ℕ) → start ≤ k → k < n → q k ≡ false) (λ i. (start ≤ i) × (i < n) × (q i ≡ true) × ((k : ℕ) → start ≤ k → k < i → q k ≡ false))
    → r ≡ unwrap_or o n → FirstOf q start n r
first-found q None l h e = record { from = omega arith; to = omega arith; none = λ j a b. h j a (omega arith); found = λ m. absurd (omega arith) }
first-found q (Some i) l h e = record { from = omega (arith, h.0); to = omega (arith, h.1); none = λ j a b. h.3 j a (omega arith); found = λ m. rw e h.2 }
