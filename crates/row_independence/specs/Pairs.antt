-- Independent and synchronous pairs of a relation with the values 0, 1, 2.
use Rattle.std.specs.Prelude.{ℕ, min, Bool, not, ◌&&◌, map, eqb, leb}
use Rattle.spec.specs.Lists.{count, up_to, sum, as_count}
use Rattle.order.specs.Below.{sum_below}

-- e is strictly before f, or not later
unfoldable pub ordered_in : (ℕ → ℕ → ℕ) → ℕ → ℕ → Bool
ordered_in c e f = leb 1 (c e f)

-- two different events, neither strictly before the other, or not later
unfoldable pub independent_in : (ℕ → ℕ → ℕ) → ℕ → ℕ → Bool
independent_in c e f = not (eqb e f) && not (ordered_in c e f) && not (ordered_in c f e)

unfoldable pub independents_below : (ℕ → ℕ → ℕ) → ℕ → ℕ
independents_below c e = count (independent_in c e) (up_to e)

-- each pair is counted once, at its higher event
unfoldable pub independent_pairs : ℕ → (ℕ → ℕ → ℕ) → ℕ
independent_pairs n c = sum (map (independents_below c) (up_to n))

-- 1 if e is strictly before f, or not later, else 0
unfoldable pub ordered : (ℕ → ℕ → ℕ) → ℕ → ℕ → ℕ
ordered c e f = as_count (ordered_in c e f)

-- 1 if each is not later than the other, else 0: the two stand in one step in every arrangement
unfoldable pub synchronous : (ℕ → ℕ → ℕ) → ℕ → ℕ → ℕ
synchronous c e f = min (ordered c e f) (ordered c f e)

-- each pair is counted once, at its higher event
unfoldable pub synchronous_pairs : ℕ → (ℕ → ℕ → ℕ) → ℕ
synchronous_pairs n c = sum_below n (λ e. sum_below e (synchronous c e))
