-- What a chain over a range finds, in the words of the definitions.
use Rattle.std.proofs.Common.{refl, ℕ, zero, suc, ◌||◌, ◌≡◌, ap, Bool, add-one}
use Rattle.std.specs.List.{list_any, range_with_len}
use Rattle.spec.specs.Lists.{any, from}

-- whether any of n numbers from a on passes a test
pub any_is : (q : ℕ → Bool) (a n : ℕ) → list_any q (range_with_len a n) ≡ any q (from a n)
unfolding any from
any_is q a zero = refl
any_is q a (suc n) = ap (λ b. q a || b) (rw (add-one a) (any_is q (suc a) n))
