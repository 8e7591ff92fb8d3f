-- Counts and sums over the numbers below a bound, with one number more at a time.
use Rattle.std.specs.Prelude.{ℕ, ◌+◌, ◌≡◌, Bool, [], ◌∷◌, map}
use Rattle.std.proofs.Common.{add-one, arith}
use Rattle.std.proofs.lemmas.List.{map-append}
use Rattle.spec.specs.Lists.{up_to, count, sum, as_count}
use Rattle.lists.specs.Laws.{up_to-snoc, count-append, count-cons}
use Rattle.lists.specs.Arrays.{sum_more}

pub count_next : (p : ℕ → Bool) (n k r : ℕ) → k ≡ count p (up_to n) → r ≡ as_count (p n) → k + r ≡ count p (up_to (n + 1))
unfolding count
count_next p n k r h q = rw (add-one n, up_to-snoc n) (omega (arith, count-append p (up_to n) (n ∷ []), count-cons p n []))

pub sum-next : (f : ℕ → ℕ) (n k r : ℕ) → k ≡ sum (map f (up_to n)) → r ≡ f n → k + r ≡ sum (map f (up_to (n + 1)))
sum-next f n k r h q = rw (add-one n, up_to-snoc n, map-append f (up_to n) (n ∷ [])) (omega (arith, sum_more (map f (up_to n)) (f n)))
