-- Tests and sums over the elements of a list that a loop meets one after the other.
use Rattle.std.specs.Prelude.{ℕ, ◌+◌, ◌<◌, ◌≡◌, Bool, true, false, ◌||◌, length, get_or, take, drop, ltb}
use Rattle.std.proofs.Math.Path.{refl}
use Rattle.std.proofs.Common.{◌∙◌, zero-add, add-one, arith, take-suc, drop-cons, lt-ltb}
use mathlib.Core.List.{List, [], ◌∷◌, ◌++◌}
use Rattle.spec.specs.Lists.{In, any, every, count, sum_of, as_count}
use Rattle.lists.specs.Laws.{here, there, sum_of-append, count-sum}

-- ---- a list known by its first element and the others

module _ {A : Type 0} (q : A → Bool) {xs ys : List A} {x : A} (e : xs ≡ x ∷ ys) where
  pub any-first : q x ≡ true → any q xs ≡ true
  unfolding any
  any-first h = rw (e, h)

  pub any_next : q x ≡ false → any q ys ≡ any q xs
  unfolding any
  any_next h = rw (e, h)

  pub every-next : q x ≡ true → every q ys ≡ every q xs
  unfolding every
  every-next h = rw (e, h)

  pub every-fails : q x ≡ false → every q xs ≡ false
  unfolding every
  every-fails h = rw (e, h)

pub every-none : {A : Type 0} (q : A → Bool) {xs : List A} → xs ≡ [] → every q xs ≡ true
unfolding every
every-none q e = rw e

pub any-nil : {A : Type 0} (q : A → Bool) {xs : List A} → xs ≡ [] → any q xs ≡ false
unfolding any
any-nil q e = rw e

-- ---- two tests that agree on the elements of a list

module _ {A : Type 0} (f g : A → Bool) where
  pub any-agree : (xs : List A) → ((x : A) → In x xs → f x ≡ g x) → any f xs ≡ any g xs
  unfolding any
  any-agree [] h = refl
  any-agree (x ∷ xs) h = rw (h x here, any-agree xs (λ y m. h y (there m)))

-- a test counted over a list is passed by some element where the sum is not 0
pub some-counted : {A : Type 0} (q : A → Bool) (xs : List A) → ltb 0 (sum_of (λ x. as_count (q x)) xs) ≡ any q xs
unfolding sum_of any as_count
some-counted q [] = refl
some-counted q (x ∷ xs) = go (q x) (some-counted q xs)
  where
    go : (b : Bool) → ltb 0 (sum_of (λ x. as_count (q x)) xs) ≡ any q xs → ltb 0 (as_count b + sum_of (λ x. as_count (q x)) xs) ≡ (b || any q xs)
    go true h = lt-ltb 0 (1 + sum_of (λ x. as_count (q x)) xs) (omega arith)
    go false h = rw (zero-add (sum_of (λ x. as_count (q x)) xs)) h

-- ---- the first elements of a list

module _ {A : Type 0} (d : A) where
  pub take_more : (xs : List A) (i : ℕ) → i < length xs → take (i + 1) xs ≡ take i xs ++ get_or xs i d ∷ []
  take_more xs i h = rw (add-one i) (take-suc xs i d h)

  pub sum_of-more : (f : A → ℕ) (xs : List A) (i : ℕ) → i < length xs → sum_of f (take (i + 1) xs) ≡ sum_of f (take i xs) + f (get_or xs i d)
  unfolding sum_of
  sum_of-more f xs i h = rw (take_more xs i h) (sum_of-append f (take i xs) (get_or xs i d ∷ []) ∙ omega arith)

  pub count-more : (p : A → Bool) (xs : List A) (i : ℕ) → i < length xs → count p (take (i + 1) xs) ≡ count p (take i xs) + as_count (p (get_or xs i d))
  count-more p xs i h = omega (arith, count-sum p (take (i + 1) xs), count-sum p (take i xs), sum_of-more (λ x. as_count (p x)) xs i h)

-- ---- what is left of a list from a position on

pub rest_at : (s : List ℕ) (i : ℕ) → i < length s → drop i s ≡ get_or s i 0 ∷ drop (i + 1) s
rest_at s i h = rw (add-one i) (drop-cons s i 0 h)
