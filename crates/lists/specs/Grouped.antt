-- The elements of a list counted by a number that each of them has.
use Rattle.std.specs.Prelude.{ℕ, ◌+◌, ◌*◌, ◌<◌, ◌≡◌, refl, Bool, true, false, ◌&&◌, List, [], ◌∷◌, ◌++◌, length}
use Rattle.std.proofs.Math.Path.{sym, ap₂}
use Rattle.std.proofs.Common.{ap, ◌∙◌, inl, inr, mul-one, add-one, arith, eq-eqb, eqb-true}
use Rattle.std.proofs.Math.Bool.{and-true}
use Rattle.std.proofs.Math.Nat.{mul-zero, mul-add}
use Rattle.std.proofs.Math.Dec.{eqb}
use Rattle.spec.specs.Lists.{In, from, up_to, count, sum, sum_of, as_count}
use Rattle.lists.specs.Laws
use Rattle.lists.specs.Laws.{here, there}

pub sum_of-scaled : {A : Type 0} (k : ℕ) (f : A → ℕ) (xs : List A) → sum_of (λ x. k * f x) xs ≡ k * sum_of f xs
unfolding sum_of
sum_of-scaled k f [] = sym (mul-zero k)
sum_of-scaled k f (x ∷ xs) = ap (λ z. k * f x + z) (sum_of-scaled k f xs) ∙ sym (mul-add k (f x) (sum_of f xs))

pub count-and : (a b : Bool) → as_count (a && b) ≡ as_count a * as_count b
unfolding as_count
count-and true b = omega arith
count-and false b = omega arith

-- a sum of which one number below n has a part
pub sum-at : (g : ℕ → ℕ) (a n : ℕ) (b : Bool) → a < n → sum_of (λ p. g p * as_count (eqb a p && b)) (up_to n) ≡ g a * as_count b
sum-at g a n b l =
    Laws.sum_of-same _ (λ p. g a * as_count b * as_count (eqb a p)) (up_to n) (λ p m. only p)
    ∙ sum_of-scaled (g a * as_count b) (λ p. as_count (eqb a p)) (up_to n)
    ∙ ap (λ z. g a * as_count b * z) (sym (Laws.count-sum (eqb a) (up_to n)) ∙ Laws.count-up_to a n l)
    ∙ mul-one (g a * as_count b)
  where
    only : (p : ℕ) → g p * as_count (eqb a p && b) ≡ g a * as_count b * as_count (eqb a p)
    only p = elim (Laws.true-or-false (eqb a p)) [
      | inl e ↦ let q : a ≡ p = eqb-true a p e in rw (e, Laws.count-true {b = true} refl) (ap (λ z. g z * as_count b) (sym q) ∙ sym (mul-one (g a * as_count b)))
      | inr e ↦ rw (e, Laws.count-false {b = false} refl) (mul-zero (g p) ∙ sym (mul-zero (g a * as_count b)))
    ]

-- a sum of which one number below n has all
pub sum_of-only : (f : ℕ → ℕ) (n i : ℕ) → i < n → ((j : ℕ) → j < n → (j ≡ i → ⊥) → f j ≡ 0) → sum_of f (up_to n) ≡ f i
sum_of-only f n i l h =
    Laws.sum_of-same f (λ j. f j * as_count (eqb i j && true)) (up_to n) (λ j m. each j (Laws.in-up_to n m))
    ∙ sum-at f i n true l
    ∙ rw (Laws.count-true {b = true} refl) (mul-one (f i))
  where
    each : (j : ℕ) → j < n → f j ≡ f j * as_count (eqb i j && true)
    each j m = elim (Laws.true-or-false (eqb i j)) [
      | inl e ↦ rw (e, Laws.count-true {b = true} refl) (sym (mul-one (f j)))
      | inr e ↦ rw (e, Laws.count-false {b = false} refl, mul-zero) (h j m (λ z. Laws.clash (eq-eqb i j (sym z)) e))
    ]

module _ {A : Type 0} (f : A → ℕ) (w : ℕ → Bool) (q : A → Bool) (n : ℕ) where
  -- those whose number passes a test, number by number
  pub count_by : (xs : List A) → ((x : A) → In x xs → f x < n)
      → count (λ x. w (f x) && q x) xs ≡ sum_of (λ p. as_count (w p) * count (λ x. eqb (f x) p && q x) xs) (up_to n)
  count_by [] h = unfold count in (sym (Laws.sum_of-zero _ (up_to n) (λ p m. mul-zero (as_count (w p)))))
  count_by (x ∷ xs) h =
      Laws.count-cons (λ x. w (f x) && q x) x xs
      ∙ ap₂ (λ (a b : ℕ). a + b) (count-and (w (f x)) (q x) ∙ sym (sum-at (λ p. as_count (w p)) (f x) n (q x) (h x here))) (count_by xs (λ y m. h y (there m)))
      ∙ sym (Laws.sum_of-add (λ p. as_count (w p) * as_count (eqb (f x) p && q x)) (λ p. as_count (w p) * count (λ x. eqb (f x) p && q x) xs) (up_to n))
      ∙ Laws.sum_of-same _ _ (up_to n) (λ p m. sym (ap (λ z. as_count (w p) * z) (Laws.count-cons (λ x. eqb (f x) p && q x) x xs) ∙ mul-add (as_count (w p)) _ _))

-- all of them, number by number
pub length-by : {A : Type 0} (f : A → ℕ) (n : ℕ) (xs : List A) → ((x : A) → In x xs → f x < n) → length xs ≡ sum_of (λ p. count (λ x. eqb (f x) p) xs) (up_to n)
unfolding as_count
length-by f n xs h =
    sym (Laws.count-all (λ x. true && true) xs (λ x m. refl))
    ∙ count_by f (λ p. true) (λ x. true) n xs h
    ∙ Laws.sum_of-same _ _ (up_to n) (λ p m. one-times _ ∙ Laws.count_same _ _ xs (λ x i. and-true (eqb (f x) p)))
  where
    one-times : (k : ℕ) → 1 * k ≡ k
    one-times k = omega arith

-- ---- sums over the numbers below n

-- one number more
pub sum_of-next : (f : ℕ → ℕ) (n r v : ℕ) → r ≡ sum_of f (up_to n) → v ≡ f n → r + v ≡ sum_of f (up_to (n + 1))
unfolding sum_of
sum_of-next f n r v h e = rw (add-one n, Laws.up_to-snoc n) (omega (arith, Laws.sum_of-append f (up_to n) (n ∷ [])))

pub sum_of-none : (f : ℕ → ℕ) → sum_of f (up_to 0) ≡ 0
unfolding sum_of up_to from
sum_of-none f = refl

pub sum-append : (xs ys : List ℕ) → sum (xs ++ ys) ≡ sum xs + sum ys
unfolding sum
sum-append [] ys = omega arith
sum-append (x ∷ xs) ys = omega (arith, sum-append xs ys)
