-- Tests and counts over a list by the places of its elements, and the first element that passes a test.
use Rattle.std.specs.Prelude.{ℕ, ◌<◌, ◌≡◌, refl, Bool, true, false, ◌||◌, cond, List, [], ◌∷◌, ◌++◌, map, length, get_or}
use Rattle.std.proofs.Common.{sym, ap, ◌∙◌, arith}
use Rattle.std.proofs.Math.Option.{some}
use mathlib.Core.List.Memᴰ
use Rattle.spec.specs.Lists.{In, any, count, first, up_to}
use Rattle.lists.specs.Laws.{or-false, count_map, count_same, in-up_to, tabled}

-- a count over a list is one over the places in it
pub count-places : {A : Type 0} (d : A) (xs : List A) (n : ℕ) (p : A → Bool) (q : ℕ → Bool) → n ≡ length xs → ((i : ℕ) → i < n → q i ≡ p (get_or xs i d)) → count q (up_to n) ≡ count p xs
count-places d xs n p q e h =
    count_same q (λ i. p (get_or xs i d)) (up_to n) (λ i m. h i (in-up_to n m)) ∙ sym (count_map p (λ i. get_or xs i d) (up_to n))
    ∙ ap (λ (k : ℕ). count p (map (λ i. get_or xs i d) (up_to k))) e ∙ ap (count p) (sym (tabled d xs))

-- some element passes one of two tests
pub any-or : {A : Type 0} (p q : A → Bool) (xs : List A) → any (λ x. p x || q x) xs ≡ (any p xs || any q xs)
unfolding any
any-or p q [] = refl
any-or p q (x ∷ xs) = rw (any-or p q xs) (go (p x) (q x) (any p xs) (any q xs))
  where
    go : (a b c d : Bool) → ((a || b) || (c || d)) ≡ ((a || c) || (b || d))
    go true b c d = refl
    go false true true d = refl
    go false true false d = refl
    go false false c d = refl

-- the first element that passes
pub first_found : {A : Type 0} (p : A → Bool) {x : A} (xs : List A) → first p xs ≡ some x → In x xs × (p x ≡ true)
unfolding first
first_found p [] h = let z : ◌≡◌ {A = ℕ} 0 1 = cc in absurd (omega arith)
first_found p {x} (y ∷ xs) h = go (p y) refl h (λ k. first_found p xs k)
  where
    go : (b : Bool) → p y ≡ b → cond b (some y) (first p xs) ≡ some x → (first p xs ≡ some x → In x xs × (p x ≡ true)) → In x (y ∷ xs) × (p x ≡ true)
    go true q k r = let e : x ≡ y = cc in (Memᴰ.head e, ap p e ∙ q)
    go false q k r = let z = r k in (Memᴰ.tail z.0, z.1)

-- behind elements that do not pass
pub first_past : {A : Type 0} (p : A → Bool) (xs ys : List A) → any p xs ≡ false → first p (xs ++ ys) ≡ first p ys
unfolding any first
first_past p [] ys h = refl
first_past p (x ∷ xs) ys h = let r = or-false (p x) (any p xs) h in rw r.0 (first_past p xs ys r.1)
