-- Laws of tests, of counts and sums over lists, and of the numbers below a bound.
use Rattle.std.proofs.Math.Path.{◌≡◌, refl, ap, subst⁻¹}
use Rattle.std.proofs.Common.{sym, ap₂, ◌∙◌, subst, le_refl, le_of_eq, not-suc-le-zero, le_of_suc-le-suc, add-zero, zero-add, suc-add, mul-suc, mul-zero, length-append, ext_get_or, get_or-append-add, take-suc, eq-eqb, ne_eqb, eqb-true, lt-ltb, le-ltb, le-leb, ltb-true, leb-false}
use Rattle.std.specs.Prelude.{◌⊎◌, ◌↔◌, Bool, not, ◌&&◌, ◌||◌, length, get_or, replicate, take, eqb, ltb, leb}
use Rattle.std.proofs.Math.Logic.{inl, inr}
use Prim.Native.Nat.{ℕ, zero, suc, ◌+◌, ◌*◌, ◌≤◌, ◌<◌, max, zero-le}
use Rattle.std.proofs.Math.Decide.{dec_le, ℕ_discrete}
use native.Mathlib.Omega.{arith}
use Rattle.std.proofs.Math.Bool.{true, false, cond}
use Rattle.std.proofs.Math.Option.{Option, none, some, some-injective, none-ne-some}
use mathlib.Core.List.Memᴰ
use mathlib.Core.List.{List, [], ◌∷◌, ◌++◌, map, map-append, append-nil, append_assoc}
use Rattle.std.proofs.Math.ListN.{get_or-append}
use Rattle.std.proofs.Math.Seq.{get_or-append_seam}
use Rattle.std.proofs.lemmas.Bool.{lt-leb}
use Rattle.spec.specs.Lists.{In, from, up_to, any, every, count, keep, first, lowest, sum_of, as_count, flat, greatest, is_in}

abbrev pub here : {A : Type 0} {x : A} {xs : List A} → In x (x ∷ xs)
here = Memᴰ.head refl

abbrev pub there : {A : Type 0} {x y : A} {xs : List A} → In x xs → In x (y ∷ xs)
there m = Memᴰ.tail m

-- ---- Booleans

pub true-or-false : (b : Bool) → (b ≡ true) ⊎ (b ≡ false)
true-or-false true = inl refl
true-or-false false = inr refl

pub clash : {b : Bool} {X : Type 0} → b ≡ true → b ≡ false → X
clash p q = let z : ◌≡◌ {A = ℕ} 0 1 = cc in absurd (omega arith)

pub and-true : (a b : Bool) → (a && b) ≡ true → (a ≡ true) × (b ≡ true)
and-true true b h = (refl, h)
and-true false b h = clash h refl

pub and-three : (a b c : Bool) → (a && b && c) ≡ true → (a ≡ true) × (b ≡ true) × (c ≡ true)
and-three true b c h = let z = and-true b c h in (refl, z.0, z.1)
and-three false b c h = clash h refl

pub and-four : (a b c d : Bool) → (a && b && c && d) ≡ true → (a ≡ true) × (b ≡ true) × (c ≡ true) × (d ≡ true)
and-four true b c d h = let z = and-three b c d h in (refl, z.0, z.1, z.2)
and-four false b c d h = clash h refl

pub and-five : (a b c d e : Bool) → (a && b && c && d && e) ≡ true → (a ≡ true) × (b ≡ true) × (c ≡ true) × (d ≡ true) × (e ≡ true)
and-five true b c d e h = let z = and-four b c d e h in (refl, z.0, z.1, z.2, z.3)
and-five false b c d e h = clash h refl

-- a test that does not pass unless another does
pub and-not : (a b : Bool) → ((a && not b) ≡ false) ↔ (a ≡ true → b ≡ true)
and-not true true = (λ h p. refl, λ h. refl)
and-not true false = (λ h p. sym h, λ h. sym (h refl))
and-not false b = (λ h p. clash p refl, λ h. refl)

pub true-and : {a b : Bool} → a ≡ true → b ≡ true → (a && b) ≡ true
true-and p q = rw (p, q)

pub and_mono : (a : Bool) {b c : Bool} → (b ≡ true → c ≡ true) → (a && b) ≡ true → (a && c) ≡ true
and_mono true h p = h p
and_mono false h p = p

pub or-true : (a b : Bool) → (a || b) ≡ true → (a ≡ true) ⊎ (b ≡ true)
or-true true b h = inl refl
or-true false b h = inr h

pub or-false : (a b : Bool) → (a || b) ≡ false → (a ≡ false) × (b ≡ false)
or-false true b h = clash refl h
or-false false b h = (refl, h)

pub and-false : (a b : Bool) → (a && b) ≡ false → (a ≡ false) ⊎ (b ≡ false)
and-false true b h = inr h
and-false false b h = inl refl

pub false-or : {a b : Bool} → a ≡ false → b ≡ false → (a || b) ≡ false
false-or p q = rw (p, q)

pub true-or-l : {a : Bool} (b : Bool) → a ≡ true → (a || b) ≡ true
true-or-l b p = rw p

pub true-or-r : (a : Bool) {b : Bool} → b ≡ true → (a || b) ≡ true
true-or-r true p = refl
true-or-r false p = p

pub not-is-true : (b : Bool) → not b ≡ true → b ≡ false
not-is-true true h = sym h
not-is-true false h = refl

pub not-is-false : (b : Bool) → not b ≡ false → b ≡ true
not-is-false true h = refl
not-is-false false h = sym h

pub same_tests : (a b : Bool) → ((a ≡ true) ↔ (b ≡ true)) → a ≡ b
same_tests true b h = sym (h.0 refl)
same_tests false true h = h.1 refl
same_tests false false h = refl

pub leb-max : (k a b : ℕ) → leb k (max a b) ≡ (leb k a || leb k b)
leb-max k a b = elim (dec_le k a) [
  | yes l ↦ rw (le-leb k (max a b) (omega arith), le-leb k a l)
  | no l ↦ elim (dec_le k b) [
    | yes m ↦ rw (le-leb k (max a b) (omega arith), lt-leb k a (omega arith), le-leb k b m)
    | no m ↦ rw (lt-leb k (max a b) (omega arith), lt-leb k a (omega arith), lt-leb k b (omega arith))
  ]
]

pub one-le : (b : Bool) → as_count b ≤ 1
unfolding as_count
one-le true = le_refl 1
one-le false = zero-le

pub count-true : {b : Bool} → b ≡ true → as_count b ≡ 1
unfolding as_count
count-true p = rw p

pub count-false : {b : Bool} → b ≡ false → as_count b ≡ 0
unfolding as_count
count-false p = rw p

pub count-implies : (a b : Bool) → (a ≡ true → b ≡ true) → as_count a ≤ as_count b
unfolding as_count
count-implies true b h = rw (h refl) (le_refl 1)
count-implies false b h = zero-le

pub count-pos : (b : Bool) → ltb 0 (as_count b) ≡ b
unfolding as_count
count-pos true = refl
count-pos false = refl

pub pos-count : (x : ℕ) → x ≤ 1 → as_count (ltb 0 x) ≡ x
unfolding as_count
pos-count zero h = refl
pos-count (suc zero) h = refl
pos-count (suc (suc x)) h = absurd (omega arith)

-- ---- sums over lists

module _ {A : Type 0} where
  pub sum_of-append : (f : A → ℕ) (s t : List A) → sum_of f (s ++ t) ≡ sum_of f s + sum_of f t
  unfolding sum_of
  sum_of-append f [] t = omega arith
  sum_of-append f (x ∷ s) t = omega (arith, sum_of-append f s t)

  pub sum_of-same : (f g : A → ℕ) (xs : List A) → ((x : A) → In x xs → f x ≡ g x) → sum_of f xs ≡ sum_of g xs
  unfolding sum_of
  sum_of-same f g [] h = refl
  sum_of-same f g (x ∷ xs) h = omega (arith, h x here, sum_of-same f g xs (λ y m. h y (there m)))

  pub sum_of-le : (f g : A → ℕ) (xs : List A) → ((x : A) → In x xs → f x ≤ g x) → sum_of f xs ≤ sum_of g xs
  unfolding sum_of
  sum_of-le f g [] h = zero-le
  sum_of-le f g (x ∷ xs) h = omega (arith, h x here, sum_of-le f g xs (λ y m. h y (there m)))

  pub sum_of-lt : (f g : A → ℕ) (x : A) (xs : List A) → ((y : A) → In y xs → f y ≤ g y) → In x xs → f x < g x → sum_of f xs < sum_of g xs
  unfolding sum_of
  sum_of-lt f g x (y ∷ xs) h (Memᴰ.head e) l = omega (arith, ap f e, ap g e, sum_of-le f g xs (λ z m. h z (there m)))
  sum_of-lt f g x (y ∷ xs) h (Memᴰ.tail m) l = omega (arith, h y here, sum_of-lt f g x xs (λ z k. h z (there k)) m l)
  sum_of-lt f g x [] h x4 l = elim x4 [ ]

  pub sum_of-zero : (f : A → ℕ) (xs : List A) → ((x : A) → In x xs → f x ≡ 0) → sum_of f xs ≡ 0
  unfolding sum_of
  sum_of-zero f [] h = refl
  sum_of-zero f (x ∷ xs) h = omega (arith, h x here, sum_of-zero f xs (λ y m. h y (there m)))

  pub sum_of-add : (f g : A → ℕ) (xs : List A) → sum_of (λ x. f x + g x) xs ≡ sum_of f xs + sum_of g xs
  unfolding sum_of
  sum_of-add f g [] = refl
  sum_of-add f g (x ∷ xs) = omega (arith, sum_of-add f g xs)

  pub sum_of-one : (xs : List A) → sum_of (λ x. 1) xs ≡ length xs
  unfolding sum_of
  sum_of-one [] = refl
  sum_of-one (x ∷ xs) = omega (arith, sum_of-one xs)

  pub sum_of-in : (f : A → ℕ) (x : A) (xs : List A) → In x xs → f x ≤ sum_of f xs
  unfolding sum_of
  sum_of-in f x (y ∷ xs) (Memᴰ.head e) = rw e (omega arith)
  sum_of-in f x (y ∷ xs) (Memᴰ.tail m) = omega (arith, sum_of-in f x xs m)
  sum_of-in f x [] x'' = elim x'' [ ]

  pub count-sum : (p : A → Bool) (xs : List A) → count p xs ≡ sum_of (λ x. as_count (p x)) xs
  unfolding count sum_of
  count-sum p [] = refl
  count-sum p (x ∷ xs) = go (p x) (count-sum p xs)
    where
      go : (b : Bool) → count p xs ≡ sum_of (λ x. as_count (p x)) xs → cond b (suc (count p xs)) (count p xs) ≡ as_count b + sum_of (λ x. as_count (p x)) xs
      go true h = omega (arith, count-true {b = true} refl)
      go false h = omega (arith, count-false {b = false} refl)

  pub count-cons : (p : A → Bool) (x : A) (xs : List A) → count p (x ∷ xs) ≡ as_count (p x) + count p xs
  unfolding sum_of
  count-cons p x xs = omega (arith, count-sum p (x ∷ xs), count-sum p xs)

  pub count_same : (p q : A → Bool) (xs : List A) → ((x : A) → In x xs → p x ≡ q x) → count p xs ≡ count q xs
  count_same p q xs h = count-sum p xs ∙ sum_of-same _ _ xs (λ x m. ap as_count (h x m)) ∙ sym (count-sum q xs)

  pub count-le : (p q : A → Bool) (xs : List A) → ((x : A) → In x xs → p x ≡ true → q x ≡ true) → count p xs ≤ count q xs
  count-le p q xs h = omega (arith, count-sum p xs, count-sum q xs, sum_of-le _ _ xs (λ x m. count-implies (p x) (q x) (h x m)))

  -- what passes one of two tests, where none passes both
  pub count-either : (p q r : A → Bool) (xs : List A) → ((x : A) → In x xs → as_count (r x) ≡ as_count (p x) + as_count (q x)) → count r xs ≡ count p xs + count q xs
  count-either p q r xs h = omega (arith, count-sum p xs, count-sum q xs, count-sum r xs, sum_of-same _ _ xs h, sum_of-add (λ x. as_count (p x)) (λ x. as_count (q x)) xs)

  pub count-append : (p : A → Bool) (s t : List A) → count p (s ++ t) ≡ count p s + count p t
  count-append p s t = omega (arith, count-sum p (s ++ t), count-sum p s, count-sum p t, sum_of-append (λ x. as_count (p x)) s t)

  pub count_none : (p : A → Bool) (xs : List A) → ((x : A) → In x xs → p x ≡ false) → count p xs ≡ 0
  count_none p xs h = count-sum p xs ∙ sum_of-zero _ xs (λ x m. count-false (h x m))

  pub count-in : (p : A → Bool) (x : A) (xs : List A) → In x xs → p x ≡ true → 0 < count p xs
  count-in p x xs m h = omega (arith, count-sum p xs, sum_of-in (λ x. as_count (p x)) x xs m, count-true h)

  pub count-length : (p : A → Bool) (xs : List A) → count p xs ≤ length xs
  count-length p xs = omega (arith, count-sum p xs, sum_of-le (λ x. as_count (p x)) (λ x. 1) xs (λ x m. one-le (p x)), sum_of-one xs)

  pub count-flat : (p : A → Bool) (xss : List (List A)) → count p (flat xss) ≡ sum_of (count p) xss
  unfolding count flat sum_of
  count-flat p [] = refl
  count-flat p (xs ∷ xss) = omega (arith, count-append p xs (flat xss), count-flat p xss)

  pub count-all : (p : A → Bool) (xs : List A) → ((x : A) → In x xs → p x ≡ true) → count p xs ≡ length xs
  count-all p xs h = count-sum p xs ∙ sum_of-same _ (λ x. 1) xs (λ x m. count-true (h x m)) ∙ sum_of-one xs

pub sum_of-map : {A B : Type 0} (f : B → ℕ) (g : A → B) (xs : List A) → sum_of f (map g xs) ≡ sum_of (λ x. f (g x)) xs
unfolding sum_of
sum_of-map f g [] = refl
sum_of-map f g (x ∷ xs) = omega (arith, sum_of-map f g xs)

pub count_map : {A B : Type 0} (p : B → Bool) (g : A → B) (xs : List A) → count p (map g xs) ≡ count (λ x. p (g x)) xs
count_map p g xs = count-sum p (map g xs) ∙ sum_of-map (λ x. as_count (p x)) g xs ∙ sym (count-sum (λ x. p (g x)) xs)

-- counting twice
-- of lists one after another, each made of an element
pub count-flat-map : {A B : Type 0} (p : B → Bool) (g : A → List B) (xs : List A) → count p (flat (map g xs)) ≡ sum_of (λ x. count p (g x)) xs
count-flat-map p g xs = count-flat p (map g xs) ∙ sum_of-map (count p) g xs

pub length-flat-map : {A B : Type 0} (g : A → List B) (xs : List A) → length (flat (map g xs)) ≡ sum_of (λ x. length (g x)) xs
length-flat-map g xs =
    sym (count-all (λ y. true) (flat (map g xs)) (λ y m. refl))
    ∙ count-flat-map (λ y. true) g xs
    ∙ sum_of-same _ _ xs (λ x m. count-all (λ y. true) (g x) (λ y i. refl))

pub sum_of-swap : {A B : Type 0} (f : A → B → ℕ) (xs : List A) (ys : List B) → sum_of (λ x. sum_of (f x) ys) xs ≡ sum_of (λ y. sum_of (λ x. f x y) xs) ys
unfolding sum_of
sum_of-swap f [] ys = sym (sum_of-zero _ ys (λ y m. refl))
sum_of-swap f (x ∷ xs) ys = rw (sum_of-swap f xs ys) (sym (sum_of-add (f x) (λ y. sum_of (λ x. f x y) xs) ys))

-- ---- tests over lists

module _ {A : Type 0} where
  pub any-in : (p : A → Bool) (x : A) (xs : List A) → In x xs → p x ≡ true → any p xs ≡ true
  unfolding any
  any-in p x (y ∷ xs) (Memᴰ.head e) h = true-or-l (any p xs) (ap p (sym e) ∙ h)
  any-in p x (y ∷ xs) (Memᴰ.tail m) h = true-or-r (p y) (any-in p x xs m h)
  any-in p x [] x3 h = elim x3 [ ]

  pub any_found : (p : A → Bool) (xs : List A) → any p xs ≡ true → (x : A) × In x xs × (p x ≡ true)
  unfolding any
  any_found p [] h = clash h refl
  any_found p (x ∷ xs) h = elim (or-true (p x) (any p xs) h) [
    | inl a ↦ (x, here, a)
    | inr a ↦ let r : (x : A) × In x xs × (p x ≡ true) = any_found p xs a in (r.0, there r.1, r.2)
  ]

  pub any_none : (p : A → Bool) (xs : List A) → any p xs ≡ false → (x : A) → In x xs → p x ≡ false
  any_none p xs h x m = elim (true-or-false (p x)) [ inl a ↦ clash (any-in p x xs m a) h | inr a ↦ a ]

  pub none_any : (p : A → Bool) (xs : List A) → ((x : A) → In x xs → p x ≡ false) → any p xs ≡ false
  none_any p xs h = elim (true-or-false (any p xs)) [
    | inl a ↦ let r : (x : A) × In x xs × (p x ≡ true) = any_found p xs a in clash r.2 (h r.0 r.1)
    | inr a ↦ a
  ]

  pub every_in : (p : A → Bool) (xs : List A) → every p xs ≡ true → (x : A) → In x xs → p x ≡ true
  unfolding every
  every_in p (y ∷ xs) h x (Memᴰ.head e) = ap p e ∙ (and-true (p y) (every p xs) h).0
  every_in p (y ∷ xs) h x (Memᴰ.tail m) = every_in p xs (and-true (p y) (every p xs) h).1 x m
  every_in p [] h x x4 = elim x4 [ ]

  pub in-every : (p : A → Bool) (xs : List A) → ((x : A) → In x xs → p x ≡ true) → every p xs ≡ true
  unfolding every
  in-every p [] h = refl
  in-every p (y ∷ xs) h = true-and (h y here) (in-every p xs (λ x m. h x (there m)))

  pub every_append : (p : A → Bool) (s t : List A) → every p s ≡ true → every p t ≡ true → every p (s ++ t) ≡ true
  unfolding every
  every_append p [] t h k = k
  every_append p (x ∷ s) t h k = let z = and-true (p x) (every p s) h in true-and z.0 (every_append p s t z.1 k)

  pub first-none : (p : A → Bool) (xs : List A) → first p xs ≡ none → (x : A) → In x xs → p x ≡ false
  unfolding first
  first-none p [] h x m = absurd (Memᴰ.not-nil m)
  first-none p (y ∷ xs) h x m = go (p y) refl h m (λ q m. first-none p xs q x m)
    where
      go : (b : Bool) → p y ≡ b → cond b (some y) (first p xs) ≡ none → In x (y ∷ xs) → (first p xs ≡ none → In x xs → p x ≡ false) → p x ≡ false
      go true e q m r = let z : ◌≡◌ {A = ℕ} 0 1 = cc in absurd (omega arith)
      go false e q (Memᴰ.head d) r = ap p d ∙ e
      go false e q (Memᴰ.tail m) r = r q m

  pub first_some : (p : A → Bool) {x : A} (xs : List A) → first p xs ≡ some x → In x xs × (p x ≡ true)
  unfolding first
  first_some p [] h = absurd (none-ne-some _ h)
  first_some p (y ∷ ys) h = elim (true-or-false (p y)) [
    | inl t ↦ let z : y ≡ _ = some-injective y _ (rw t at h) in (Memᴰ.head (sym z), rw (← z) t)
    | inr t ↦ let r = first_some p ys (rw t at h) in (there r.0, r.1)
  ]

  pub none_first : (p : A → Bool) (xs : List A) → ((x : A) → In x xs → p x ≡ false) → first p xs ≡ none
  unfolding first
  none_first p [] h = refl
  none_first p (y ∷ xs) h = rw (h y here) (none_first p xs (λ x m. h x (there m)))

  pub any-count : (p : A → Bool) (xs : List A) → any p xs ≡ ltb 0 (count p xs)
  any-count p xs = elim (true-or-false (any p xs)) [
    | inl a ↦ let r : (x : A) × In x xs × (p x ≡ true) = any_found p xs a in a ∙ sym (lt-ltb 0 (count p xs) (count-in p r.0 xs r.1 r.2))
    | inr a ↦ a ∙ sym (le-ltb 0 (count p xs) (le_of_eq (count_none p xs (any_none p xs a))))
  ]

  pub count-found : (p : A → Bool) (xs : List A) → 0 < count p xs → (x : A) × In x xs × (p x ≡ true)
  count-found p xs h = any_found p xs (any-count p xs ∙ lt-ltb 0 (count p xs) h)

  pub in-keep : (q : A → Bool) {x : A} (xs : List A) → In x (keep q xs) → In x xs × (q x ≡ true)
  unfolding keep
  in-keep q [] m = absurd (Memᴰ.not-nil m)
  in-keep q {x} (y ∷ xs) m = go (q y) refl m (λ k. let r = in-keep q xs k in (there r.0, r.1))
    where
      go : (b : Bool) → q y ≡ b → In x (cond b (y ∷ keep q xs) (keep q xs)) → (In x (keep q xs) → In x (y ∷ xs) × (q x ≡ true)) → In x (y ∷ xs) × (q x ≡ true)
      go true e (Memᴰ.head d) r = (Memᴰ.head d, ap q d ∙ e)
      go true e (Memᴰ.tail m) r = r m
      go false e m r = r m

  -- what passes a test is all kept by one that asks no more
  pub count-keep : (p q : A → Bool) (xs : List A) → ((x : A) → p x ≡ true → q x ≡ true) → count p (keep q xs) ≡ count p xs
  unfolding count keep
  count-keep p q [] h = refl
  count-keep p q (x ∷ xs) h = go (q x) refl (count-keep p q xs h)
    where
      go : (b : Bool) → q x ≡ b → count p (keep q xs) ≡ count p xs → count p (cond b (x ∷ keep q xs) (keep q xs)) ≡ cond (p x) (suc (count p xs)) (count p xs)
      go true e r = ap (λ (z : ℕ). cond (p x) (suc z) z) r
      go false e r = elim (true-or-false (p x)) [ inl a ↦ clash (h x a) e | inr a ↦ rw a r ]

  -- what holds of the elements of a list, and of one more
  pub all_none : (P : A → Type 0) (x : A) → In x [] → P x
  all_none P x m = absurd (Memᴰ.not-nil m)

  pub all_cons : (P : A → Type 0) (y : A) (xs : List A) → P y → ((x : A) → In x xs → P x) → (x : A) → In x (y ∷ xs) → P x
  all_cons P y xs p h x (Memᴰ.head e) = subst⁻¹ P e p
  all_cons P y xs p h x (Memᴰ.tail m) = h x m

  pub all_snoc : (P : A → Type 0) (xs : List A) (y : A) → ((x : A) → In x xs → P x) → P y → (x : A) → In x (xs ++ y ∷ []) → P x
  all_snoc P xs y h p x m = elim (Memᴰ.append_cases xs m) [ inl a ↦ h x a | inr a ↦ subst P (sym (Memᴰ.eq_of_singleton a)) p ]

  -- the same by place
  pub index-snoc : (P : ℕ → A → Type 0) (d : A) (xs : List A) (y : A) → ((i : ℕ) → i < length xs → P i (get_or xs i d)) → P (length xs) y
      → (i : ℕ) → i < length (xs ++ y ∷ []) → P i (get_or (xs ++ y ∷ []) i d)
  index-snoc P d xs y h p i l = elim (dec_le (length xs) i) [
    | yes q ↦ let z : i ≡ length xs = omega (arith, length-append xs (y ∷ [])) in rw (z, get_or-append_seam xs y [] d) p
    | no q ↦ rw (get_or-append xs (y ∷ []) d i (omega arith)) (h i (omega arith))
  ]

  -- where an element stands
  pub in-at : (d x : A) (xs : List A) → In x xs → (i : ℕ) × (i < length xs) × (get_or xs i d ≡ x)
  in-at d x (y ∷ xs) (Memᴰ.head e) = (0, omega arith, sym e)
  in-at d x (y ∷ xs) (Memᴰ.tail m) = let r : (i : ℕ) × (i < length xs) × (get_or xs i d ≡ x) = in-at d x xs m in (suc r.0, omega (arith, r.1), r.2)
  in-at d x [] x'' = elim x'' [ ]

  pub at_in : (d : A) (xs : List A) (i : ℕ) → i < length xs → In (get_or xs i d) xs
  at_in d [] i h = absurd (not-suc-le-zero h)
  at_in d (x ∷ xs) zero h = here
  at_in d (x ∷ xs) (suc i) h = there (at_in d xs i (le_of_suc-le-suc h))

-- no number of a list is n or above
pub all-below : (n : ℕ) (xs : List ℕ) → (any (leb n) xs ≡ false) ↔ ((x : ℕ) → In x xs → x < n)
all-below n xs = (λ h x m. leb-false n x (any_none (leb n) xs h x m), λ h. none_any (leb n) xs (λ x m. lt-leb n x (h x m)))

-- a number that stands in a list
pub member_is : (x : ℕ) (xs : List ℕ) → (is_in x xs ≡ true) ↔ (0 < count (eqb x) xs)
unfolding is_in
member_is x xs = (λ h. ltb-true 0 (count (eqb x) xs) (sym (any-count (eqb x) xs) ∙ h), λ h. any-count (eqb x) xs ∙ lt-ltb 0 (count (eqb x) xs) h)

pub counted-in : (x : ℕ) (xs : List ℕ) → 0 < count (eqb x) xs → In x xs
unfolding is_in
counted-in x xs h = let r = any_found (eqb x) xs ((member_is x xs).1 h) in subst (λ (y : ℕ). In y xs) (sym (eqb-true x r.0 r.2)) r.1

pub length-map : {A B : Type 0} (f : A → B) (xs : List A) → length (map f xs) ≡ length xs
length-map f [] = refl
length-map f (x ∷ xs) = ap suc (length-map f xs)

pub map_same : {A B : Type 0} (f g : A → B) (xs : List A) → ((x : A) → In x xs → f x ≡ g x) → map f xs ≡ map g xs
map_same f g [] h = refl
map_same f g (x ∷ xs) h = ap₂ (λ y ys. y ∷ ys) (h x here) (map_same f g xs (λ y m. h y (there m)))

pub in-replicate : {A : Type 0} {x y : A} (k : ℕ) → In x (replicate k y) → x ≡ y
in-replicate zero m = absurd (Memᴰ.not-nil m)
in-replicate (suc k) (Memᴰ.head e) = e
in-replicate (suc k) (Memᴰ.tail m) = in-replicate k m

pub map-replicate : {A B : Type 0} (f : A → B) (k : ℕ) (x : A) → map f (replicate k x) ≡ replicate k (f x)
map-replicate f zero x = refl
map-replicate f (suc k) x = ap (λ l. f x ∷ l) (map-replicate f k x)

pub flat_append : {A : Type 0} (s t : List (List A)) → flat (s ++ t) ≡ flat s ++ flat t
unfolding flat
flat_append [] t = refl
flat_append (x ∷ s) t = rw (flat_append s t) (sym (append_assoc x (flat s) (flat t)))

pub flat-snoc : {A : Type 0} (xss : List (List A)) (xs : List A) → flat (xss ++ xs ∷ []) ≡ flat xss ++ xs
unfolding flat
flat-snoc xss xs = flat_append xss (xs ∷ []) ∙ ap (λ l. flat xss ++ l) (append-nil xs)

pub flat-map-snoc : {A B : Type 0} (f : A → List B) (xs : List A) (x : A) → flat (map f (xs ++ x ∷ [])) ≡ flat (map f xs) ++ f x
flat-map-snoc f xs x = ap flat (map-append f xs (x ∷ [])) ∙ flat-snoc (map f xs) (f x)

pub flat-take-suc : {A : Type 0} (xss : List (List A)) (k : ℕ) → k < length xss → flat (take (suc k) xss) ≡ flat (take k xss) ++ get_or xss k []
flat-take-suc xss k h = ap flat (take-suc xss k [] h) ∙ flat-snoc (take k xss) (get_or xss k [])

pub in-flat : {A : Type 0} {x : A} (xss : List (List A)) → In x (flat xss) → (xs : List A) × In xs xss × In x xs
unfolding flat
in-flat [] m = absurd (Memᴰ.not-nil m)
in-flat {A} {x} (xs ∷ xss) m = elim (Memᴰ.append_cases xs m) [
  | inl a ↦ (xs, here, a)
  | inr a ↦ let r : (xs : List A) × In xs xss × In x xs = in-flat xss a in (r.0, there r.1, r.2)
]

pub flat_in : {A : Type 0} {x : A} {xs : List A} (xss : List (List A)) → In xs xss → In x xs → In x (flat xss)
unfolding flat
flat_in {x} (ys ∷ xss) (Memᴰ.head e) m = Memᴰ.append_left (flat xss) (subst (λ zs. In x zs) e m)
flat_in (ys ∷ xss) (Memᴰ.tail n) m = Memᴰ.append_right ys (flat_in xss n m)
flat_in {A = A} {x = x} {xs = xs} [] x3 m = elim x3 [ ]

pub in-flat-map : {A B : Type 0} {y : B} (f : A → List B) (xs : List A) → In y (flat (map f xs)) → (x : A) × In x xs × In y (f x)
unfolding flat
in-flat-map f [] m = absurd (Memᴰ.not-nil m)
in-flat-map {A} {B} {y} f (x ∷ xs) m = elim (Memᴰ.append_cases (f x) m) [
  | inl a ↦ (x, here, a)
  | inr a ↦ let r : (x : A) × In x xs × In y (f x) = in-flat-map f xs a in (r.0, there r.1, r.2)
]

pub flat-map-in : {A B : Type 0} {x : A} {y : B} (f : A → List B) (xs : List A) → In x xs → In y (f x) → In y (flat (map f xs))
flat-map-in f xs m k = flat_in (map f xs) (Memᴰ.map f m) k

-- ---- the greatest of a list

pub greatest-above : (x : ℕ) (xs : List ℕ) → In x xs → x ≤ greatest xs
unfolding greatest
greatest-above x (y ∷ xs) (Memᴰ.head e) = omega arith
greatest-above x (y ∷ xs) (Memᴰ.tail m) = omega (arith, greatest-above x xs m)
greatest-above x [] x'' = elim x'' [ ]

pub greatest-least : (b : ℕ) (xs : List ℕ) → ((x : ℕ) → In x xs → x ≤ b) → greatest xs ≤ b
unfolding greatest
greatest-least b [] h = zero-le
greatest-least b (x ∷ xs) h = omega (arith, h x here, greatest-least b xs (λ y m. h y (there m)))

-- where it is not 0, it is one of them
pub greatest-in : (xs : List ℕ) → 0 < greatest xs → In (greatest xs) xs
unfolding greatest
greatest-in [] h = absurd (not-suc-le-zero h)
greatest-in (x ∷ xs) h = elim (dec_le (greatest xs) x) [
  | yes l ↦ Memᴰ.head {x = x} (omega arith)
  | no l ↦ there (subst (λ (z : ℕ). In z xs) (omega arith) (greatest-in xs (omega arith)))
]

-- ---- the numbers below a bound

pub from-snoc : (a k : ℕ) → from a (suc k) ≡ from a k ++ (a + k) ∷ []
unfolding from
from-snoc a zero = ap (λ (z : ℕ). z ∷ []) (omega arith)
from-snoc a (suc k) = ap (λ l. a ∷ l) (from-snoc (suc a) k ∙ ap (λ (z : ℕ). from (suc a) k ++ z ∷ []) (omega arith))

pub up_to-snoc : (n : ℕ) → up_to (suc n) ≡ up_to n ++ n ∷ []
unfolding up_to
up_to-snoc n = from-snoc 0 n ∙ ap (λ (z : ℕ). from 0 n ++ z ∷ []) (omega arith)

pub from-append : (a j k : ℕ) → from a (j + k) ≡ from a j ++ from (a + j) k
unfolding from
from-append a zero k = rw (zero-add k, add-zero a)
from-append a (suc j) k = rw (suc-add j k) (ap (λ l. a ∷ l) (from-append (suc a) j k ∙ ap (λ (z : ℕ). from (suc a) j ++ from z k) (omega arith)))

pub length_from : (a k : ℕ) → length (from a k) ≡ k
unfolding from
length_from a zero = refl
length_from a (suc k) = ap suc (length_from (suc a) k)

pub length-up_to : (n : ℕ) → length (up_to n) ≡ n
unfolding up_to
length-up_to n = length_from 0 n

pub get_or-from : (a k i d : ℕ) → i < k → get_or (from a k) i d ≡ a + i
unfolding from
get_or-from a zero i d h = absurd (not-suc-le-zero h)
get_or-from a (suc k) zero d h = omega arith
get_or-from a (suc k) (suc i) d h = get_or-from (suc a) k i d (le_of_suc-le-suc h) ∙ omega arith

pub in-from : (x a k : ℕ) → In x (from a k) → (a ≤ x) × (x < a + k)
in-from x a k m =
    let r : (i : ℕ) × (i < length (from a k)) × (get_or (from a k) i 0 ≡ x) = in-at 0 x (from a k) m in
    let l : r.0 < k = omega (arith, length_from a k, r.1) in
    (omega (arith, get_or-from a k r.0 0 l, r.2), omega (arith, get_or-from a k r.0 0 l, r.2))

pub from_in : (x a k : ℕ) → a ≤ x → x < a + k → In x (from a k)
unfolding from
from_in x a zero l h = absurd (omega arith)
from_in x a (suc k) l h = elim (ℕ_discrete x a) [
  | yes e ↦ Memᴰ.head e
  | no e ↦ there (from_in x (suc a) k (omega arith) (omega arith))
]

pub in-up_to : {x : ℕ} (n : ℕ) → In x (up_to n) → x < n
unfolding up_to
in-up_to {x} n m = omega (arith, (in-from x 0 n m).1)

pub up_to-in : {x : ℕ} (n : ℕ) → x < n → In x (up_to n)
unfolding up_to
up_to-in {x} n h = from_in x 0 n zero-le (omega arith)

-- each of them once
pub count-up_to : (x n : ℕ) → x < n → count (eqb x) (up_to n) ≡ 1
unfolding count
count-up_to x zero h = absurd (not-suc-le-zero h)
count-up_to x (suc n) h = ap (count (eqb x)) (up_to-snoc n) ∙ count-append (eqb x) (up_to n) (n ∷ []) ∙ elim (ℕ_discrete x n) [
  | yes e ↦ rw (eq-eqb x n e) (omega (arith, count_none (eqb x) (up_to n) (λ y m. ne_eqb x y (λ d. omega (arith, in-up_to n m)))))
  | no e ↦ rw (ne_eqb x n e) (omega (arith, count-up_to x n (omega arith)))
]

pub get_or-map-in : {A B : Type 0} (f : A → B) (xs : List A) (i : ℕ) (b : B) (a : A) → i < length xs → get_or (map f xs) i b ≡ f (get_or xs i a)
get_or-map-in f [] i b a h = absurd (not-suc-le-zero h)
get_or-map-in f (x ∷ xs) zero b a h = refl
get_or-map-in f (x ∷ xs) (suc i) b a h = get_or-map-in f xs i b a (le_of_suc-le-suc h)

-- a list made by a function of the numbers below n
pub get_or-tabled : {A : Type 0} (f : ℕ → A) (a k i : ℕ) (d : A) → i < k → get_or (map f (from a k)) i d ≡ f (a + i)
unfolding from
get_or-tabled f a zero i d h = absurd (not-suc-le-zero h)
get_or-tabled f a (suc k) zero d h = ap f (omega arith)
get_or-tabled f a (suc k) (suc i) d h = get_or-tabled f (suc a) k i d (le_of_suc-le-suc h) ∙ ap f (omega arith)

pub get_or-table : {A : Type 0} (f : ℕ → A) (n i : ℕ) (d : A) → i < n → get_or (map f (up_to n)) i d ≡ f i
unfolding up_to
get_or-table f n i d h = get_or-tabled f 0 n i d h ∙ ap f (omega arith)

-- a list is the table of its elements
pub tabled : {A : Type 0} (d : A) (xs : List A) → xs ≡ map (λ i. get_or xs i d) (up_to (length xs))
tabled d xs = ext_get_or d xs _ (sym (length-map (λ i. get_or xs i d) (up_to (length xs)) ∙ length-up_to (length xs))) (λ i l. sym (get_or-table (λ i. get_or xs i d) (length xs) i d l))

pub lowest-none : (p : ℕ → Bool) (n : ℕ) → lowest p n ≡ none → (i : ℕ) → i < n → p i ≡ false
unfolding lowest
lowest-none p n h i l = first-none p (up_to n) h i (up_to-in n l)

pub none-lowest : (p : ℕ → Bool) (n : ℕ) → ((i : ℕ) → i < n → p i ≡ false) → lowest p n ≡ none
unfolding lowest
none-lowest p n h = none_first p (up_to n) (λ i m. h i (in-up_to n m))

-- the lowest one passes, and where one passes there is a lowest
pub lowest-some : (p : ℕ → Bool) (n : ℕ) {i : ℕ} → lowest p n ≡ some i → (i < n) × (p i ≡ true)
unfolding lowest
lowest-some p n h = let r = first_some p (up_to n) h in (in-up_to n r.0, r.1)

pub lowest-is : (p : ℕ → Bool) (n r : ℕ) → r < n → ((i : ℕ) → i < r → p i ≡ false) → p r ≡ true → lowest p n ≡ some r
unfolding lowest up_to from first
lowest-is p n r l h t = go 0 n r l (λ i a b. h i (omega arith)) (ap p (omega arith) ∙ t) ∙ ap some (omega arith)
  where
    go : (a k i : ℕ) → i < k → ((j : ℕ) → a ≤ j → j < a + i → p j ≡ false) → p (a + i) ≡ true → first p (from a k) ≡ some (a + i)
    go a zero i l h t = absurd (not-suc-le-zero l)
    go a (suc k) zero l h t = let q : a + 0 ≡ a = omega arith in rw (ap p (sym q) ∙ t) (ap some (sym q))
    go a (suc k) (suc i) l h t =
        let q : a + suc i ≡ suc a + i = omega arith in
        rw (h a (omega arith) (omega arith)) (go (suc a) k i (omega arith) (λ j u v. h j (omega arith) (omega arith)) (ap p (sym q) ∙ t) ∙ ap some (sym q))

pub some-lowest : (p : ℕ → Bool) (n : ℕ) {j : ℕ} → j < n → p j ≡ true → (i : ℕ) × (lowest p n ≡ some i)
some-lowest p n {j} l t = go (lowest p n) refl
  where
    go : (o : Option ℕ) → lowest p n ≡ o → (i : ℕ) × (lowest p n ≡ some i)
    go none h = clash t (lowest-none p n h j l)
    go (some i) h = (i, h)

pub eqb-count : (a b : ℕ) → a ≡ b → as_count (eqb a b) ≡ 1
eqb-count a b e = count-true (eq-eqb a b e)

pub neqb-count : (a b : ℕ) → (a ≡ b → ⊥) → as_count (eqb a b) ≡ 0
neqb-count a b e = count-false (ne_eqb a b e)

pub eqb-sym : (a b : ℕ) → eqb a b ≡ eqb b a
eqb-sym a b = elim (ℕ_discrete a b) [ yes e ↦ eq-eqb a b e ∙ sym (eq-eqb b a (sym e)) | no e ↦ ne_eqb a b e ∙ sym (ne_eqb b a (λ d. e (sym d))) ]

-- ---- lists of lists

-- rows of one width, one after another
pub get_or_rows : {A : Type 0} (w : ℕ) (rows : List (List A)) → ((r : List A) → In r rows → length r ≡ w) → (k p : ℕ) (d : A) → k < length rows → p < w
    → get_or (flat rows) (w * k + p) d ≡ get_or (get_or rows k []) p d
unfolding flat
get_or_rows w [] h k p d l q = absurd (not-suc-le-zero l)
get_or_rows w (r ∷ rows) h zero p d l q =
    ap (λ (z : ℕ). get_or (r ++ flat rows) z d) (ap (λ (z : ℕ). z + p) (mul-zero w) ∙ zero-add p) ∙ get_or-append r (flat rows) d p (omega (arith, h r here))
get_or_rows w (r ∷ rows) h (suc k) p d l q =
    ap (λ (z : ℕ). get_or (r ++ flat rows) z d) (omega (arith, mul-suc w k, h r here)) ∙ get_or-append-add r (flat rows) (w * k + p) d
    ∙ get_or_rows w rows (λ x m. h x (there m)) k p d (le_of_suc-le-suc l) q

pub get_or-table-rows : {A : Type 0} (w m : ℕ) (f : ℕ → List A) → ((k : ℕ) → length (f k) ≡ w) → (k p : ℕ) (d : A) → k < m → p < w
    → get_or (flat (map f (up_to m))) (w * k + p) d ≡ get_or (f k) p d
get_or-table-rows w m f h k p d l q =
    get_or_rows w (map f (up_to m)) (λ r i. let z = Memᴰ.of_map f (up_to m) i in rw (← z.2) (h z.0)) k p d (omega (arith, length-map f (up_to m), length-up_to m)) q
    ∙ ap (λ r. get_or r p d) (get_or-table f m k [] l)

-- lists that are none of them empty
pub flat-long : {A : Type 0} (xss : List (List A)) → ((k : ℕ) → k < length xss → 0 < length (get_or xss k [])) → length xss ≤ length (flat xss)
unfolding flat
flat-long [] h = zero-le
flat-long (x ∷ xss) h = omega (arith, length-append x (flat xss), h 0 (omega arith), flat-long xss (λ k l. h (suc k) (omega arith)))

pub flat-wide : {A B : Type 0} (w : ℕ) (f : A → List B) (xs : List A) → ((x : A) → In x xs → length (f x) ≤ w) → length (flat (map f xs)) ≤ w * length xs
unfolding flat
flat-wide w f [] h = zero-le
flat-wide w f (x ∷ xs) h = rw (mul-suc w (length xs)) (omega (arith, length-append (f x) (flat (map f xs)), h x here, flat-wide w f xs (λ y m. h y (there m))))

-- a list that has each number below n once, and no other, has n elements
pub once-length : (n : ℕ) (xs : List ℕ) → ((x : ℕ) → In x xs → x < n) → ((e : ℕ) → e < n → count (eqb e) xs ≡ 1) → length xs ≡ n
once-length n xs h o =
    sym (sum_of-one xs) ∙ sum_of-same (λ x. 1) (λ x. sum_of (λ e. as_count (eqb e x)) (up_to n)) xs one ∙ sum_of-swap (λ x e. as_count (eqb e x)) xs (up_to n)
    ∙ sum_of-same _ (λ e. 1) (up_to n) (λ e m. sym (count-sum (eqb e) xs) ∙ o e (in-up_to n m)) ∙ sum_of-one (up_to n) ∙ length-up_to n
  where
    one : (x : ℕ) → In x xs → 1 ≡ sum_of (λ e. as_count (eqb e x)) (up_to n)
    one x m = sym (count-up_to x n (h x m)) ∙ count-sum (eqb x) (up_to n) ∙ sum_of-same _ _ (up_to n) (λ e i. ap as_count (eqb-sym x e))
