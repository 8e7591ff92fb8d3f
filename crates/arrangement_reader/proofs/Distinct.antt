-- Lists in which no number stands twice, and how long they are.
use Prim.Native.Nat.{ℕ, ◌+◌, ◌≤◌, ◌<◌}
use mathlib.Core.Path.{◌≡◌, refl, sym, ap, ◌∙◌, subst}
use mathlib.Core.Logic.{inl, inr}
use mathlib.Core.Bool.{Bool, true, false, ◌||◌, or-false as bool-or-false, or_assoc}
use mathlib.Core.List.Memᴰ
use mathlib.Core.List.{List, [], ◌∷◌, ◌++◌}
use native.Mathlib.Nat.{zero-add}
use native.Mathlib.Decide.{ℕ_discrete}
use native.Mathlib.Omega.{arith}
use lib.Dec.{eqb}
use lib.ListN.{length}
use borrow.Author.Tests.{eq-eqb, ne_eqb, eqb-true}
use Rattle.spec.specs.Lists.{In, any, count, as_count, up_to, is_in}
use Rattle.spec.specs.Replaying.{repeats}
use Rattle.lists.specs.Laws.{here, there, clash, true-or-false, or-true, or-false, true-or-l, true-or-r, false-or, any-in, any_found, count-either, count_none, count-length, count-up_to, length-up_to, eqb-sym}

pub member-in : {x : ℕ} (xs : List ℕ) → In x xs → is_in x xs ≡ true
unfolding is_in
member-in {x} xs m = any-in (eqb x) x xs m (eq-eqb x x refl)

pub in-member : {x : ℕ} (xs : List ℕ) → is_in x xs ≡ true → In x xs
unfolding is_in
in-member {x} xs h = let r = any_found (eqb x) xs h in subst (λ (y : ℕ). In y xs) (sym (eqb-true x r.0 r.2)) r.1

pub member-snoc : (x : ℕ) (s : List ℕ) (v : ℕ) → is_in x (s ++ v ∷ []) ≡ (is_in x s || eqb x v)
unfolding is_in any
member-snoc x [] v = bool-or-false (eqb x v)
member-snoc x (y ∷ s) v = ap (λ (b : Bool). eqb x y || b) (member-snoc x s v) ∙ sym (or_assoc (eqb x y) (is_in x s) (eqb x v))

-- ---- one number more

module _ (v : ℕ) where
  pub repeats-hit : (s t : List ℕ) → is_in v s ≡ true → repeats (s ++ v ∷ t) ≡ true
  unfolding repeats is_in any
  repeats-hit [] t h = clash h refl
  repeats-hit (x ∷ s) t h = elim (or-true (eqb v x) (is_in v s) h) [
    | inl a ↦ true-or-l (repeats (s ++ v ∷ t)) (any-in (eqb x) v (s ++ v ∷ t) (Memᴰ.append_right s here) (eqb-sym x v ∙ a))
    | inr a ↦ true-or-r (is_in x (s ++ v ∷ t)) (repeats-hit s t a)
  ]

  pub repeats-more : (s : List ℕ) → is_in v s ≡ false → repeats s ≡ false → repeats (s ++ v ∷ []) ≡ false
  unfolding repeats is_in any
  repeats-more [] h r = refl
  repeats-more (x ∷ s) h r =
      let a = or-false (eqb v x) (is_in v s) h in
      let b = or-false (is_in x s) (repeats s) r in
      false-or (member-snoc x s v ∙ false-or b.0 (eqb-sym x v ∙ a.0)) (repeats-more s a.1 b.1)

-- a number of the second part is none of the first
pub repeats-apart : {x : ℕ} (s t : List ℕ) → repeats (s ++ t) ≡ false → In x t → is_in x s ≡ false
unfolding repeats is_in any
repeats-apart [] t h m = refl
repeats-apart {x} (y ∷ s) t h m =
    let z = or-false (is_in y (s ++ t)) (repeats (s ++ t)) h in
    false-or (ne_eqb x y (λ e. clash (member-in (s ++ t) (Memᴰ.append_right s (subst (λ (v : ℕ). In v t) e m))) z.0)) (repeats-apart s t z.1 m)

-- ---- numbers below n

module _ (n : ℕ) where
  distinct-count : (xs : List ℕ) → ((x : ℕ) → In x xs → x < n) → repeats xs ≡ false → count (λ e. is_in e xs) (up_to n) ≡ length xs
  unfolding repeats is_in any as_count
  distinct-count [] h r = count_none (λ e. is_in e []) (up_to n) (λ e m. refl)
  distinct-count (x ∷ xs) h r =
      let z = or-false (is_in x xs) (repeats xs) r in
      omega (arith, count-either (eqb x) (λ e. is_in e xs) (λ e. is_in e (x ∷ xs)) (up_to n) (λ e m. apart e z.0), count-up_to x n (h x here), distinct-count xs (λ y m. h y (there m)) z.1)
    where
      apart : (e : ℕ) → is_in x xs ≡ false → as_count (eqb e x || is_in e xs) ≡ as_count (eqb x e) + as_count (is_in e xs)
      apart e d = elim (ℕ_discrete e x) [
        | yes q ↦ rw (q, eq-eqb x x refl, d)
        | no q ↦ rw (ne_eqb e x q, ne_eqb x e (λ p. q (sym p))) (sym (zero-add (as_count (is_in e xs))))
      ]

  -- there are at most n of them
  pub distinct-few : (xs : List ℕ) → ((x : ℕ) → In x xs → x < n) → repeats xs ≡ false → length xs ≤ n
  distinct-few xs h r = omega (arith, distinct-count xs h r, count-length (λ e. is_in e xs) (up_to n), length-up_to n)

-- more than n of them repeat one, and so do others with them
pub repeats-right : (s t : List ℕ) → repeats t ≡ true → repeats (s ++ t) ≡ true
unfolding repeats
repeats-right [] t h = h
repeats-right (x ∷ s) t h = true-or-r (is_in x (s ++ t)) (repeats-right s t h)

pub too_many : (n : ℕ) (xs : List ℕ) → ((x : ℕ) → In x xs → x < n) → n < length xs → repeats xs ≡ true
too_many n xs h l = elim (true-or-false (repeats xs)) [ inl a ↦ a | inr a ↦ absurd (omega (arith, distinct-few n xs h a)) ]
