-- How often an event stands in some lines, and the index of the first line that it stands in: the laws of `times` and `index`.
use Rattle.std.specs.Prelude.{◌≡◌, length, get_or, take, eqb}
use Rattle.std.proofs.Math.Path.{ap}
use Rattle.std.proofs.Common.{◌∙◌, le_of_eq, not-suc-le-zero, eq-zero-or-pos, arith, inl, inr}
use Prim.Native.Nat.{ℕ, zero, suc, ◌+◌, ◌<◌}
use mathlib.Core.List.{List, [], ◌∷◌, ◌++◌}
use borrow.Author.Tests.{lt-ltb, le-ltb}
use Rattle.spec.specs.Lists.{count, flat, is_in, sum_of}
use Rattle.spec.specs.Arrangement.{times, index}
use Rattle.lists.specs.Laws.{count-append, count-flat, any-count, sum_of-append}

module _ (e : ℕ) where
  pub times-lines : (ls : List (List ℕ)) → times e ls ≡ sum_of (count (eqb e)) ls
  unfolding times
  times-lines ls = count-flat (eqb e) ls

  pub times-cons : (l : List ℕ) (ls : List (List ℕ)) → times e (l ∷ ls) ≡ count (eqb e) l + times e ls
  unfolding times flat
  times-cons l ls = count-append (eqb e) l (flat ls)

  pub times-append : (s t : List (List ℕ)) → times e (s ++ t) ≡ times e s + times e t
  times-append s t = rw (times-lines (s ++ t), times-lines s, times-lines t) (sum_of-append (count (eqb e)) s t)

  -- the equations of `index`
  pub index-here : (l : List ℕ) (ls : List (List ℕ)) → 0 < count (eqb e) l → index e (l ∷ ls) ≡ 0
  unfolding index is_in
  index-here l ls h = rw (any-count (eqb e) l, lt-ltb 0 (count (eqb e) l) h)

  pub index-there : (l : List ℕ) (ls : List (List ℕ)) → count (eqb e) l ≡ 0 → index e (l ∷ ls) ≡ suc (index e ls)
  unfolding index is_in
  index-there l ls h = rw (any-count (eqb e) l, le-ltb 0 (count (eqb e) l) (le_of_eq h))

  -- e stands in the first line, or it does not
  by-line {ℓ} : {X : Type ℓ} (l : List ℕ) (ls : List (List ℕ))
      → (0 < count (eqb e) l → index e (l ∷ ls) ≡ 0 → X)
      → (count (eqb e) l ≡ 0 → index e (l ∷ ls) ≡ suc (index e ls) → X) → X
  by-line l ls f g = elim (eq-zero-or-pos (count (eqb e) l)) [ inl q ↦ g q (index-there l ls q) | inr q ↦ f q (index-here l ls q) ]

  pub index-bound : (ls : List (List ℕ)) → 0 < times e ls → index e ls < length ls
  unfolding times count flat
  index-bound [] h = absurd (not-suc-le-zero h)
  index-bound (l ∷ ls) h = by-line l ls (λ q i. omega arith) (λ q i. omega (arith, times-cons l ls, index-bound ls (omega (arith, times-cons l ls))))

  -- e stands in the first i lines just where its index is below i
  pub placed : (i : ℕ) (ls : List (List ℕ)) → 0 < times e (take i ls) → index e ls < i
  unfolding times count flat
  placed zero ls h = absurd (not-suc-le-zero h)
  placed (suc i) [] h = absurd (not-suc-le-zero h)
  placed (suc i) (l ∷ ls) h = by-line l ls
      (λ q k. omega arith)
      (λ q k. omega (arith, placed i ls (omega (arith, times-cons l (take i ls)))))

  pub place_of : (i : ℕ) (ls : List (List ℕ)) → 0 < times e ls → index e ls < i → 0 < times e (take i ls)
  place_of zero ls h k = absurd (not-suc-le-zero k)
  place_of (suc i) [] h k = h
  place_of (suc i) (l ∷ ls) h k = by-line l ls
      (λ q j. omega (arith, times-cons l (take i ls)))
      (λ q j. omega (arith, times-cons l (take i ls), place_of i ls (omega (arith, times-cons l ls)) (omega arith)))

  -- the line of an event's index has it, and for an event that stands once no other line has
  pub index-has : (ls : List (List ℕ)) → 0 < times e ls → 0 < count (eqb e) (get_or ls (index e ls) [])
  unfolding times count flat
  index-has [] h = absurd (not-suc-le-zero h)
  index-has (l ∷ ls) h = by-line l ls (λ q i. rw i q) (λ q i. rw i (index-has ls (omega (arith, times-cons l ls))))

  pub has-times : (i : ℕ) (ls : List (List ℕ)) → 0 < count (eqb e) (get_or ls i []) → 0 < times e ls
  unfolding times count flat
  has-times i [] h = h
  has-times zero (l ∷ ls) h = omega (arith, times-cons l ls)
  has-times (suc i) (l ∷ ls) h = omega (arith, times-cons l ls, has-times i ls h)

  pub index_is : (i : ℕ) (ls : List (List ℕ)) → times e ls ≡ 1 → 0 < count (eqb e) (get_or ls i []) → index e ls ≡ i
  unfolding count
  index_is i [] h k = absurd (not-suc-le-zero k)
  index_is zero (l ∷ ls) h k = index-here l ls k
  index_is (suc i) (l ∷ ls) h k = by-line l ls
      (λ q j. absurd (omega (arith, times-cons l ls, has-times i ls k)))
      (λ q j. j ∙ ap suc (index_is i ls (omega (arith, times-cons l ls)) k))
