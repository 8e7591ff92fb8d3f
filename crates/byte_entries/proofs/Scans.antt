-- Laws on the first byte that passes a test, and on positions: a byte that does not pass it is passed over, and one byte
-- more stands before the first. Assumes nothing.
use Prim.Native.Nat.{ℕ, suc, ◌+◌, ◌-◌, ◌≤◌, ◌<◌}
use mathlib.Core.Path.{◌≡◌, refl, ap, ◌∙◌}
use mathlib.Core.Bool.{Bool, true, false, cond}
use mathlib.Core.List.{List, [], ◌∷◌}
use native.Mathlib.Omega.{arith}
use lib.ListN.{length, get_or, drop, drop_of_length-le, length-drop}
use lib.Seq.{drop-drop}
use lib.Dec.{ltb}
use borrow.Author.Tests.{lt-ltb, le-ltb, ltb-true, ltb-false}
use Rattle.lists.specs.Along.{rest_at}
use Rattle.spec.specs.Text.{is_a}
use Rattle.spec.specs.Classes.{class_code}
use Rattle.spec.specs.declared.Class.{Class}
use Rattle.byte_entries.specs.Entries.{code_of, is_entry, before_first, before}
use Rattle.byte_entries.proofs.Classes.{class-told}

module _ (p : ℕ → Bool) (s : List ℕ) (i : ℕ) where
  pub before_here : i < length s → p (get_or s i 0) ≡ true → i ≡ i + before_first p (drop i s)
  unfolding before_first
  before_here h e = rw (rest_at s i h, e) (omega arith)

  pub before_on : i < length s → p (get_or s i 0) ≡ false → i + 1 + before_first p (drop (i + 1) s) ≡ i + before_first p (drop i s)
  unfolding before_first
  before_on h e = rw (rest_at s i h, e) (omega arith)

  pub before-end : length s ≤ i → i ≡ i + before_first p (drop i s)
  unfolding before_first
  before-end h = rw (drop_of_length-le s h) (omega arith)

module _ (p : ℕ → Bool) (b : ℕ) (bs : List ℕ) where
  pub before-zero : p b ≡ true → before_first p (b ∷ bs) ≡ 0
  unfolding before_first
  before-zero e = rw e

  pub before-suc : p b ≡ false → before_first p (b ∷ bs) ≡ suc (before_first p bs)
  unfolding before_first
  before-suc e = rw e

-- two tests that agree are first passed by the same byte
first-agrees : (p q : ℕ → Bool) → ((b : ℕ) → p b ≡ q b) → (bs : List ℕ) → before_first p bs ≡ before_first q bs
unfolding before_first
first-agrees p q e [] = refl
first-agrees p q e (b ∷ bs) = rw (e b) (ap (cond (q b) 0) (ap suc (first-agrees p q e bs)))

-- so the first byte with the number of a class is the first of the class
pub first-of-class : (k : Class) → 1 ≤ class_code k → (at r : ℕ) (bs : List ℕ) → r ≡ at + before_first (is_entry (code_of k)) bs → r ≡ at + before k bs
first-of-class k h at r bs e = e ∙ ap (λ (n : ℕ). at + n) (first-agrees (is_entry (code_of k)) (is_a k) (λ b. class-told b k h) bs)

-- ---- at a position

-- an end that was found at a position, in the rest from there
module _ (s : List ℕ) (at n : ℕ) (h : at ≤ length s) where
  pub within : ltb n (length (drop at s)) ≡ ltb (at + n) (length s)
  within = go (ltb (at + n) (length s)) refl
    where
      go : (t : Bool) → ltb (at + n) (length s) ≡ t → ltb n (length (drop at s)) ≡ t
      go true e = lt-ltb n (length (drop at s)) (omega (arith, ltb-true (at + n) (length s) e, length-drop at s))
      go false e = le-ltb n (length (drop at s)) (omega (arith, ltb-false (at + n) (length s) e, length-drop at s))

  pub beyond : drop (suc n) (drop at s) ≡ drop (suc (at + n)) s
  beyond = let e : at + suc n ≡ suc (at + n) = omega arith in drop-drop (suc n) at s ∙ rw e

  pub width : n ≡ at + n - at
  width = omega arith
