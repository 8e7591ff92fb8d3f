-- Lines written one after the other.
use Prim.Native.Nat.{ℕ, zero, suc, ◌+◌, ◌-◌, ◌≤◌, ◌<◌}
use mathlib.Core.Path.{◌≡◌, refl, ap, ◌∙◌}
use mathlib.Core.List.{List, [], ◌∷◌, ◌++◌, map, map-append, append-nil}
use native.Mathlib.Nat.{le_trans, le_of_eq}
use native.Mathlib.Numerals.{add-one}
use native.Mathlib.Omega.{arith}
use lib.ListN.{length, length-append}
use Rattle.spec.specs.Lists.{from, up_to, flat}
use Rattle.lists.specs.Laws
use Rattle.writing.specs.Written.{Wrote}
use Rattle.writing.proofs.Laws.{none, after, wrote-length}
use Rattle.record_writer.specs.Bytes.{joined_to}

module _ (f : ℕ → List ℕ) where
  joined-none : joined_to f 0 ≡ []
  unfolding joined_to up_to from flat
  joined-none = refl

  joined-next : (n : ℕ) → joined_to f (n + 1) ≡ joined_to f n ++ f n
  unfolding joined_to flat
  joined-next n =
      ap (λ xs. flat (map f xs)) (ap up_to (add-one n) ∙ Laws.up_to-snoc n)
      ∙ ap flat (map-append f (up_to n) (n ∷ []))
      ∙ Laws.flat_append (map f (up_to n)) (f n ∷ [])
      ∙ ap (λ xs. flat (map f (up_to n)) ++ xs) (append-nil (f n))

  joined-more : (n d : ℕ) → length (joined_to f n) ≤ length (joined_to f (n + d))
  joined-more n zero = le_of_eq (ap (λ (z : ℕ). length (joined_to f z)) (omega arith))
  joined-more n (suc d) =
      let q : n + 1 + d ≡ n + suc d = omega arith in
      le_trans (omega (arith, ap length (joined-next n), length-append (joined_to f n) (f n))) (rw q at (joined-more (n + 1) d))

  -- a line before the last is within what is written
  joined-fits : (i n : ℕ) → i < n → length (joined_to f i) + length (f i) ≤ length (joined_to f n)
  joined-fits i n l =
      let d : n ≡ i + 1 + (n - (i + 1)) = omega arith in
      rw d (le_trans (omega (arith, ap length (joined-next i), length-append (joined_to f i) (f i))) (joined-more (i + 1) (n - (i + 1))))

  pub wrote_none : (old : List ℕ) (at : ℕ) → Wrote old at (joined_to f 0) at old
  wrote_none old at = rw joined-none (none old at)

  pub wrote-next : {old mid new : List ℕ} {at r s : ℕ} (i : ℕ) → Wrote old at (joined_to f i) r mid → Wrote mid r (f i) s new → Wrote old at (joined_to f (i + 1)) s new
  wrote-next i a b = rw (joined-next i) (after a b)

  -- there is room for the next one
  pub wrote-room : {old mid : List ℕ} {at r : ℕ} (i n : ℕ) → Wrote old at (joined_to f i) r mid → i < n → at + length (joined_to f n) ≤ length old → r + length (f i) ≤ length mid
  wrote-room i n a l h = omega (arith, a.next, wrote-length a, joined-fits i n l)

  pub wrote-all : {old new : List ℕ} {at r i n : ℕ} → i ≡ n → Wrote old at (joined_to f i) r new → Wrote old at (joined_to f n) r new
  wrote-all e a = rw (← e) a
