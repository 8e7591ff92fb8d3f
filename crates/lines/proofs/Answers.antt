-- Answers taken apart.
use Prim.Native.Nat.{ℕ}
use mathlib.Core.Path.{◌≡◌, ap}
use mathlib.Core.Bool.{Bool, true, false, false≢true}
use Rattle.spec.specs.Answer.{Answer, gives, refuses}

module _ {A : Type 0} where
  abbrev pub is_given : Answer A → Bool
  is_given (gives a) = true
  is_given (refuses n s) = false

  abbrev given : A → Answer A → A
  given d (gives a) = a
  given d (refuses n s) = d

  pub refuses≢gives : {n s : ℕ} {a : A} → refuses n s ≡ gives a → ⊥
  refuses≢gives e = false≢true (ap is_given e)

  pub same-given : {a b : A} → gives a ≡ gives b → a ≡ b
  same-given {a} e = ap (given a) e
