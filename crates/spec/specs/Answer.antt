-- What an operation answers (01, "Refusals by operation").
use Rattle.std.specs.Prelude.{ℕ, Bool, cond}
use Rattle.std.proofs.Math.Option.{Option, none, some}

-- "A refusal returns number and spot": a value, or a refusal's number and its spot
pub data Answer (A : Type 0) : Type 0 where
  gives : A → Answer A
  refuses : ℕ → ℕ → Answer A

-- In a `do` block the lines are judged from the top, and the first refusal is the answer.
infixl 10 ◌>>=◌ ◌>>◌
infix 12 refuse◌at◌when◌ refuse◌at?◌
unfoldable pub ◌>>=◌ : {A B : Type 0} → Answer A → (A → Answer B) → Answer B
gives a >>= f = f a
refuses n s >>= f = refuses n s

unfoldable pub ◌>>◌ : {A B : Type 0} → Answer A → Answer B → Answer B
gives a >> b = b
refuses n s >> b = refuses n s

-- the refusal with this number and spot, if the test passes
unfoldable pub refuse◌at◌when◌ : ℕ → ℕ → Bool → Answer (Unit {0})
refuse n at s when t = cond t (refuses n s) (gives tt)

-- the refusal with this number at the spot that was found, if there is one
unfoldable pub refuse◌at?◌ : ℕ → Option ℕ → Answer (Unit {0})
refuse n at? none = gives tt
refuse n at? some s = refuses n s

-- a value that was found, or the refusal with this number and spot
unfoldable pub found : {A : Type 0} → ℕ → ℕ → Option A → Answer A
found n s none = refuses n s
found n s (some a) = gives a

-- the same refusal, or what f makes of the value that is given
unfoldable pub returned : {A B : Type 0} → (A → B) → Answer A → Answer B
returned f (gives a) = gives (f a)
returned f (refuses n s) = refuses n s
