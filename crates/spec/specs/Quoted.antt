-- Texts as document 01 quotes them, and tests of answers, for the cases that compute.
use Rattle.std.specs.Prelude.{ℕ, Bool, true, false, ◌&&◌, cond, List, [], ◌∷◌, ◌++◌, map, set, replicate, eqb}
use Prim.Native.Char.{code}
use Prim.Native.String.{String, [] as end_of_text, ◌∷◌ as ◌then◌}
use Rattle.spec.specs.Answer.{Answer, gives, refuses}
use Rattle.spec.specs.declared.Limits.{Limits}

-- the bytes of a quoted text
unfoldable pub ascii : String → List ℕ
ascii end_of_text = []
ascii (c then s) = code c ∷ ascii s

space→end : ℕ → ℕ
space→end b = cond (eqb b (code " ")) 10 b

with_end : List ℕ → List ℕ
with_end [] = []
with_end (b ∷ bs) = (b ∷ bs) ++ 10 ∷ []

-- "each on its line (spaces here part lines)"
unfoldable pub as_text : String → List ℕ
unfolding ascii space→end with_end
as_text s = with_end (map space→end (ascii s))

-- the same without the last byte 10
unfoldable pub unended : String → List ℕ
unfolding ascii space→end
unended s = map space→end (ascii s)

unfoldable pub same : List ℕ → List ℕ → Bool
same [] [] = true
same [] (b ∷ bs) = false
same (a ∷ as') [] = false
same (a ∷ as') (b ∷ bs) = eqb a b && same as' bs

-- the answer is this refusal
unfoldable pub refused : {A : Type 0} → ℕ → ℕ → Answer A → Bool
refused n s (gives a) = false
refused n s (refuses m r) = eqb m n && eqb r s

-- the answer is no refusal, and the test passes
unfoldable pub given : {A : Type 0} → (A → Bool) → Answer A → Bool
given p (gives a) = p a
given p (refuses m r) = false

-- the answer is no refusal
unfoldable pub passes : {A : Type 0} → Answer A → Bool
passes a = given (λ v. true) a

-- limits that are met sooner than document 01's: so many events, conditions and marks
unfoldable pub at_most : ℕ → ℕ → ℕ → Limits
at_most e c m = record { events = e; conditions = c; marks = m }

-- `size` zeros but for the entries listed, each with its place
unfoldable pub zeros_but : ℕ → List (ℕ × ℕ) → List ℕ
zeros_but size [] = replicate size 0
zeros_but size (p ∷ ps) = set (zeros_but size ps) p.0 p.1
