-- What the numbers of an answer are told by is the answer of the definitions.
use Rattle.std.proofs.Common.{◌≡◌, ℕ, Result, Ok, Err, refl}
use Rattle.spec.specs.Answer.{Answer}
use Rattle.answer_numbers.specs.Answered.{answered}

-- an answer by cases is the answer by its values and its refusal
pub by_cases : {T E : Type 0} (f : Result T E → Answer (ℕ × ℕ × ℕ)) (values : T → ℕ × ℕ × ℕ) (refusal : E → Answer (ℕ × ℕ × ℕ)) (r : Result T E)
    → ((x : T) → answered values refusal (Ok x) ≡ f (Ok x)) → ((e : E) → answered values refusal (Err e) ≡ f (Err e)) → answered values refusal r ≡ f r
by_cases f values refusal (Ok x) h k = h x
by_cases f values refusal (Err e) h k = k e
