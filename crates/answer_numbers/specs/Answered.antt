-- An answer of the code as one of the definitions, by what its value returns and what its refusal says.
use Rattle.std.specs.Prelude.{ℕ, Result, Ok, Err}
use Rattle.spec.specs.Answer.{Answer, gives}

abbrev pub answered : {T E : Type 0} → (T → ℕ × ℕ × ℕ) → (E → Answer (ℕ × ℕ × ℕ)) → Result T E → Answer (ℕ × ℕ × ℕ)
answered values refusal (Ok x) = gives (values x)
answered values refusal (Err e) = refusal e
