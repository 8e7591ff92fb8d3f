-- An answer of the code agrees with one of the definitions.
use Rattle.std.specs.Prelude.{ℕ, ◌≡◌}
use Rattle.spec.specs.Answer.{Answer, gives, refuses}

-- Both give, the code the paper's values, and H holds of what is given; or both refuse, with one number and spot.
pub data Agrees {A B : Type 0} (values : A → B) (x : Answer B) (H : A → Type 0) (a : Answer A) : Type 0 where
  giving : (m : A) → a ≡ gives m → x ≡ gives (values m) → H m → Agrees values x H a
  refusing : (n s : ℕ) → a ≡ refuses n s → x ≡ refuses n s → Agrees values x H a

-- the refusal with this number and spot
abbrev pub refused_as : {A : Type 0} → ℕ × ℕ → Answer A
refused_as x = refuses x.0 x.1
