-- An accepted `do` block taken apart: no test of it passed, and each part gave a value.
use Rattle.std.specs.Prelude.{◌≡◌, refl, ℕ, Bool, true, false, cond}
use Rattle.std.proofs.Common.{arith}
use Rattle.std.proofs.Math.Option.{Option, none, some}
use Rattle.spec.specs.Answer.{Answer, gives, refuses, ◌>>=◌, ◌>>◌, refuse◌at◌when◌, refuse◌at?◌}

pub of-gives : {A : Type 0} {a b : A} → gives a ≡ gives b → a ≡ b
of-gives p = cc

pub not-refused : {A X : Type 0} {a : A} {n s : ℕ} → refuses n s ≡ gives a → X
not-refused p = let z : ◌≡◌ {A = ℕ} 0 1 = cc in absurd (omega arith)

pub of-bind : {A B : Type 0} (m : Answer A) (f : A → Answer B) {b : B} → (m >>= f) ≡ gives b → (a : A) × (m ≡ gives a) × (f a ≡ gives b)
unfolding ◌>>=◌
of-bind (gives a) f h = (a, refl, h)
of-bind (refuses n s) f h = not-refused h

pub of-seq : {A B : Type 0} (m : Answer A) (x : Answer B) {b : B} → (m >> x) ≡ gives b → (a : A) × (m ≡ gives a) × (x ≡ gives b)
unfolding ◌>>◌
of-seq (gives a) x h = (a, refl, h)
of-seq (refuses n s) x h = not-refused h

pub of-when : {A : Type 0} (n s : ℕ) (t : Bool) (x : Answer A) {a : A} → (refuse n at s when t >> x) ≡ gives a → (t ≡ false) × (x ≡ gives a)
unfolding refuse◌at◌when◌ ◌>>◌
of-when n s true x h = not-refused h
of-when n s false x h = (refl, h)

pub of-lowest : {A : Type 0} (n : ℕ) (o : Option ℕ) (x : Answer A) {a : A} → (refuse n at? o >> x) ≡ gives a → (o ≡ none) × (x ≡ gives a)
unfolding refuse◌at?◌ ◌>>◌
of-lowest n none x h = (refl, h)
of-lowest n (some s) x h = not-refused h

pub of-last : (n : ℕ) (o : Option ℕ) {a : Unit {0}} → (refuse n at? o) ≡ gives a → o ≡ none
unfolding refuse◌at?◌
of-last n none h = refl
of-last n (some s) h = not-refused h

-- one of two answers, by a test
pub of-cond : {A X : Type 0} (t : Bool) (x y : Answer A) {a : A} → cond t x y ≡ gives a → (t ≡ true → x ≡ gives a → X) → (y ≡ gives a → X) → X
of-cond true x y h f g = f refl h
of-cond false x y h f g = g h
