-- What the table of bytes has for each byte, and where the first byte stands that passes a test.
use Rattle.std.specs.Prelude.{ℕ, suc, ◌+◌, ◌-◌, Bool, cond, List, [], ◌∷◌, get_or, eqb, ltb}
use Rattle.spec.specs.Text.{in_digits, class_of, digit_of, is_a}
use Rattle.spec.specs.Classes.{class_code}
use Rattle.spec.specs.declared.Class.{Class}
use Rattle.spec.specs.declared.Class.TheVariants.{Digit, Comma, Dash, LineEnd, LetterP, LetterT, LetterI, LetterO, LetterH, LetterS, LetterE, LetterC, LetterB, LetterA, LetterG, LetterR, LetterK, LetterJ, LetterW, Return, Foreign}

-- the number of a class other than the digits'
abbrev pub code_of : Class → ℕ
code_of k = 9 + class_code k

-- both the class and the digit value in one entry: a digit has its value, and any other byte the number of its class
unfoldable pub entry_of : ℕ → ℕ
entry_of b = cond (in_digits b) (digit_of b) (code_of (class_of b))

-- the class and the digit value that an entry stands for
abbrev pub classes_behind : List Class
classes_behind =
    Comma ∷ Dash ∷ LineEnd ∷ LetterP ∷ LetterT ∷ LetterI ∷ LetterO ∷ LetterH ∷ LetterS ∷ LetterE ∷ LetterC ∷ LetterB
    ∷ LetterA ∷ LetterG ∷ LetterR ∷ LetterK ∷ LetterJ ∷ LetterW ∷ Return ∷ []

unfoldable pub class_by : ℕ → Class
class_by e = cond (ltb e 10) Digit (get_or classes_behind (e - 10) Foreign)

unfoldable pub digit_by : ℕ → ℕ
digit_by e = cond (ltb e 10) e 0

-- a byte has this entry
abbrev pub is_entry : ℕ → ℕ → Bool
is_entry e b = eqb (entry_of b) e

-- how many bytes stand before the first that passes a test
unfoldable pub before_first : (ℕ → Bool) → List ℕ → ℕ
before_first p [] = 0
before_first p (b ∷ bs) = cond (p b) 0 (suc (before_first p bs))

-- before the first of a class
abbrev pub before : Class → List ℕ → ℕ
before k = before_first (is_a k)
