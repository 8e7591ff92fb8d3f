-- Whether two classes of bytes are the same: by a number for each. Document 01 has no sentence on it.
use Rattle.std.specs.Prelude.{ℕ, Bool, eqb}
use Rattle.spec.specs.declared.Class.{Class}
use Rattle.spec.specs.declared.Class.TheVariants.{Digit, Comma, Dash, LineEnd, LetterP, LetterT, LetterI, LetterO, LetterH, LetterS, LetterE, LetterC, LetterB, LetterA, LetterG, LetterR, LetterK, LetterJ, LetterW, Return, Foreign}

abbrev pub class_code : Class → ℕ
class_code Digit = 0
class_code Comma = 1
class_code Dash = 2
class_code LineEnd = 3
class_code LetterP = 4
class_code LetterT = 5
class_code LetterI = 6
class_code LetterO = 7
class_code LetterH = 8
class_code LetterS = 9
class_code LetterE = 10
class_code LetterC = 11
class_code LetterB = 12
class_code LetterA = 13
class_code LetterG = 14
class_code LetterR = 15
class_code LetterK = 16
class_code LetterJ = 17
class_code LetterW = 18
class_code Return = 19
class_code Foreign = 20

unfoldable pub alike : Class → Class → Bool
alike k l = eqb (class_code k) (class_code l)
