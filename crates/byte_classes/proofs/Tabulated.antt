-- The table, by what it has at each place, and the numbers of the classes.
-- Assumes nothing.
use Prim.Native.Nat.{ℕ, suc, ◌<◌}
use mathlib.Core.Path.{◌≡◌, refl, ap, ap₂, ◌∙◌}
use mathlib.Core.Bool.{Bool, true, ◌&&◌}
use mathlib.Core.List.{List, [], ◌∷◌, map}
use denote.Enum.Declared.{tag_of}
use denote.Enum.Bare.{sameb}
use lib.ListN.{length, get_or}
use lib.Dec.{eqb}
use borrow.Author.Tests.{eqb-true}
use Rattle.spec.specs.Lists.{from}
use Rattle.spec.specs.Text.{class_and_digit}
use Rattle.spec.specs.Classes.{class_code, alike}
use Rattle.spec.specs.declared.Class.{Class}
use Rattle.spec.specs.declared.Class.TheVariants.{Digit, Comma, Dash, LineEnd, LetterP, LetterT, LetterI, LetterO, LetterH, LetterS, LetterE, LetterC, LetterB, LetterA, LetterG, LetterR, LetterK, LetterJ, LetterW, Return, Foreign}
use Rattle.spec.specs.contracts.Class
use Rattle.lists.specs.Laws.{and-true, get_or-table}
use Rattle.byte_entries.specs.Entries.{entry_of, class_by, digit_by}
use Rattle.byte_entries.proofs.Classes.{class-named, value-told}
use Rattle.byte_classes.specs.Table.{byte_table}

-- ---- a list that a function computes, entry by entry

-- the test that is computed: each entry is what the function gives at its place, counted from i
unfoldable pub tabulates : (ℕ → ℕ) → ℕ → List ℕ → Bool
tabulates f i [] = true
tabulates f i (x ∷ xs) = eqb x (f i) && tabulates f (suc i) xs

-- and what it says of the whole list
pub tabulated : (f : ℕ → ℕ) (i : ℕ) (xs : List ℕ) → tabulates f i xs ≡ true → xs ≡ map f (from i (length xs))
unfolding tabulates from
tabulated f i [] h = refl
tabulated f i (x ∷ xs) h = let z = and-true (eqb x (f i)) (tabulates f (suc i) xs) h in ap₂ (λ (y : ℕ) (ys : List ℕ). y ∷ ys) (eqb-true x (f i) z.0) (tabulated f (suc i) xs z.1)

-- the entry of a byte in the table
pub entry_at : {t : List ℕ} → t ≡ byte_table → (b : ℕ) → b < 256 → get_or t b 0 ≡ entry_of b
unfolding byte_table
entry_at e b h = ap (λ (l : List ℕ). get_or l b 0) e ∙ get_or-table entry_of 256 b 0 h

-- so at each byte the table has what the range rule gives: the class and the digit value together
pub table-agrees : (b : ℕ) → b < 256 → (let e = get_or byte_table b 0 in record { class = class_by e; digit = digit_by e }) ≡ class_and_digit b
unfolding class_and_digit
table-agrees b h = rw (entry_at refl b h, class-named b, value-told b)

-- ---- the number of a class

-- its place among the classes
place-is-code : (k : Class) → tag_of Class.the_type k ≡ class_code k
place-is-code Digit = refl
place-is-code Comma = refl
place-is-code Dash = refl
place-is-code LineEnd = refl
place-is-code LetterP = refl
place-is-code LetterT = refl
place-is-code LetterI = refl
place-is-code LetterO = refl
place-is-code LetterH = refl
place-is-code LetterS = refl
place-is-code LetterE = refl
place-is-code LetterC = refl
place-is-code LetterB = refl
place-is-code LetterA = refl
place-is-code LetterG = refl
place-is-code LetterR = refl
place-is-code LetterK = refl
place-is-code LetterJ = refl
place-is-code LetterW = refl
place-is-code Return = refl
place-is-code Foreign = refl

-- so `==` on classes says whether they are alike
pub equal_alike : (k l : Class) → sameb Class.the_type k l ≡ alike k l
unfolding alike
equal_alike k l = rw (place-is-code k, place-is-code l)
