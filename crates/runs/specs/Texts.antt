-- Texts as lines: a line that is written is read back, and a text is the bytes of its lines, but for their endings.
use Rattle.std.specs.Prelude.{◌≡◌, refl, ℕ, ◌<◌, true, false, cond, length, get_or}
use Rattle.std.proofs.Common.{sym, ap, ◌∙◌}
use Rattle.std.proofs.Math.Logic.{inl, inr}
use Prim.Native.Char.{Char, code}
use mathlib.Core.List.Memᴰ
use mathlib.Core.List.{List, [], ◌∷◌, ◌++◌, map, append_assoc}
use Rattle.spec.specs.Lists.{flat}
use Rattle.spec.specs.Text.{named, in_digits, class_of, is_a, Line, on_first, lines_of, field_bytes, fields_bytes, line_with}
use Rattle.spec.specs.Forms.{FieldForm, fields_of, is_line, is_list_line, numbers_of}
use Rattle.spec.specs.Classes.{alike}
use Rattle.spec.specs.Endings.{plain_ends}
use Rattle.spec.specs.declared.Class.{Class}
use Rattle.spec.specs.declared.Class.TheVariants.{Digit, Dash as DashByte, LineEnd, Return}
use Rattle.spec.specs.declared.Field.{Field}
use Rattle.spec.specs.declared.Field.TheVariants.{Number}
use Rattle.lists.specs.Laws.{here, there}
use Rattle.lists.specs.LineEnds.{ten-first, return-first, other-first, no-first}
use Rattle.runs.specs.Bytes.{Letter}
use Rattle.runs.specs.Endings.{plain-none, plain-ten, plain-return, by-endings}
use Rattle.runs.specs.Fields.{Lacks, field-lacks, body, ended}
use Rattle.runs.specs.LineForms.{asked, form-is, list-is}

-- ---- the lines of a text

first-line : (bs rest : List ℕ) → Lacks LineEnd bs → Lacks Return bs → lines_of (bs ++ 10 ∷ rest) ≡ ended bs ∷ lines_of rest
unfolding on_first
first-line [] rest w r = ten-first rest
first-line (b ∷ bs) rest w r = rw (other-first b (bs ++ 10 ∷ rest) (w b here) (r b here), first-line bs rest (λ x m. w x (there m)) (λ x m. r x (there m)))

-- no byte of a line that is written is of a class that its letter, digits, dashes and commas are not of
module _ (k : Class) (digit : alike Digit k ≡ false) (dash : alike DashByte k ≡ false) (comma : is_a k (code ",") ≡ false) where
  fields-lack : (fs : List Field) → Lacks k (fields_bytes fs)
  unfolding fields_bytes
  fields-lack [] b m = absurd (Memᴰ.not-nil m)
  fields-lack (f ∷ fs) b (Memᴰ.head e) = rw e comma
  fields-lack (f ∷ fs) b (Memᴰ.tail m) = elim (Memᴰ.append_cases (field_bytes f) m) [
    | inl i ↦ field-lacks k digit dash f b i
    | inr i ↦ fields-lack fs b i
  ]

  body-lacks : (c : Char) → is_a k (code c) ≡ false → (fs : List Field) → Lacks k (body c fs)
  unfolding body
  body-lacks c l fs b (Memᴰ.head e) = rw e l
  body-lacks c l fs b (Memᴰ.tail m) = fields-lack fs b m

ends-none : (c : Char) → is_a LineEnd (code c) ≡ false → (fs : List Field) → Lacks LineEnd (body c fs)
unfolding is_a alike class_of named in_digits
ends-none = body-lacks LineEnd refl refl refl

pub returns-none : (c : Char) → is_a Return (code c) ≡ false → (fs : List Field) → Lacks Return (body c fs)
unfolding is_a alike class_of named in_digits
returns-none = body-lacks Return refl refl refl

pub line-back : {c : Char} → Letter c → (fs : List Field) (rest : List ℕ) → lines_of (line_with c fs ++ rest) ≡ ended (body c fs) ∷ lines_of rest
unfolding line_with body
line-back {c} L fs rest = ap lines_of (append_assoc (body c fs) (10 ∷ []) rest) ∙ first-line (body c fs) rest (ends-none c L.no_end fs) (returns-none c L.no_return fs)

-- a line's bytes with byte 10 as its ending
unfoldable pub line_bytes : Line → List ℕ
line_bytes l = l.bytes ++ cond l.ended (10 ∷ []) []

lines_none : flat (map line_bytes []) ≡ []
unfolding flat
lines_none = refl

lines-grow : (b : ℕ) (ls : List Line) → flat (map line_bytes (on_first b ls)) ≡ b ∷ flat (map line_bytes ls)
unfolding on_first line_bytes flat
lines-grow b [] = refl
lines-grow b (l ∷ ls) = refl

lines_end : (ls : List Line) → flat (map line_bytes (ended [] ∷ ls)) ≡ 10 ∷ flat (map line_bytes ls)
unfolding line_bytes flat
lines_end ls = refl

-- a text is the bytes of its lines, each with byte 10 as its ending
pub text-is : (text : List ℕ) → flat (map line_bytes (lines_of text)) ≡ plain_ends text
text-is = by-endings (λ text. flat (map line_bytes (lines_of text)) ≡ plain_ends text)
    (ap (λ (ls : List Line). flat (map line_bytes ls)) no-first ∙ lines_none ∙ sym plain-none)
    (λ bs h. ap (λ (ls : List Line). flat (map line_bytes ls)) (ten-first bs) ∙ lines_end (lines_of bs) ∙ ap (λ (l : List ℕ). 10 ∷ l) h ∙ sym (plain-ten bs))
    (λ bs h. ap (λ (ls : List Line). flat (map line_bytes ls)) (return-first bs ∙ sym (ten-first bs)) ∙ h ∙ sym (plain-return bs))
    (λ b bs w h. ap (λ (ls : List Line). flat (map line_bytes ls)) w.first ∙ lines-grow b (lines_of bs) ∙ ap (λ (l : List ℕ). b ∷ l) h ∙ sym w.plain)

-- a line of a form is what is written for its values
ended-line : (c : Char) (fs : List Field) (l : Line) → l.ended ≡ true → l.bytes ≡ body c fs → line_bytes l ≡ line_with c fs
unfolding line_bytes line_with body
ended-line c fs l e h = rw (e, h)

pub form-line : {c : Char} → Letter c → (xs : List FieldForm) (l : Line) → is_line c xs l ≡ true → line_bytes l ≡ line_with c (asked xs (λ i. get_or (fields_of l) i []))
form-line {c} L xs l h = let z = form-is L xs l h in ended-line c _ l z.0 z.1

pub list-line : {c : Char} → Letter c → (l : Line) → is_list_line c l ≡ true → (line_bytes l ≡ line_with c (map Number (numbers_of l))) × (0 < length (numbers_of l))
list-line {c} L l h = let z = list-is L l h in (ended-line c _ l z.0 z.1, z.2)
