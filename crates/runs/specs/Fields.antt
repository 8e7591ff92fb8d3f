-- Lines as fields: the pieces of a line that is written are its letter and its fields, and a line with this letter and these
-- fields is what is written for them.
use Rattle.std.specs.Prelude.{◌≡◌, ℕ, ◌^◌, ◌<◌, Bool, true, cond, length, get_or, eqb}
use Rattle.std.proofs.Math.Path.{refl, ap}
use Rattle.std.proofs.Common.{sym, ◌∙◌, subst, arith, eqb-true}
use Rattle.std.proofs.Math.Logic.{inl, inr}
use Prim.Native.Char.{Char, code}
use Rattle.std.proofs.Math.Bool.{false}
use mathlib.Core.List.Memᴰ
use mathlib.Core.List.{List, [], ◌∷◌, ◌++◌, map, append-nil, tail-eq_of_cons-eq}
use Rattle.std.proofs.Math.ListN.{drop}
use Rattle.spec.specs.Lists.{In, flat}
use Rattle.spec.specs.Classes.{alike}
use Rattle.spec.specs.Text.{Line, named, in_digits, class_of, is_a, most_digits, grow, pieces, is_only, is_dash, digits, field_bytes, fields_bytes}
use Rattle.spec.specs.Forms.{has_letter, fields_of}
use Rattle.spec.specs.declared.Class.{Class}
use Rattle.spec.specs.declared.Class.TheVariants.{Digit, Comma, Dash as DashByte}
use Rattle.spec.specs.declared.Field.{Field}
use Rattle.spec.specs.declared.Field.TheVariants.{Number, Dash}
use Rattle.lists.specs.Laws.{here, there, true-or-false, and-true, every_in, in-flat-map}
use Rattle.runs.specs.Bytes.{other-class, comma-is, dash-is, Letter}
use Rattle.runs.specs.Digits.{digits-all}

-- ---- fields

-- a number below b, or a dash
abbrev pub FieldBelow : ℕ → Field → Type 0
FieldBelow b (Number n) = n < b
FieldBelow b Dash = Unit {0}

-- a field that can be written: a number of at most `most_digits` digits, or a dash
abbrev pub Writable : Field → Type 0
Writable f = FieldBelow (10 ^ most_digits) f

abbrev pub FieldsBelow : ℕ → List Field → Type 0
FieldsBelow b [] = Unit {0}
FieldsBelow b (f ∷ fs) = FieldBelow b f × FieldsBelow b fs

abbrev pub AllWritable : List Field → Type 0
AllWritable fs = FieldsBelow (10 ^ most_digits) fs

one_of : (bs : List ℕ) → length bs ≡ 1 → bs ≡ get_or bs 0 0 ∷ []
one_of [] h = absurd (omega arith)
one_of (b ∷ []) h = refl
one_of (b ∷ c ∷ bs) h = absurd (omega arith)

-- a piece of one byte, where the class has one byte
only-byte : (k : Class) (x : ℕ) → ((b : ℕ) → is_a k b ≡ true → b ≡ x) → (p : List ℕ) → is_only k p ≡ true → p ≡ x ∷ []
unfolding is_only
only-byte k x o p h = let z = and-true (eqb (length p) 1) (is_a k (get_or p 0 0)) h in one_of p (eqb-true _ _ z.0) ∙ ap (λ (b : ℕ). b ∷ []) (o (get_or p 0 0) z.1)

pub dash-bytes : (p : List ℕ) → is_dash p ≡ true → p ≡ code "-" ∷ []
unfolding is_dash
dash-bytes = only-byte DashByte (code "-") dash-is

-- ---- pieces

-- no byte of the list is of the class
abbrev pub Lacks : Class → List ℕ → Type 0
Lacks k bs = (b : ℕ) → In b bs → is_a k b ≡ false

pub field-lacks : (k : Class) → alike Digit k ≡ false → alike DashByte k ≡ false → (f : Field) → Lacks k (field_bytes f)
unfolding field_bytes
field-lacks k d h (Number n) b m = other-class Digit k d b (every_in (is_a Digit) (digits most_digits n) (digits-all most_digits n) b m)
field-lacks k d h Dash b m = rw (Memᴰ.eq_of_singleton m) (other-class DashByte k h (code "-") (unfold is_a alike class_of named in_digits in refl))

comma-parts : is_a Comma (code ",") ≡ true
unfolding is_a alike class_of named in_digits
comma-parts = refl

last-piece : (p : List ℕ) → Lacks Comma p → pieces p ≡ p ∷ []
unfolding pieces grow
last-piece [] w = refl
last-piece (b ∷ bs) w = rw (w b here, last-piece bs (λ x m. w x (there m)))

piece_back : (p rest : List ℕ) → Lacks Comma p → pieces (p ++ code "," ∷ rest) ≡ p ∷ pieces rest
unfolding pieces grow
piece_back [] rest w = rw comma-parts
piece_back (b ∷ bs) rest w = rw (w b here, piece_back bs rest (λ x m. w x (there m)))

pieces-back : (p : List ℕ) (fs : List Field) → Lacks Comma p → pieces (p ++ fields_bytes fs) ≡ p ∷ map field_bytes fs
unfolding fields_bytes alike
pieces-back p [] l = ap pieces (append-nil p) ∙ last-piece p l
pieces-back p (f ∷ fs) l =
    piece_back p (field_bytes f ++ fields_bytes fs) l
    ∙ ap (λ (ps : List (List ℕ)). p ∷ ps) (pieces-back (field_bytes f) fs (field-lacks Comma refl refl f))

-- a line has a first piece
pub pieces-some : (bs : List ℕ) → (p : List ℕ) × (ps : List (List ℕ)) × (pieces bs ≡ p ∷ ps)
unfolding pieces grow
pieces-some [] = ([], [], refl)
pieces-some (b ∷ bs) = elim (true-or-false (is_a Comma b)) [
  | inl t ↦ rw t ([], pieces bs, refl)
  | inr t ↦ let z = pieces-some bs in rw (t, z.2) (b ∷ z.0, z.1, refl)
]

-- a comma and one piece more behind it
pub pieces_more : (bs p : List ℕ) → Lacks Comma p → pieces (bs ++ code "," ∷ p) ≡ pieces bs ++ p ∷ []
unfolding pieces grow
pieces_more [] p l = rw (comma-parts, last-piece p l)
pieces_more (b ∷ bs) p l = elim (true-or-false (is_a Comma b)) [
  | inl t ↦ rw (t, pieces_more bs p l)
  | inr t ↦ let z = pieces-some bs in rw (t, pieces_more bs p l, z.2)
]

-- pieces, each led by a comma
unfoldable led : List (List ℕ) → List ℕ
led ps = flat (map (λ p. code "," ∷ p) ps)

led-grow : (b : ℕ) (ps : List (List ℕ)) (bs : List ℕ) → led ps ≡ code "," ∷ bs → led (grow b ps) ≡ code "," ∷ b ∷ bs
unfolding led flat grow
led-grow b [] bs h = let z : ◌≡◌ {A = ℕ} 0 1 = cc in absurd (omega arith)
led-grow b (p ∷ ps) bs h = ap (λ (l : List ℕ). code "," ∷ b ∷ l) (tail-eq_of_cons-eq h)

led-pieces : (bs : List ℕ) → led (pieces bs) ≡ code "," ∷ bs
unfolding pieces
led-pieces [] = unfold led flat in refl
led-pieces (b ∷ bs) = go (is_a Comma b) refl (led-pieces bs)
  where
    go : (t : Bool) → is_a Comma b ≡ t → led (pieces bs) ≡ code "," ∷ bs → led (cond t ([] ∷ pieces bs) (grow b (pieces bs))) ≡ code "," ∷ b ∷ bs
    go true e h = unfold led flat in (ap (λ (l : List ℕ). code "," ∷ l) (h ∙ ap (λ (x : ℕ). x ∷ bs) (sym (comma-is b e))))
    go false e h = led-grow b (pieces bs) bs h

led-fields : (fs : List Field) → led (map field_bytes fs) ≡ fields_bytes fs
unfolding led flat fields_bytes
led-fields [] = refl
led-fields (f ∷ fs) = ap (λ (l : List ℕ). code "," ∷ field_bytes f ++ l) (led-fields fs)

-- ---- lines without their end

-- the bytes of a line in front of byte 10
unfoldable pub body : Char → List Field → List ℕ
body c fs = code c ∷ fields_bytes fs

abbrev pub ended : List ℕ → Line
ended bs = record { bytes = bs; ended = true }

module _ {c : Char} (L : Letter c) where
  pub body-pieces : (fs : List Field) → pieces (body c fs) ≡ (code c ∷ []) ∷ map field_bytes fs
  unfolding body
  body-pieces fs = pieces-back (code c ∷ []) fs (λ b m. rw (Memᴰ.eq_of_singleton m) L.no_comma)

  line-pieces : (ps : List (List ℕ)) → is_only (class_of (code c)) (get_or ps 0 []) ≡ true → ps ≡ (code c ∷ []) ∷ drop 1 ps
  line-pieces [] h = let z : [] ≡ code c ∷ [] = only-byte (class_of (code c)) (code c) L.only [] h in let q : ◌≡◌ {A = ℕ} 0 1 = cc in absurd (omega arith)
  line-pieces (p ∷ ps) h = ap (λ (q : List ℕ). q ∷ ps) (only-byte (class_of (code c)) (code c) L.only p h)

  pub body_is : (l : Line) (fs : List Field) → has_letter c l ≡ true → map field_bytes fs ≡ fields_of l → l.bytes ≡ body c fs
  unfolding has_letter fields_of body led flat
  body_is l fs h e =
      let q : led (drop 1 (pieces l.bytes)) ≡ fields_bytes fs = ap led (sym e) ∙ led-fields fs in
      tail-eq_of_cons-eq (sym (led-pieces l.bytes) ∙ ap led (line-pieces (pieces l.bytes) h) ∙ ap (λ (r : List ℕ). code "," ∷ code c ∷ r) q)

  -- a line that begins with the letter lacks a class if the letter, the comma and its fields do
  pub line-lacks : (k : Class) → is_a k (code ",") ≡ false → is_a k (code c) ≡ false → (l : Line) → has_letter c l ≡ true → ((p : List ℕ) → In p (fields_of l) → Lacks k p) → Lacks k l.bytes
  unfolding has_letter fields_of led
  line-lacks k x y l h w b m =
      let ps : List (List ℕ) = (code c ∷ []) ∷ drop 1 (pieces l.bytes) in
      let e : led ps ≡ code "," ∷ l.bytes = ap led (sym (line-pieces (pieces l.bytes) h)) ∙ led-pieces l.bytes in
      let z = in-flat-map (λ p. code "," ∷ p) ps (subst (λ (bs : List ℕ). In b bs) (sym e) (there m)) in
      elim (Memᴰ.cases_cons z.2) [
        | inl q ↦ rw q x
        | inr u ↦ elim (Memᴰ.cases_cons z.1) [
          | inl q ↦ rw (Memᴰ.eq_of_singleton (subst (λ (p : List ℕ). In b p) q u)) y
          | inr v ↦ w z.0 v b u
        ]
      ]
