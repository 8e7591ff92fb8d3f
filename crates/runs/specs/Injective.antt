-- Two with the same text are the same. A text is parted into rows, for each line its letter and its fields, as bytes. Fields with
-- the same bytes are the same where both can be written; and where one has fewer digits than can be written, since of a longer
-- number all the digits that can be are. A letter and fields give back what they were written for.
use Rattle.std.specs.Prelude.{◌≡◌, ◌⊎◌, ℕ, ◌^◌, ◌<◌, Bool, true, false, cond, length, get_or, eqb}
use Rattle.std.proofs.Math.Path.{refl, ap}
use Rattle.std.proofs.Common.{sym, ap₂, ◌∙◌, subst, inl, inr, le_refl, arith}
use Prim.Native.Char.{Char, code}
use mathlib.Core.List.Memᴰ
use mathlib.Core.List.{List, [], ◌∷◌, ◌++◌, map, append-nil, append_assoc, map-map, map-id, head-eq_of_cons-eq, tail-eq_of_cons-eq}
use Rattle.spec.specs.Lists.{In, every, flat}
use Rattle.spec.specs.Text.{raw_lines_of, lines_of, named, in_digits, class_of, is_a, most_digits, pieces, digits, field_bytes, line_with}
use Rattle.spec.specs.Forms.{fields_of}
use Rattle.spec.specs.NetText.{Declaration, new_place, new_transition, new_arc, weighted_input, weighted_output, declaration_line, net_bytes}
use Rattle.spec.specs.Record.{RunRecord, Condition, Mark, event_field, event_line, condition_line, mark_line_of, mark_line, record_bytes}
use Rattle.spec.specs.Classes.{alike}
use Rattle.spec.specs.Arranging.{group_line, arrangement_bytes}
use Rattle.spec.specs.Runs.{step_line, log_bytes}
use Rattle.spec.specs.Exactness.{LinesBelow, DeclarationBelow, DeclarationsBelow, RecordBelow, OneReading}
use Rattle.spec.specs.declared.ArcKind.TheVariants.{Input, Output, Inhibitor, Read}
use Rattle.spec.specs.declared.Field.{Field}
use Rattle.spec.specs.declared.Field.TheVariants.{Number, Dash}
use Rattle.spec.specs.declared.MarkKind.{MarkKind}
use Rattle.spec.specs.declared.MarkKind.TheVariants.{Before, After, Read as ReadMark}
use Rattle.lists.specs.Laws.{here, there, clash, map_same, flat_in}
use Rattle.runs.specs.Bytes.{Letter, P-letter, T-letter, I-letter, O-letter, H-letter, S-letter, E-letter, C-letter, B-letter, A-letter, G-letter, R-letter}
use Rattle.runs.specs.Fields.{FieldBelow, FieldsBelow, body-pieces}
use Rattle.runs.specs.Digits.{digits-all, same_digits, small-digits}
use Rattle.runs.specs.LineForms.{event_of, value_of, event-back, event-below, fields_back, numbers-below, values}
use Rattle.runs.specs.Texts.{line-back}

-- ---- fields by their bytes

-- Two that their texts tell apart: the numbers of both can be written, or those of the second have fewer digits than can be.
-- P b says of one that its numbers are below b.
abbrev pub Apart : {X : Type 0} → (ℕ → X → Type 0) → X → X → Type 0
Apart P x y = (P (10 ^ most_digits) x × P (10 ^ most_digits) y) ⊎ P 1000 y

apart : {X Y : Type 0} (P : ℕ → X → Type 0) (Q : ℕ → Y → Type 0) (f : X → Y) → ((b : ℕ) (x : X) → P b x → Q b (f x)) → (x y : X) → Apart P x y → Apart Q (f x) (f y)
apart P Q f h x y (inl p) = inl (h _ x p.0, h _ y p.1)
apart P Q f h x y (inr p) = inr (h _ y p)

no-digits : (n : ℕ) → digits most_digits n ≡ code "-" ∷ [] → ⊥
no-digits n e = clash (rw e at (digits-all most_digits n)) (unfold every is_a alike class_of named in_digits in refl)

field-same : (f g : Field) → Apart FieldBelow f g → field_bytes f ≡ field_bytes g → f ≡ g
unfolding field_bytes
field-same (Number n) (Number m) (inl h) e = ap Number (same_digits most_digits n m (omega arith) h.0 h.1 e)
field-same (Number n) (Number m) (inr h) e = ap Number (small-digits 3 n m (omega arith) h e)
field-same (Number n) Dash h e = absurd (no-digits n e)
field-same Dash (Number m) h e = absurd (no-digits m (sym e))
field-same Dash Dash h e = refl

fields-same : (fs gs : List Field) → Apart FieldsBelow fs gs → map field_bytes fs ≡ map field_bytes gs → fs ≡ gs
fields-same [] [] h e = refl
fields-same [] (g ∷ gs) h e = absurd (omega (arith, ap length e))
fields-same (f ∷ fs) [] h e = absurd (omega (arith, ap length e))
fields-same (f ∷ fs) (g ∷ gs) h e = ap₂ (λ (x : Field) (xs : List Field). x ∷ xs) (field-same f g (heads h) (head-eq_of_cons-eq e)) (fields-same fs gs (tails h) (tail-eq_of_cons-eq e))
  where
    heads : Apart FieldsBelow (f ∷ fs) (g ∷ gs) → Apart FieldBelow f g
    heads (inl h) = inl (h.0.0, h.1.0)
    heads (inr h) = inr h.0

    tails : Apart FieldsBelow (f ∷ fs) (g ∷ gs) → Apart FieldsBelow fs gs
    tails (inl h) = inl (h.0.1, h.1.1)
    tails (inr h) = inr h.1

-- ---- texts as rows

-- the byte of a line's letter, and those of its fields
abbrev pub Row : Type 0
Row = ℕ × List (List ℕ)

unfoldable pub rows_in : List ℕ → List Row
rows_in text = map (λ l. (get_or (get_or (pieces l.bytes) 0 []) 0 0, fields_of l)) (lines_of text)

-- a line in the making: its letter, and its fields
pub record Form : Type 0 where
  pub letter : Char
  pub used : Letter letter
  pub fields : List Field

abbrev formed : {c : Char} → Letter c → List Field → Form
formed {c} L fs = record { letter = c; used = L; fields = fs }

-- the byte of a letter, and fields
abbrev pub Said : Type 0
Said = ℕ × List Field

-- how the elements of a type are written, each as one line, and what is made of such a line's letter and fields
pub record Format {A : Type 0} (print : A → List ℕ) : Type 0 where
  pub form : A → Form
  pub written : (x : A) → print x ≡ line_with (form x).letter (form x).fields
  pub back : Said → A
  pub kept : (x : A) → back (code (form x).letter, (form x).fields) ≡ x

module _ {A : Type 0} {print : A → List ℕ} (F : Format print) where
  abbrev pub fields_for : A → List Field
  fields_for x = (F.form x).fields

  abbrev said : A → Said
  said x = (code (F.form x).letter, fields_for x)

  -- the row of an element's line
  abbrev pub row : A → Row
  row x = (code (F.form x).letter, map field_bytes (fields_for x))

  row_back : (x : A) (rest : List ℕ) → rows_in (print x ++ rest) ≡ row x ∷ rows_in rest
  unfolding rows_in
  row_back x rest =
      let L = (F.form x).used in
      let fs = fields_for x in
      rw (F.written x, line-back L fs rest, fields_back L fs, body-pieces L fs)

  pub rows_back : (xs : List A) (rest : List ℕ) → rows_in (flat (map print xs) ++ rest) ≡ map row xs ++ rows_in rest
  unfolding flat
  rows_back [] rest = refl
  rows_back (x ∷ xs) rest = ap rows_in (append_assoc (print x) (flat (map print xs)) rest) ∙ row_back x _ ∙ ap (λ rs. row x ∷ rs) (rows_back xs rest)

  rows : (xs : List A) → rows_in (flat (map print xs)) ≡ map row xs
  unfolding rows_in lines_of raw_lines_of
  rows xs = ap rows_in (sym (append-nil (flat (map print xs)))) ∙ rows_back xs [] ∙ append-nil (map row xs)

  pub rows_same : (xs ys : List A) → flat (map print xs) ≡ flat (map print ys) → map row xs ≡ map row ys
  rows_same xs ys e = sym (rows xs) ∙ ap rows_in e ∙ rows ys

  abbrev ElementsBelow : ℕ → List A → Type 0
  ElementsBelow b xs = (x : A) → In x xs → FieldsBelow b (fields_for x)

  said_same : (xs ys : List A) → Apart ElementsBelow xs ys → map row xs ≡ map row ys → map said xs ≡ map said ys
  said_same [] [] h e = refl
  said_same [] (y ∷ ys) h e = absurd (omega (arith, ap length e))
  said_same (x ∷ xs) [] h e = absurd (omega (arith, ap length e))
  said_same (x ∷ xs) (y ∷ ys) h e =
      let q = head-eq_of_cons-eq e in
      let fs = fields-same (fields_for x) (fields_for y) (heads h) (ap (λ (r : Row). r.1) q) in
      ap₂ (λ (s : Said) (ss : List Said). s ∷ ss) (ap₂ (λ (c : ℕ) (fs : List Field). (c, fs)) (ap (λ (r : Row). r.0) q) fs) (said_same xs ys (tails h) (tail-eq_of_cons-eq e))
    where
      heads : Apart ElementsBelow (x ∷ xs) (y ∷ ys) → Apart FieldsBelow (fields_for x) (fields_for y)
      heads (inl h) = inl (h.0 x here, h.1 y here)
      heads (inr h) = inr (h y here)

      tails : Apart ElementsBelow (x ∷ xs) (y ∷ ys) → Apart ElementsBelow xs ys
      tails (inl h) = inl (λ z m. h.0 z (there m), λ z m. h.1 z (there m))
      tails (inr h) = inr (λ z m. h z (there m))

  unsaid : (xs : List A) → map F.back (map said xs) ≡ xs
  unsaid xs = map-map F.back said xs ∙ map_same _ (λ x. x) xs (λ x m. F.kept x) ∙ map-id xs

  pub same : (xs ys : List A) → Apart ElementsBelow xs ys → map row xs ≡ map row ys → xs ≡ ys
  same xs ys h e = sym (unsaid xs) ∙ ap (map F.back) (said_same xs ys h e) ∙ unsaid ys

-- ---- lists of numbers: steps and arrangements' lines

abbrev numbers : {print : List ℕ → List ℕ} {c : Char} → Letter c → ((ns : List ℕ) → print ns ≡ line_with c (map Number ns)) → Format print
numbers L w = record { form = λ ns. formed L (map Number ns); written = w; back = λ r. map value_of r.1; kept = values }

-- ---- declarations

abbrev declaration-form : Declaration → Form
declaration-form (new_place v) = formed P-letter (Number v ∷ [])
declaration-form new_transition = formed T-letter []
declaration-form (new_arc Input p t) = formed I-letter (Number p ∷ Number t ∷ [])
declaration-form (new_arc Output p t) = formed O-letter (Number t ∷ Number p ∷ [])
declaration-form (new_arc Inhibitor p t) = formed H-letter (Number p ∷ Number t ∷ [])
declaration-form (new_arc Read p t) = formed R-letter (Number p ∷ Number t ∷ [])
declaration-form (weighted_input p t w) = formed I-letter (Number p ∷ Number t ∷ Number w ∷ [])
declaration-form (weighted_output p t w) = formed O-letter (Number t ∷ Number p ∷ Number w ∷ [])

-- the number of a field, from 0
abbrev number_at : List Field → ℕ → ℕ
number_at fs i = value_of (get_or fs i Dash)

unfoldable declaration-back : Said → Declaration
declaration-back r =
    let u = number_at r.1 0 in
    let v = number_at r.1 1 in
    let w = number_at r.1 2 in
    let plain = eqb (length r.1) 2 in
    cond (eqb r.0 (code "P")) (new_place u) (cond (eqb r.0 (code "T")) new_transition
    (cond (eqb r.0 (code "I")) (cond plain (new_arc Input u v) (weighted_input u v w))
    (cond (eqb r.0 (code "O")) (cond plain (new_arc Output v u) (weighted_output v u w))
    (cond (eqb r.0 (code "H")) (new_arc Inhibitor u v) (new_arc Read u v)))))

declarations : Format declaration_line
unfolding declaration_line declaration-back
declarations = record { form = declaration-form; written = written; back = declaration-back; kept = kept }
  where
    written : (d : Declaration) → declaration_line d ≡ line_with (declaration-form d).letter (declaration-form d).fields
    written (new_place v) = refl
    written new_transition = refl
    written (new_arc Input p t) = refl
    written (new_arc Output p t) = refl
    written (new_arc Inhibitor p t) = refl
    written (new_arc Read p t) = refl
    written (weighted_input p t w) = refl
    written (weighted_output p t w) = refl

    kept : (d : Declaration) → declaration-back (code (declaration-form d).letter, (declaration-form d).fields) ≡ d
    kept (new_place v) = refl
    kept new_transition = refl
    kept (new_arc Input p t) = refl
    kept (new_arc Output p t) = refl
    kept (new_arc Inhibitor p t) = refl
    kept (new_arc Read p t) = refl
    kept (weighted_input p t w) = refl
    kept (weighted_output p t w) = refl

-- ---- records

events : Format event_line
unfolding event_line
events = record { form = λ t. formed E-letter (Number t ∷ []); written = λ t. refl; back = λ r. number_at r.1 0; kept = λ t. refl }

unfoldable condition-back : Said → Condition
condition-back r = record { place = number_at r.1 0; producer = event_of (get_or r.1 1 Dash); consumer = event_of (get_or r.1 2 Dash) }

conditions : Format condition_line
unfolding condition_line condition-back
conditions = record {
  form = λ c. formed C-letter (Number c.place ∷ event_field c.producer ∷ event_field c.consumer ∷ []);
  written = λ c. refl;
  back = condition-back;
  kept = λ c. rw (event-back c.producer, event-back c.consumer);
}

abbrev mark-form : MarkKind → ℕ → ℕ → Form
mark-form Before c e = formed B-letter (Number c ∷ Number e ∷ [])
mark-form After c e = formed A-letter (Number c ∷ Number e ∷ [])
mark-form ReadMark c e = formed R-letter (Number c ∷ Number e ∷ [])

unfoldable mark-back : Said → Mark
mark-back r = record { kind = cond (eqb r.0 (code "B")) Before (cond (eqb r.0 (code "A")) After ReadMark); condition = number_at r.1 0; event = number_at r.1 1 }

marks : Format mark_line
unfolding mark_line mark_line_of mark-back
marks = record { form = λ m. mark-form m.kind m.condition m.event; written = λ m. written m.kind _ _; back = mark-back; kept = λ m. kept m.kind _ _ }
  where
    written : (x : MarkKind) (c e : ℕ) → mark_line_of x c e ≡ line_with (mark-form x c e).letter (mark-form x c e).fields
    written Before c e = refl
    written After c e = refl
    written ReadMark c e = refl

    kept : (x : MarkKind) (c e : ℕ) → mark-back (code (mark-form x c e).letter, (mark-form x c e).fields) ≡ record { kind = x; condition = c; event = e }
    kept Before c e = refl
    kept After c e = refl
    kept ReadMark c e = refl

-- two lists in which the elements that pass a test stand in front of those that do not
parts_same : {A : Type 0} (p : A → Bool) (xs ys vs ws : List A) → ((x : A) → In x xs → p x ≡ true) → ((y : A) → In y ys → p y ≡ false) → ((v : A) → In v vs → p v ≡ true)
    → ((w : A) → In w ws → p w ≡ false) → xs ++ ys ≡ vs ++ ws → (xs ≡ vs) × (ys ≡ ws)
parts_same p [] ys [] ws a b c d e = (refl, e)
parts_same p [] ys (v ∷ vs) ws a b c d e = clash (c v here) (b v (rw e here))
parts_same p (x ∷ xs) ys [] ws a b c d e = clash (a x here) (d x (rw (← e) here))
parts_same p (x ∷ xs) ys (v ∷ vs) ws a b c d e =
    let z = parts_same p xs ys vs ws (λ u m. a u (there m)) b (λ u m. c u (there m)) d (tail-eq_of_cons-eq e) in
    (ap₂ (λ u us. u ∷ us) (head-eq_of_cons-eq e) z.0, z.1)

-- rows of one letter or another
lettered : {A : Type 0} {print : A → List ℕ} (F : Format print) (k : ℕ) (b : Bool) → ((x : A) → eqb (code (F.form x).letter) k ≡ b) → (xs : List A) (r : Row) → In r (map (row F) xs)
    → eqb r.0 k ≡ b
lettered F k b h xs r m = let z = Memᴰ.of_map (row F) xs m in subst (λ r. eqb r.0 k ≡ b) z.2 (h z.0)

marks-lettered : (k : ℕ) → eqb (code "B") k ≡ false → eqb (code "A") k ≡ false → eqb (code "R") k ≡ false → (ms : List Mark) (r : Row) → In r (map (row marks) ms) → eqb r.0 k ≡ false
unfolding marks
marks-lettered k b a r = lettered marks k false (λ m. go m.kind m.condition m.event)
  where
    go : (x : MarkKind) (c e : ℕ) → eqb (code (mark-form x c e).letter) k ≡ false
    go Before c e = b
    go After c e = a
    go ReadMark c e = r

record-rows : (R : RunRecord) → rows_in (record_bytes R) ≡ map (row events) R.events ++ (map (row conditions) R.conditions ++ map (row marks) R.marks)
unfolding record_bytes
record-rows R =
    let cs = flat (map condition_line R.conditions) in
    let ms = flat (map mark_line R.marks) in
    ap rows_in (append_assoc (flat (map event_line R.events)) cs ms) ∙ rows_back events R.events (cs ++ ms)
    ∙ ap (λ rs. map (row events) R.events ++ rs) (rows_back conditions R.conditions ms ∙ ap (λ rs. map (row conditions) R.conditions ++ rs) (rows marks R.marks))

-- records with the same text have the same rows, group by group
groups-same : (R S : RunRecord) → record_bytes R ≡ record_bytes S
    → (map (row events) R.events ≡ map (row events) S.events)
    × (map (row conditions) R.conditions ≡ map (row conditions) S.conditions)
    × (map (row marks) R.marks ≡ map (row marks) S.marks)
unfolding events conditions
groups-same R S e =
    let z = parts_same (λ r. eqb r.0 (code "E")) _ _ _ _ (first R) (others R) (first S) (others S) (sym (record-rows R) ∙ ap rows_in e ∙ record-rows S) in
    let y = parts_same (λ r. eqb r.0 (code "C")) _ _ _ _ (second R) (third R) (second S) (third S) z.1 in
    (z.0, y.0, y.1)
  where
    first : (R : RunRecord) (r : Row) → In r (map (row events) R.events) → eqb r.0 (code "E") ≡ true
    first R = lettered events (code "E") true (λ t. refl) R.events

    others : (R : RunRecord) (r : Row) → In r (map (row conditions) R.conditions ++ map (row marks) R.marks) → eqb r.0 (code "E") ≡ false
    others R r m = elim (Memᴰ.append_cases (map (row conditions) R.conditions) m) [
      | inl i ↦ lettered conditions (code "E") false (λ c. refl) R.conditions r i
      | inr i ↦ marks-lettered (code "E") refl refl refl R.marks r i
    ]

    second : (R : RunRecord) (r : Row) → In r (map (row conditions) R.conditions) → eqb r.0 (code "C") ≡ true
    second R = lettered conditions (code "C") true (λ c. refl) R.conditions

    third : (R : RunRecord) (r : Row) → In r (map (row marks) R.marks) → eqb r.0 (code "C") ≡ false
    third R = marks-lettered (code "C") refl refl refl R.marks

-- ---- the four kinds of texts

lists-same : {print : List ℕ → List ℕ} {c : Char} (L : Letter c) (w : (ns : List ℕ) → print ns ≡ line_with c (map Number ns)) (s t : List (List ℕ)) → Apart LinesBelow s t
    → flat (map print s) ≡ flat (map print t) → s ≡ t
lists-same L w s t h e =
    same (numbers L w) s t (apart LinesBelow (ElementsBelow (numbers L w)) (λ s. s) (λ b s h ns m. numbers-below b ns (λ n i. h n (flat_in s m i))) s t h) (rows_same (numbers L w) s t e)

pub logs-same : (s t : List (List ℕ)) → Apart LinesBelow s t → log_bytes s ≡ log_bytes t → s ≡ t
unfolding log_bytes step_line
logs-same = lists-same S-letter (λ ns. refl)

pub arrangements-same : (s t : List (List ℕ)) → Apart LinesBelow s t → arrangement_bytes s ≡ arrangement_bytes t → s ≡ t
unfolding arrangement_bytes group_line
arrangements-same = lists-same G-letter (λ ns. refl)

declaration-below : (b : ℕ) (d : Declaration) → DeclarationBelow b d → FieldsBelow b (declaration-form d).fields
declaration-below b (new_place v) h = (h, tt)
declaration-below b new_transition h = tt
declaration-below b (new_arc Input p t) h = (h.0, (h.1, tt))
declaration-below b (new_arc Output p t) h = (h.1, (h.0, tt))
declaration-below b (new_arc Inhibitor p t) h = (h.0, (h.1, tt))
declaration-below b (new_arc Read p t) h = (h.0, (h.1, tt))
declaration-below b (weighted_input p t w) h = (h.0, (h.1, (h.2, tt)))
declaration-below b (weighted_output p t w) h = (h.1, (h.0, (h.2, tt)))

pub nets-same : (ds es : List Declaration) → Apart DeclarationsBelow ds es → net_bytes ds ≡ net_bytes es → ds ≡ es
unfolding net_bytes declarations
nets-same ds es h e = same declarations ds es (apart DeclarationsBelow (ElementsBelow declarations) (λ ds. ds) (λ b ds h d m. declaration-below b d (h d m)) ds es h) (rows_same declarations ds es e)

mark-below : (b : ℕ) (x : MarkKind) (c e : ℕ) → c < b → e < b → FieldsBelow b (mark-form x c e).fields
mark-below b Before c e l h = (l, (h, tt))
mark-below b After c e l h = (l, (h, tt))
mark-below b ReadMark c e l h = (l, (h, tt))

pub records-same : (R S : RunRecord) → Apart RecordBelow R S → record_bytes R ≡ record_bytes S → R ≡ S
unfolding events conditions marks
records-same R S h e =
    let z = groups-same R S e in
    let es : R.events ≡ S.events = same events _ _ (apart RecordBelow (ElementsBelow events) (λ R. R.events) (λ b R h t m. (h.transitions t m, tt)) R S h) z.0 in
    let cs : R.conditions ≡ S.conditions = same conditions _ _ (apart RecordBelow (ElementsBelow conditions) (λ R. R.conditions)
    (λ b R h c m. (h.places c m, (event-below b b c.producer (le_refl b) (h.producers c m), (event-below b b c.consumer (le_refl b) (h.consumers c m), tt)))) R S h) z.1 in
    let ms : R.marks ≡ S.marks = same marks _ _ (apart RecordBelow (ElementsBelow marks) (λ R. R.marks)
    (λ b R h m i. mark-below b m.kind m.condition m.event (h.conditions m i) (h.events m i)) R S h) z.2 in
    λ i. record { events = es i; conditions = cs i; marks = ms i }

pub one-reading : OneReading
one-reading = record {
  nets = λ ds es a b. nets-same ds es (inl (a, b));
  logs = λ s t a b. logs-same s t (inl (a, b));
  records = λ R S a b. records-same R S (inl (a, b));
  arrangements = λ s t a b. arrangements-same s t (inl (a, b));
}
