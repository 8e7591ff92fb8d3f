-- Plain lines, put together from their end: a field and the ending, a field, a comma and what follows, and the letter in front.
-- Assumes nothing.
use Prim.Native.Nat.{ℕ, suc, ◌+◌, ◌-◌, ◌≤◌, ◌<◌}
use mathlib.Core.Path.{◌≡◌, refl, sym, ap, ◌∙◌}
use mathlib.Core.Bool.{Bool, true, false, ◌&&◌, not, and-false}
use mathlib.Core.List.{List, [], ◌∷◌, ◌++◌, map, append-nil}
use native.Mathlib.Omega.{arith}
use lib.ListN.{length, get_or, drop}
use lib.Dec.{leb, ltb}
use borrow.Author.Tests.{ltb-true, eqb-true}
use Rattle.spec.specs.Lists.{from, every}
use Rattle.spec.specs.Text.{Line, named, in_digits, class_of, digit_of, is_a, on_first, lines_of, needless_zero, is_number, grow, pieces, is_only, is_dash}
use Rattle.line_forms.specs.Rows.{slot_of, letter_of, letter_in, slots_of, row_of}
use Rattle.spec.specs.Classes.{alike}
use Rattle.spec.specs.declared.Class.TheVariants.{Comma, LineEnd, LetterP, LetterW, Return, Foreign}
use Rattle.line_forms.specs.declared.Slot.{Slot}
use Rattle.line_forms.specs.declared.Slot.TheVariants.{Dash, Absent}
use Rattle.lists.specs.Along.{rest_at}
use Rattle.lists.specs.Laws.{and-true, and-three, every_in, from_in, not-is-true}
use Rattle.lists.specs.LineEnds.{ten-first, return-first, other-first}
use Rattle.byte_entries.specs.Entries.{code_of, entry_of, class_by}
use Rattle.byte_entries.proofs.Classes.{comma-entry, class-named}
use Rattle.lines.specs.Lines.{line_of, LineTo, Ending, ten, return-ten, PastEnding, past_by, Ahead, EndedTo, opening_of, opens_with}
use Rattle.lines.specs.declared.Cursor.{Cursor}
use Rattle.lines.specs.declared.Opening.{Opening}
use Rattle.lines.proofs.Lines.{past-told, went_on, here, on-by, ahead_of}
use Rattle.digits.specs.Digits.{between, Stands, Without, IsField, FieldTo}
use Rattle.digits.proofs.Digits.{parted}
use Rattle.plain_lines.specs.Plain.{Opens, LetterEntry, Begins, Lettered, Listed, row_with, PlainLine, MayRead, ThreeAt}

-- ---- a byte

comma-byte : is_a Comma 44 ≡ true
unfolding is_a alike class_of named in_digits
comma-byte = refl

comma-goes-on : is_a LineEnd 44 ≡ false
unfolding is_a alike class_of named in_digits
comma-goes-on = refl

comma-no-return : is_a Return 44 ≡ false
unfolding is_a alike class_of named in_digits
comma-no-return = refl

-- ---- bytes in front of a line, and of a piece

line-grows : (b : ℕ) (bs l : List ℕ) (ls : List Line) → is_a LineEnd b ≡ false → is_a Return b ≡ false → lines_of bs ≡ record { bytes = l; ended = true } ∷ ls → lines_of (b ∷ bs) ≡ record { bytes = b ∷ l; ended = true } ∷ ls
unfolding on_first
line-grows b bs l ls e n r = other-first b bs e n ∙ rw r

lines-grow : (p bs l : List ℕ) (ls : List Line) → Without LineEnd p → Without Return p → lines_of bs ≡ record { bytes = l; ended = true } ∷ ls → lines_of (p ++ bs) ≡ record { bytes = p ++ l; ended = true } ∷ ls
lines-grow [] bs l ls w n r = r
lines-grow (b ∷ p) bs l ls w n r = line-grows b (p ++ bs) (p ++ l) ls w.0 n.0 (lines-grow p bs l ls w.1 n.1 r)

-- an ending is an empty line
line-ends : {s : List ℕ} {at next : ℕ} → Ending s at next → lines_of (drop at s) ≡ record { bytes = []; ended = true } ∷ lines_of (drop next s)
line-ends (ten e) = ap lines_of e ∙ ten-first _
line-ends (return-ten e) = ap lines_of e ∙ return-first _

last-piece : (p : List ℕ) → Without Comma p → pieces p ≡ p ∷ []
unfolding pieces grow
last-piece [] w = refl
last-piece (b ∷ p) w = rw (w.0, last-piece p w.1)

piece_back : (p bs : List ℕ) → Without Comma p → pieces (p ++ 44 ∷ bs) ≡ p ∷ pieces bs
unfolding pieces grow
piece_back [] bs w = rw comma-byte
piece_back (b ∷ p) bs w = rw (w.0, piece_back p bs w.1)

-- ---- a line from its end

-- from a position on stand these fields and an ending
pub record Tail (most : ℕ) (s : List ℕ) (at next : ℕ) (fs : List Slot) : Type 0 where
  pub bytes : List ℕ
  pub lines : lines_of (drop at s) ≡ record { bytes = bytes; ended = true } ∷ lines_of (drop next s)
  pub fields : map (slot_of most) (pieces bytes) ≡ fs

stood : {b : ℕ} {s : List ℕ} {at : ℕ} → Stands b s at → drop at s ≡ b ∷ drop (at + 1) s
stood {b} {s} {at} h = rest_at s at h.within ∙ ap (λ (x : ℕ). x ∷ drop (at + 1) s) h.byte

module _ {most : ℕ} {s : List ℕ} {at e : ℕ} {f : Slot} (h : at ≤ e) (p : IsField most (between s at e) f) where
  pub last-field : {next : ℕ} → Ending s e next → Tail most s at next (f ∷ [])
  last-field {next} w = record {
    bytes = between s at e;
    lines = ap lines_of (parted s at e h) ∙ rw append-nil at (lines-grow (between s at e) (drop e s) [] (lines_of (drop next s)) p.ends p.returns (line-ends w));
    fields = ap (map (slot_of most)) (last-piece (between s at e) p.commas) ∙ ap (λ (x : Slot). x ∷ []) p.field;
  }

  pub more-fields : {next : ℕ} {fs : List Slot} → Stands 44 s e → Tail most s (e + 1) next fs → Tail most s at next (f ∷ fs)
  more-fields {next} {fs} w t = record {
    bytes = between s at e ++ 44 ∷ t.bytes;
    lines =
        ap lines_of (parted s at e h ∙ ap (λ (r : List ℕ). between s at e ++ r) (stood w))
        ∙ lines-grow (between s at e) (44 ∷ drop (e + 1) s) (44 ∷ t.bytes) (lines_of (drop next s)) p.ends p.returns (line-grows 44 (drop (e + 1) s) t.bytes (lines_of (drop next s)) comma-goes-on comma-no-return t.lines);
    fields =
        ap (map (slot_of most)) (piece_back (between s at e) t.bytes p.commas)
        ∙ ap (λ (x : Slot). x ∷ map (slot_of most) (pieces t.bytes)) p.field
        ∙ ap (λ (r : List Slot). f ∷ r) t.fields;
  }

-- ---- the letter in front

row-with : (most : ℕ) (l : List ℕ) (x : ℕ) {fs : List Slot} → letter_in l ≡ class_of x → slots_of most l ≡ fs → row_of most l ≡ row_with (class_of x) fs
unfolding row_of
row-with most l x e q = rw (e, q)

module _ (x : ℕ) (e : is_a Comma x ≡ false) where
  letter-is : (l : List ℕ) → letter_in (x ∷ 44 ∷ l) ≡ class_of x
  unfolding letter_in letter_of
  letter-is l = rw (piece_back (x ∷ []) l (e, tt))

  fields-are : (most : ℕ) (l : List ℕ) (fs : List Slot) → map (slot_of most) (pieces l) ≡ fs → slots_of most (x ∷ 44 ∷ l) ≡ fs
  unfolding slots_of
  fields-are most l fs q = rw (piece_back (x ∷ []) l (e, tt)) q

  letter-only : letter_in (x ∷ []) ≡ class_of x
  unfolding letter_in letter_of
  letter-only = rw (last-piece (x ∷ []) (e, tt))

  fields-no : (most : ℕ) → slots_of most (x ∷ []) ≡ []
  unfolding slots_of
  fields-no most = rw (last-piece (x ∷ []) (e, tt))

module _ {most : ℕ} {s : List ℕ} {at : ℕ} (b : Begins s at) where
  pub plain-line : {next : ℕ} {fs : List Slot} → Stands 44 s (at + 1) → Tail most s (at + 2) next fs → PlainLine most s at next fs
  plain-line {next} {fs} w t = record {
    bytes = get_or s at 0 ∷ 44 ∷ t.bytes;
    lines =
        ap lines_of (rest_at s at b.within ∙ ap (λ (r : List ℕ). get_or s at 0 ∷ r) (stood w))
        ∙ line-grows (get_or s at 0) _ (44 ∷ t.bytes) (lines_of (drop next s)) b.letter.end b.letter.return (line-grows 44 _ t.bytes (lines_of (drop next s)) comma-goes-on comma-no-return (ap (λ (i : ℕ). lines_of (drop i s)) two ∙ t.lines));
    letter = letter;
    fields = fields;
    row = row-with most _ (get_or s at 0) letter fields;
  }
    where
      two : at + 1 + 1 ≡ at + 2
      two = omega arith

      letter : letter_in (get_or s at 0 ∷ 44 ∷ t.bytes) ≡ class_of (get_or s at 0)
      letter = letter-is (get_or s at 0) b.letter.comma t.bytes

      fields : slots_of most (get_or s at 0 ∷ 44 ∷ t.bytes) ≡ fs
      fields = fields-are (get_or s at 0) b.letter.comma most t.bytes fs t.fields

  pub letter-alone : {next : ℕ} → Ending s (at + 1) next → PlainLine most s at next []
  letter-alone w = record {
    bytes = get_or s at 0 ∷ [];
    lines = ap lines_of (rest_at s at b.within) ∙ line-grows (get_or s at 0) _ [] _ b.letter.end b.letter.return (line-ends w);
    letter = letter-only (get_or s at 0) b.letter.comma;
    fields = fields-no (get_or s at 0) b.letter.comma most;
    row = row-with most _ (get_or s at 0) (letter-only (get_or s at 0) b.letter.comma) (fields-no (get_or s at 0) b.letter.comma most);
  }

-- ---- a dash

pub dash-field : (most : ℕ) {s : List ℕ} {at : ℕ} → Stands 45 s at → IsField most (between s at (at + 1)) Dash
unfolding slot_of is_number needless_zero digit_of every is_dash is_only is_a alike class_of named in_digits
dash-field most {s} {at} h = let z : at + 1 - at ≡ suc 0 = omega arith in rw (z, stood h) (record { commas = (refl, tt); ends = (refl, tt); returns = (refl, tt); field = dashed })
  where
    dashed : slot_of most (45 ∷ []) ≡ Dash
    dashed = rw (and-false (leb 1 1 && leb 1 most && not false))

-- ---- what stands behind what was read

-- a return lies in front of a line end, so a byte stands behind it
pub returns-on : {most : ℕ} {s : List ℕ} {at end stop : ℕ} {f : Slot} → ((stop ≡ code_of Foreign → ⊥) → FieldTo most s at end stop f) → stop ≡ code_of Return → end + 1 < length s
returns-on read e = let r = read (λ z. omega arith) in here (on-by r.ahead r.stops (λ z. omega arith))

module _ {most : ℕ} {s : List ℕ} {at end stop : ℕ} {f : Slot} (read : (stop ≡ code_of Foreign → ⊥) → FieldTo most s at end stop f) where
  -- a comma
  pub record Parted : Type 0 where
    pub field : FieldTo most s at end stop f
    pub comma : Stands 44 s end
    pub ahead : Ahead s (end + 1)

  pub parted-by : stop ≡ 10 → Parted
  parted-by e = let r = read (λ z. omega arith) in record {
    field = r;
    comma = record { within = here r.ahead; byte = comma-entry (get_or s end 0) (sym r.stops ∙ e) };
    ahead = on-by r.ahead r.stops (λ z. omega arith);
  }

  -- an ending, which is passed
  pub record Ended (next : ℕ) : Type 0 where
    pub field : FieldTo most s at end stop f
    pub within : next ≤ length s
    pub ending : Ending s end next

  pub ended_by : {next : ℕ} → next ≡ past_by stop s end → (next ≡ end → ⊥) → Ended next
  ended_by {next} e d =
      let r = read (λ z. d (e ∙ none_told z)) in
      let p : PastEnding s end next = rw e (past-told s end r.stops (here r.ahead) (returns-on read)) in
      let g = went_on p d in
      record { field = r; within = p.within g; ending = p.ending g }
    where
      none_told : stop ≡ code_of Foreign → past_by stop s end ≡ end
      none_told z = unfold past_by in (rw z)

-- ---- a line that is read, and one of another form

abbrev pub plain_at : {most : ℕ} {s : List ℕ} {at next : ℕ} {fs : List Slot} → next ≤ length s → PlainLine most s at next fs → at < next → LineTo s at next
plain_at w l h = record { line = line_of l.bytes true; lines = l.lines; on = h; within = omega arith }

abbrev pub plain-to : {most : ℕ} {s : List ℕ} {at next : ℕ} {fs : List Slot} → MayRead most s at next fs → at < next → LineTo s at next
plain-to r h = plain_at r.within (r.line h) h

pub stays : {most : ℕ} {s : List ℕ} {at : ℕ} {fs : List Slot} → at < length s → MayRead most s at at fs
stays h = record { within = omega arith; line = λ l. absurd (omega arith) }

pub stays-three : {most : ℕ} {s : List ℕ} {at : ℕ} → at < length s → ThreeAt most s at (record { a = 0; b = Absent; c = Absent; next = at })
stays-three h = record { read = stays h; second = λ l. absurd (omega arith); third = λ l. absurd (omega arith) }

-- ---- the first two bytes of a line

-- every letter in use may begin a line: one test over their entries, from that of P to that of W
pub letter-entry : (e : ℕ) → code_of LetterP ≤ e → e ≤ code_of LetterW → LetterEntry e
unfolding every from alike class_by
letter-entry e h l =
    let p : ℕ → Bool = λ n. not (alike (class_by n) Comma) && not (alike (class_by n) LineEnd) && not (alike (class_by n) Return) in
    let z = and-three (not (alike (class_by e) Comma)) (not (alike (class_by e) LineEnd)) (not (alike (class_by e) Return)) (every_in p (from 13 15) refl e (from_in e 13 15 h (omega arith))) in
    record { comma = not-is-true _ z.0; end = not-is-true _ z.1; return = not-is-true _ z.2 }

pub opens_by : (b : ℕ) {e : ℕ} → LetterEntry e → entry_of b ≡ e → Opens b
unfolding is_a
opens_by b l q = record { comma = rw (← class-named b, q) l.comma; end = rw (← class-named b, q) l.end; return = rw (← class-named b, q) l.return }

-- what the entries at a cursor tell, where they tell anything
module _ (s : List ℕ) (c : Cursor) {o : Opening} (t : EndedTo s c.ended) (q : o ≡ opening_of s c) (d : o.letter ≡ code_of Foreign → ⊥) where
  pub record Opened : Type 0 where
    pub within : c.at + 1 < c.ended
    pub letter : o.letter ≡ entry_of (get_or s c.at 0)
    pub behind : o.behind ≡ entry_of (get_or s (c.at + 1) 0)

  pub opened : Opened
  opened = go (ltb (c.at + 1) c.ended) refl
    where
      go : (b : Bool) → ltb (c.at + 1) c.ended ≡ b → Opened
      go true e = record { within = ltb-true _ _ e; letter = ap (λ (z : Opening). z.letter) q ∙ rw e; behind = ap (λ (z : Opening). z.behind) q ∙ rw e }
      go false e = absurd (d (ap (λ (z : Opening). z.letter) q ∙ rw e))

  begins : LetterEntry o.letter → Begins s c.at
  begins l = record { within = omega (arith, opened.within, t.within); letter = opens_by (get_or s c.at 0) l (sym opened.letter) }

  pub lettered : LetterEntry o.letter → Lettered s c.at o.behind
  lettered l = record { begins = begins l; told = opened.behind; ahead = ahead_of t (c.at + 1) opened.within }

  pub listed : LetterEntry o.letter → o.behind ≡ 10 → Listed s c.at
  listed l e =
      let a = ahead_of t (c.at + 1) opened.within in
      let n : c.at + 1 + 1 ≡ c.at + 2 = omega arith in record {
        begins = begins l;
        comma = record { within = here a; byte = comma-entry (get_or s (c.at + 1) 0) (sym opened.behind ∙ e) };
        ahead = rw n at (on-by a opened.behind (λ z. omega arith));
      }

-- a letter in use and a comma stand at a position, with a line end ahead
abbrev pub BeginsWith : List ℕ → ℕ → ℕ → Type 0
BeginsWith s at e = Listed s at × (entry_of (get_or s at 0) ≡ e)

-- an opening that tells them
module _ (s : List ℕ) (c : Cursor) {o : Opening} (t : EndedTo s c.ended) (q : o ≡ opening_of s c) where
  pub begins-with : {e : ℕ} → code_of LetterP ≤ e → e ≤ code_of LetterW → o.letter ≡ e → o.behind ≡ code_of Comma → BeginsWith s c.at e
  begins-with l u h k =
      let d : o.letter ≡ code_of Foreign → ⊥ = λ x. omega arith in
      (listed s c t q d (letter-entry o.letter (omega arith) (omega arith)) k, sym (opened s c t q d).letter ∙ h)

  pub opens-list : (e : ℕ) → code_of LetterP ≤ e → e ≤ code_of LetterW → opens_with e o ≡ true → BeginsWith s c.at e
  opens-list e l u h = let z = and-true _ _ h in begins-with l u (eqb-true _ _ z.0) (eqb-true _ _ z.1)
