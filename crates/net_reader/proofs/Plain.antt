-- Lines of a net text, by their rows, and what plain lines add.
use Prim.Native.Nat.{ℕ, ◌+◌, ◌-◌, ◌*◌, ◌≤◌, ◌<◌}
use mathlib.Core.Path.{◌≡◌, refl, sym, ◌∙◌}
use mathlib.Core.Logic.{inl, inr}
use native.Mathlib.Omega.{arith}
use lib.Dec.{lit<, eqb}
use mathlib.Core.Bool.{Bool, true, false, ◌&&◌, cond}
use mathlib.Core.List.{List, [], ◌∷◌}
use lib.ListN.{length, get_or, drop, take}
use Rattle.spec.specs.Answer.{Answer, refuses}
use Rattle.spec.specs.Text.{named, in_digits, class_of, most_digits}
use Rattle.spec.specs.Forms.{is_line}
use Rattle.line_forms.specs.Rows.{row_of, is_alone, is_one, is_two, is_triple}
use Rattle.line_forms.proofs.Ties.{alone-line, one_line, two-line, triple-line, number-at}
use Rattle.spec.specs.Classes.{class_code, alike}
use Rattle.spec.specs.Net.{Net as NetD, add_place, add_transition, add_line}
use Rattle.line_forms.specs.declared.Slot.{Slot}
use Rattle.line_forms.specs.declared.Slot.TheVariants.{Number}
use Rattle.lines.specs.Lines.{line_of, LineAt, past_by}
use Rattle.lines.specs.declared.Span.{Span}
use Rattle.lines.proofs.Lines.{line-to}
use Rattle.spec.specs.declared.Class.{Class}
use Rattle.spec.specs.declared.Class.TheVariants.{LetterP, LetterT, LetterI, LetterO, LetterH, LetterR, LetterW, Foreign, LineEnd, Return}
use Rattle.byte_entries.specs.Entries.{code_of, entry_of}
use Rattle.byte_entries.proofs.Classes.{entry-class}
use Rattle.lines.specs.declared.Opening.{Opening}
use Rattle.plain_lines.specs.Plain.{LetterEntry, row_with, PlainLine, MayRead}
use Rattle.plain_lines.proofs.Plain.{letter-entry, plain_at}
use Rattle.spec.specs.declared.ArcKind.{ArcKind}
use Rattle.spec.specs.declared.ArcKind.TheVariants.{Input, Output, Inhibitor, Read}
use Rattle.net.specs.NetArrays.{kind_count, reads_at, offset_of, Arrays, Bears, Steps}
use Rattle.net_reader.specs.Reads.{add_row, ArcEntry, ArcLetter, kind_by, IsArcLine, ArcLineRead, add_letter, Takes, size_after, GoesOn}
use Rattle.net_reader.specs.declared.ArcLine.{ArcLine}
use Rattle.net.specs.declared.Size.{Size}
use Rattle.net.specs.declared.NetRefusal.{NetRefusal}
use Rattle.std.specs.Prelude.{Result}
use Rattle.net_reader.specs.declared.Took.{Took}

-- ---- a line by its row

module _ (k : ℕ) (b : List ℕ) (n : NetD) where
  pub row-added : add_line k (line_of b true) n ≡ add_row k (row_of most_digits b) n
  unfolding add_line add_row row_of alike class_of named in_digits
  row-added =
      let l = line_of b true in
      rw (one_line "P" refl l, alone-line "T" refl l, two-line "I" refl l, triple-line "I" refl l, two-line "O" refl l, triple-line "O" refl l, two-line "H" refl l, two-line "R" refl l, number-at l 0, number-at l 1, number-at l 2)

  -- by its row if it is ended; one that is not has no form
  pub ended-added : {e : Bool} → e ≡ true → add_line k (line_of b e) n ≡ add_row k (row_of most_digits b) n
  ended-added h = rw h row-added

  pub unended-refused : {e : Bool} → e ≡ false → add_line k (line_of b e) n ≡ refuses 11 k
  unfolding add_line is_line
  unended-refused h = rw h

-- ---- plain lines

-- the entries of arcs' letters are among those of letters
arc-bounds : {e : ℕ} → ArcEntry e → (code_of LetterP ≤ e) × (e ≤ code_of LetterW)
arc-bounds (inl q) = (omega arith, omega arith)
arc-bounds (inr (inl q)) = (omega arith, omega arith)
arc-bounds (inr (inr (inl q))) = (omega arith, omega arith)
arc-bounds (inr (inr (inr q))) = (omega arith, omega arith)

pub arc-entry : {o : Opening} → ArcLetter o → LetterEntry o.letter
arc-entry {o} a = let b = arc-bounds a.letter in letter-entry o.letter b.0 b.1

pub arc-tells : {o : Opening} → ArcLetter o → o.letter ≡ code_of Foreign → ⊥
arc-tells a z = omega (arith, (arc-bounds a.letter).1)

module _ (k : ℕ) {text : List ℕ} {i next : ℕ} (m : NetD) where
  pub place-line : {v : ℕ} (l : PlainLine 4 text i next (Number v ∷ [])) → entry_of (get_or text i 0) ≡ 13 → add_line k (line_of l.bytes true) m ≡ add_place k v m
  unfolding add_row is_alone is_one is_two alike
  place-line l e = row-added k l.bytes m ∙ rw (l.row, entry-class (get_or text i 0) LetterP (lit< tt) e)

  pub transition-line : (l : PlainLine 4 text i next []) → entry_of (get_or text i 0) ≡ 14 → add_line k (line_of l.bytes true) m ≡ add_transition k m
  unfolding add_row is_alone is_one is_two alike
  transition-line l e = row-added k l.bytes m ∙ rw (l.row, entry-class (get_or text i 0) LetterT (lit< tt) e)

  -- by its letter and its numbers
  module _ {e : ℕ} (q : e ≡ entry_of (get_or text i 0)) where
    by_row : {fs : List Slot} (l : PlainLine 4 text i next fs) (c : Class) → 1 ≤ class_code c → e ≡ code_of c → add_line k (line_of l.bytes true) m ≡ add_row k (row_with c fs) m
    by_row l c h z = row-added k l.bytes m ∙ rw (l.row, entry-class (get_or text i 0) c h (sym q ∙ z))

    pub arc-line : (r : ArcLine) → ArcEntry e → (l : PlainLine 4 text i next (Number r.first ∷ Number r.second ∷ [])) → r.weight ≡ 1 → add_line k (line_of l.bytes true) m ≡ add_letter e k r m
    unfolding add_row add_letter kind_by is_alone is_one is_two is_triple alike
    arc-line r (inl z) l w = by_row l LetterI (lit< tt) z ∙ rw (z, w)
    arc-line r (inr (inl z)) l w = by_row l LetterO (lit< tt) z ∙ rw (z, w)
    arc-line r (inr (inr (inl z))) l w = by_row l LetterH (lit< tt) z ∙ rw (z, w)
    arc-line r (inr (inr (inr z))) l w = by_row l LetterR (lit< tt) z ∙ rw (z, w)

    pub weighted-line : (r : ArcLine) → ArcEntry e → (l : PlainLine 4 text i next (Number r.first ∷ Number r.second ∷ Number r.weight ∷ [])) → e < code_of LetterH → add_line k (line_of l.bytes true) m ≡ add_letter e k r m
    unfolding add_row add_letter kind_by is_alone is_one is_two is_triple alike
    weighted-line r (inl z) l h = by_row l LetterI (lit< tt) z ∙ rw z
    weighted-line r (inr (inl z)) l h = by_row l LetterO (lit< tt) z ∙ rw z
    weighted-line r (inr (inr (inl z))) l h = absurd (omega arith)
    weighted-line r (inr (inr (inr z))) l h = absurd (omega arith)

-- the next line starts behind an ending that was passed
pub passes : (e : ℕ) (s : List ℕ) (at next : ℕ) → next ≡ past_by e s at → (next ≡ at → ⊥) → at < next
unfolding past_by
passes e s at next q d = omega (arith, d, q, step (eqb e (code_of LineEnd)) (eqb e (code_of Return) && eqb (entry_of (get_or s (at + 1) 0)) (code_of LineEnd)))
  where
    step : (b c : Bool) → at ≤ cond b (at + 1) (cond c (at + 2) at)
    step true c = omega arith
    step false true = omega arith
    step false false = omega arith

-- only an input or an output weighs more than 1
pub line-bears : {text : List ℕ} {i e : ℕ} (r : ArcLine) → ArcEntry e → IsArcLine text i e r → Bears (kind_by e) r.weight
unfolding kind_by
line-bears r (inl z) l = rw z tt
line-bears r (inr (inl z)) l = rw z tt
line-bears r (inr (inr (inl z))) (inl l) = rw z l.1
line-bears r (inr (inr (inl z))) (inr l) = absurd (omega (arith, l.1))
line-bears r (inr (inr (inr z))) (inl l) = rw z l.1
line-bears r (inr (inr (inr z))) (inr l) = absurd (omega (arith, l.1))

-- the arcs of each kind stand within their array
pub offset-within : (x : ArcKind) → offset_of x ≤ reads_at
offset-within Input = omega arith
offset-within Output = omega arith
offset-within Inhibitor = omega arith
offset-within Read = omega arith

-- those of the first three kinds one behind the other
pub kind-place : (e : ℕ) → ArcEntry e → (e ≡ code_of LetterR → ⊥) → (15 ≤ e) × (e ≤ 17) × ((e - 15) * kind_count ≡ offset_of (kind_by e))
unfolding kind_by
kind-place e (inl q) d = (omega arith, omega arith, rw q)
kind-place e (inr (inl q)) d = (omega arith, omega arith, rw q)
kind-place e (inr (inr (inl q))) d = (omega arith, omega arith, rw q)
kind-place e (inr (inr (inr q))) d = absurd (d q)

-- ---- a line that is added

module _ {text : List ℕ} {i k : ℕ} {s : Size} {a a' : Arrays} (r : Result Took NetRefusal) where
  -- a plain line that the definitions add as f does
  plain-adds : {next : ℕ} {fs : List Slot} (f : NetD → Answer NetD) → next ≤ length text → (l : PlainLine 4 text i next fs) → i < next → ((m : NetD) → add_line k (line_of l.bytes true) m ≡ f m)
      → GoesOn r next → Steps s a f (size_after r) a' → Takes text i k s a r a'
  plain-adds {next} f w l h e o g = record { next = next; found = plain_at w l h; on = o; steps = λ m d. rw (e m) (g m d) }

  pub plain-takes : {next : ℕ} {fs : List Slot} (f : NetD → Answer NetD) → (p : MayRead 4 text i next fs) (h : i < next) → ((m : NetD) (l : PlainLine 4 text i next fs) → add_line k (line_of l.bytes true) m ≡ f m)
      → GoesOn r next → Steps s a f (size_after r) a' → Takes text i k s a r a'
  plain-takes f p h e o g = plain-adds f p.within (p.line h) h (λ m. e m (p.line h)) o g

  -- an arc's line
  pub arc-takes : {e : ℕ} (l : ArcLine) → ArcLineRead text i e l → ArcEntry e → e ≡ entry_of (get_or text i 0)
      → GoesOn r l.next → (Bears (kind_by e) l.weight → Steps s a (add_letter e k l) (size_after r) a') → Takes text i k s a r a'
  arc-takes {e} l A x q o g = go A.line
    where
      go : IsArcLine text i e l → Takes text i k s a r a'
      go (inl p) = plain-adds (add_letter e k l) A.within p.0 A.on (λ m. arc-line k m q l x p.0 p.1) o (g (line-bears l x (inl p)))
      go (inr p) = plain-adds (add_letter e k l) A.within p.0 A.on (λ m. weighted-line k m q l x p.0 p.1) o (g (line-bears l x (inr p)))

  pub line-takes : {l : Span} → LineAt text i l → GoesOn r l.next → Steps s a (add_line k (line_of (take (l.end - i) (drop i text)) l.ended)) (size_after r) a' → Takes text i k s a r a'
  line-takes {l} h o g = record { next = l.next; found = line-to h; on = o; steps = g }
