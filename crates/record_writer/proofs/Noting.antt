-- Marks written and noted one after the other.
use Prim.Native.Nat.{ℕ, zero, suc, ◌+◌, ◌≤◌, ◌<◌, max}
use mathlib.Core.Path.{◌≡◌, refl, sym, ap, ◌∙◌, subst}
use mathlib.Core.Bool.{Bool, true, false, true≢false}
use mathlib.Core.List.{List, [], ◌∷◌, ◌++◌, map, map-append, append-nil, append_assoc}
use native.Mathlib.Nat.{add-zero, max-zero}
use native.Mathlib.Omega.{arith}
use lib.ListN.{length, length-append}
use Rattle.spec.specs.Lists.{up_to, flat}
use Rattle.spec.specs.Record.{Mark, mark_line, mark_line_of, slot_of, is_at}
use Rattle.lists.specs.Laws
use Rattle.lists.specs.Parts.{parts_none, parts_more, parts_within}
use Rattle.writing.specs.Written.{Wrote}
use Rattle.writing.proofs.Laws.{none, after, wrote-length}
use Rattle.reach.specs.Rows.{cell_of, Raised}
use Rattle.record_columns.specs.Layout.{mark_row, kind_code, mark_value}
use Rattle.record_columns.proofs.Marks.{slot-few, value-append, value-one, says_here, says-away, at_all, at_own_lem}
use Rattle.record_writer.specs.Notes.{NotesMarks, Puts, Room, text_of}
use Rattle.record_writer.specs.declared.Ends.{Ends}

-- ---- one mark

pub noting : (w : Mark) {b b' : List ℕ} → Raised b (mark_row w.condition (slot_of w.kind)) w.event (kind_code w.kind) b' → NotesMarks (w ∷ []) b b'
noting w {b} {b'} r = record { long = r.long; sub = λ h i. r.sub i (h i); cell = λ l s c e k. go s c e k (is_at s c e w) refl }
  where
    go : (s c e : ℕ) → s < 2 → (t : Bool) → is_at s c e w ≡ t → cell_of b' (mark_row c s) e ≡ max (cell_of b (mark_row c s) e) (mark_value (w ∷ []) s c e)
    go s c e k true q =
        let p = at_all w s c e q in
        rw (← p.0, ← p.1, ← p.2) (r.here ∙ omega (
          arith,
          value-one w (slot_of w.kind) w.condition w.event,
          says_here w (slot_of w.kind) w.condition w.event (at_own_lem w _ _ _ refl refl refl),
        ))
    go s c e k false q =
        let u : slot_of w.kind < 2 = slot-few w.kind in
        r.other (mark_row c s) e (λ z. true≢false (sym (at_own_lem w s c e (omega (arith, u, z.0)) (omega (arith, u, z.0)) z.1) ∙ q))
        ∙ omega (arith, value-one w s c e, says-away w s c e q)

pub unnoted : (ws : List Mark) (b : List ℕ) → length b < 4096 → NotesMarks ws b b
unnoted ws b s = record { long = refl; sub = λ h. h; cell = λ l. absurd (omega arith) }

-- ---- marks behind marks

notes-none : (b : List ℕ) → NotesMarks [] b b
unfolding mark_value
notes-none b = record { long = refl; sub = λ h. h; cell = λ l s c e k. sym (max-zero (cell_of b (mark_row c s) e)) }

notes-after : {old mid new : List ℕ} {us vs : List Mark} → NotesMarks us old mid → NotesMarks vs mid new → NotesMarks (us ++ vs) old new
notes-after {us = us} {vs} a b = record {
  long = b.long ∙ a.long;
  sub = λ h. b.sub (a.sub h);
  cell = λ l s c e k. omega (arith, a.cell l s c e k, b.cell (omega (arith, a.long)) s c e k, value-append us vs s c e);
}

text-after : (us vs : List Mark) → text_of us ++ text_of vs ≡ text_of (us ++ vs)
text-after us vs = sym (ap flat (map-append mark_line us vs) ∙ Laws.flat_append (map mark_line us) (map mark_line vs))

pub text-one : (w : Mark) → text_of (w ∷ []) ≡ mark_line w
unfolding flat
text-one w = append-nil (mark_line w)

pub puts_none : (a : Ends) (out rec : List ℕ) → Puts [] a out rec a out rec
unfolding flat
puts_none a out rec = record { text = none out a.at; next = sym (add-zero a.marks); noted = notes-none rec }

pub puts-after : {us vs : List Mark} {a b c : Ends} {out mid new rec rem ren : List ℕ} → Puts us a out rec b mid rem → Puts vs b mid rem c new ren → Puts (us ++ vs) a out rec c new ren
puts-after {us} {vs} x y = record {
  text = rw (← text-after us vs) (after x.text y.text);
  next = omega (arith, x.next, y.next, length-append us vs);
  noted = notes-after x.noted y.noted;
}

pub puts-as : {us vs : List Mark} {a b : Ends} {out mid rec rem : List ℕ} → us ≡ vs → Puts us a out rec b mid rem → Puts vs a out rec b mid rem
puts-as {a = a} {b} {out} {mid} {rec} {rem} e x = subst (λ (ws : List Mark). Puts ws a out rec b mid rem) e x

pub room_as : {us vs : List Mark} {a : Ends} {out rec : List ℕ} → us ≡ vs → Room us a out rec → Room vs a out rec
room_as {a = a} {out} {rec} e x = subst (λ (ws : List Mark). Room ws a out rec) e x

-- the room of two lists is room for the first, and after it for the second
pub room-before : {us : List Mark} (vs : List Mark) {a : Ends} {out rec : List ℕ} → Room (us ++ vs) a out rec → Room us a out rec
room-before {us} vs R = record {
  text = omega (arith, R.text, ap length (text-after us vs), length-append (text_of us) (text_of vs));
  marks = omega (arith, R.marks, length-append us vs);
  sub = R.sub;
}

pub room-behind : {us vs : List Mark} {a b : Ends} {out mid rec rem : List ℕ} → Puts us a out rec b mid rem → Room (us ++ vs) a out rec → Room vs b mid rem
room-behind {us} {vs} x R = record {
  text = omega (arith, R.text, x.text.next, wrote-length x.text, ap length (text-after us vs), length-append (text_of us) (text_of vs));
  marks = omega (arith, R.marks, x.next, length-append us vs);
  sub = x.noted.sub R.sub;
}

-- a mark is written and noted
module _ (w : Mark) {a : Ends} where
  pub room-one : {out rec : List ℕ} → Room (w ∷ []) a out rec → a.at + length (mark_line_of w.kind w.condition w.event) ≤ length out
  unfolding mark_line
  room-one R = omega (arith, R.text, ap length (text-one w))

  pub puts_one : {r : ℕ} {out new rec ren : List ℕ} → Wrote out a.at (mark_line_of w.kind w.condition w.event) r new → NotesMarks (w ∷ []) rec ren → Puts (w ∷ []) a out rec (record { at = r; marks = a.marks + 1 }) new ren
  unfolding mark_line
  puts_one x n = record { text = rw (text-one w) x; next = refl; noted = n }

-- ---- part by part

module _ (f : ℕ → List Mark) where
  pub parts-begin : (a : Ends) (out rec : List ℕ) → Puts (flat (map f (up_to 0))) a out rec a out rec
  parts-begin a out rec = puts-as (sym (parts_none f)) (puts_none a out rec)

  pub parts_next : {a b c : Ends} {out mid new rec rem ren : List ℕ} (i : ℕ) → Puts (flat (map f (up_to i))) a out rec b mid rem → Puts (f i) b mid rem c new ren → Puts (flat (map f (up_to (i + 1)))) a out rec c new ren
  parts_next i x y = puts-as (sym (parts_more f i)) (puts-after x y)

  pub text-parts : (n : ℕ) → text_of (flat (map f (up_to n))) ≡ flat (map (λ i. text_of (f i)) (up_to n))
  unfolding flat
  text-parts n = go (up_to n)
    where
      go : (xs : List ℕ) → text_of (flat (map f xs)) ≡ flat (map (λ i. text_of (f i)) xs)
      go [] = refl
      go (x ∷ xs) = sym (text-after (f x) (flat (map f xs))) ∙ ap (λ (ys : List ℕ). text_of (f x) ++ ys) (go xs)

  -- there is room for the next part
  pub parts-room : {a b : Ends} {out mid rec rem : List ℕ} (i n : ℕ) → Puts (flat (map f (up_to i))) a out rec b mid rem → i < n → Room (flat (map f (up_to n))) a out rec → Room (f i) b mid rem
  parts-room i n x l h = record {
    text = omega (arith, h.text, x.text.next, wrote-length x.text, ap length (text-parts i), ap length (text-parts n), parts_within (λ j. text_of (f j)) i n l);
    marks = omega (arith, h.marks, x.next, parts_within f i n l);
    sub = x.noted.sub h.sub;
  }

  -- parts that are empty add nothing
  pub parts-skip : (i k : ℕ) → ((j : ℕ) → i ≤ j → j < i + k → f j ≡ []) → flat (map f (up_to i)) ≡ flat (map f (up_to (i + k)))
  parts-skip i zero h = ap (λ (n : ℕ). flat (map f (up_to n))) (sym (add-zero i))
  parts-skip i (suc k) h =
      let e : i + k + 1 ≡ i + suc k = omega arith in
      parts-skip i k (λ j l u. h j l (omega arith)) ∙ sym (append-nil (flat (map f (up_to (i + k))))) ∙ ap (λ (ws : List Mark). flat (map f (up_to (i + k))) ++ ws) (sym (h (i + k) (omega arith) (omega arith)))
      ∙ sym (parts_more f (i + k)) ∙ ap (λ (n : ℕ). flat (map f (up_to n))) e

  -- the parts behind the first i, as parts of their own
  pub parts-behind : (i k : ℕ) → flat (map f (up_to (i + k))) ≡ flat (map f (up_to i)) ++ flat (map (λ j. f (i + j)) (up_to k))
  parts-behind i zero = ap (λ (n : ℕ). flat (map f (up_to n))) (add-zero i) ∙ sym (append-nil (flat (map f (up_to i)))) ∙ ap (λ (ws : List Mark). flat (map f (up_to i)) ++ ws) (sym (parts_none (λ j. f (i + j))))
  parts-behind i (suc k) =
      let e : i + suc k ≡ i + k + 1 = omega arith in
      let d : suc k ≡ k + 1 = omega arith in
      ap (λ (n : ℕ). flat (map f (up_to n))) e ∙ parts_more f (i + k) ∙ ap (λ (ws : List Mark). ws ++ f (i + k)) (parts-behind i k)
      ∙ append_assoc (flat (map f (up_to i))) (flat (map (λ j. f (i + j)) (up_to k))) (f (i + k))
      ∙ ap (λ (ws : List Mark). flat (map f (up_to i)) ++ ws) (sym (parts_more (λ j. f (i + j)) k) ∙ ap (λ (n : ℕ). flat (map (λ j. f (i + j)) (up_to n))) (sym d))
