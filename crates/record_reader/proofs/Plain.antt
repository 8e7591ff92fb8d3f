-- Lines of a record text, by their rows, and what plain lines enter.
use Rattle.std.specs.Prelude.{Option, None, Some, MatchOption, Result, Ok, Err}
use Prim.Native.Nat.{ℕ, ◌-◌, ◌≤◌, ◌<◌}
use mathlib.Core.Path.{◌≡◌, refl, subst, ◌∙◌}
use mathlib.Core.Bool.{Bool, true, false, cond}
use mathlib.Core.List.{List, [], ◌∷◌}
use native.Mathlib.Omega.{arith}
use lib.ListN.{get_or, drop, take}
use lib.Dec.{lit<, eqb}
use borrow.Author.Tests.{eqb-true}
use Rattle.spec.specs.Answer.{Answer, refuses}
use Rattle.spec.specs.Text.{named, in_digits, class_of, most_digits}
use Rattle.spec.specs.Net.{Net}
use Rattle.spec.specs.Record.{RunRecord}
use Rattle.spec.specs.Checking.{condition_of, mark_in, enter_event, enter_condition, enter_mark, enter_line}
use Rattle.spec.specs.Forms.{is_line}
use Rattle.line_forms.specs.Rows.{value_of, a_number_or_dash, row_of, is_one, is_two, is_three}
use Rattle.line_forms.proofs.Ties.{one_line, two-line, three-line, event-at, number-at}
use Rattle.spec.specs.Classes.{alike}
use Rattle.spec.specs.declared.Class.TheVariants.{Comma, LetterE, LetterC, LetterB, LetterA, LetterR, LetterP, LetterW}
use Rattle.spec.specs.declared.MarkKind.{MarkKind}
use Rattle.spec.specs.declared.MarkKind.TheVariants.{Before, After, Read}
use Rattle.spec.specs.declared.Limits.{Limits}
use Rattle.line_forms.specs.declared.Row.{Row}
use Rattle.line_forms.specs.declared.Slot.{Slot}
use Rattle.line_forms.specs.declared.Slot.TheVariants.{Number}
use Rattle.byte_entries.specs.Entries.{code_of, entry_of}
use Rattle.byte_entries.proofs.Classes.{entry-class}
use Rattle.lines.specs.Lines.{LineTo, line_of, LineAt, EndedTo, opening_of}
use Rattle.lines.specs.declared.Cursor.{Cursor}
use Rattle.lines.specs.declared.Opening.{Opening}
use Rattle.lines.specs.declared.Span.{Span}
use Rattle.lines.proofs.Lines.{line-to}
use Rattle.plain_lines.specs.Plain.{PlainLine, MayRead}
use Rattle.plain_lines.proofs.Plain.{plain-to, BeginsWith, begins-with}
use Rattle.record_columns.specs.Enters.{Entered, Enters, condition_in, mark_of}
use Rattle.record_columns.proofs.Answers.{entered-same}
use Rattle.record_reader.specs.Reads.{Declares, Takes, letter_of, kind_in, kind_by, enter_row}
use Rattle.record_columns.specs.declared.Bounds.{Bounds}
use Rattle.record_columns.specs.declared.Counts.{Counts}
use Rattle.record_columns.specs.declared.RecordRefusal.{RecordRefusal}
use Rattle.record_reader.specs.declared.Took.{Took}

-- ---- a line by its row

module _ (lim : Limits) (k : ℕ) (b : List ℕ) (N : Net) (R : RunRecord) where
  pub row-entered : enter_line lim N k (line_of b true) R ≡ enter_row lim N k (row_of most_digits b) R
  unfolding enter_line condition_of mark_in enter_row row_of alike class_of named in_digits
  row-entered =
      let l = line_of b true in
      rw (one_line "E" refl l, three-line "C" refl l, two-line "B" refl l, two-line "A" refl l, two-line "R" refl l, number-at l 0, number-at l 1, event-at l 1, event-at l 2)

  -- by its row if it is ended; one that is not has no form
  pub ended-entered : {e : Bool} → e ≡ true → enter_line lim N k (line_of b e) R ≡ enter_row lim N k (row_of most_digits b) R
  ended-entered h = rw h row-entered

  pub unended-refused : {e : Bool} → e ≡ false → enter_line lim N k (line_of b e) R ≡ refuses 31 k
  unfolding enter_line is_line
  unended-refused h = rw h

-- what a row enters that enters neither an event nor a condition: a mark of its kind, if it has one
module _ (lim : Limits) (k : ℕ) (w : Row) (N : Net) (R : RunRecord) where
  abbrev EntersKind : Option MarkKind → Type 0
  EntersKind o = MatchOption o (enter_row lim N k w R ≡ refuses 31 k) (λ x. enter_row lim N k w R ≡ enter_mark lim k (mark_of x (value_of w.first) (value_of w.second)) R)

  by-kind : is_one LetterE w ≡ false → is_three LetterC w ≡ false → EntersKind (kind_in w)
  unfolding enter_row
  by-kind p q = go (is_two LetterB w) refl (is_two LetterA w) refl (is_two LetterR w) refl
    where
      go : (a : Bool) → is_two LetterB w ≡ a → (b : Bool) → is_two LetterA w ≡ b → (c : Bool) → is_two LetterR w ≡ c → EntersKind (cond a (Some Before) (cond b (Some After) (cond c (Some Read) None)))
      go true e b f c g = rw (p, q, e)
      go false e true f c g = rw (p, q, e, f)
      go false e false f true g = rw (p, q, e, f, g)
      go false e false f false g = rw (p, q, e, f, g)

  pub mark-entered : is_one LetterE w ≡ false → is_three LetterC w ≡ false → {x : MarkKind} → kind_in w ≡ Some x → enter_row lim N k w R ≡ enter_mark lim k (mark_of x (value_of w.first) (value_of w.second)) R
  mark-entered p q e = subst EntersKind e (by-kind p q)

  pub no-row : is_one LetterE w ≡ false → is_three LetterC w ≡ false → kind_in w ≡ None → enter_row lim N k w R ≡ refuses 31 k
  no-row p q e = subst EntersKind e (by-kind p q)

-- ---- plain lines

-- the letters of marks: each is known by its entry, and stands among those of letters
pub kind-letter : (e : ℕ) (x : MarkKind) → kind_by e ≡ Some x → e ≡ code_of (letter_of x)
kind-letter e x h = go (eqb e (code_of LetterB)) (eqb e (code_of LetterA)) (eqb e (code_of LetterR)) refl refl refl h
  where
    go : (a b c : Bool) → eqb e (code_of LetterB) ≡ a → eqb e (code_of LetterA) ≡ b → eqb e (code_of LetterR) ≡ c
        → cond a (Some Before) (cond b (Some After) (cond c (Some Read) None)) ≡ Some x → e ≡ code_of (letter_of x)
    go true b c p q r k = let y : Before ≡ x = cc in rw (← y) (eqb-true _ _ p)
    go false true c p q r k = let y : After ≡ x = cc in rw (← y) (eqb-true _ _ q)
    go false false true p q r k = let y : Read ≡ x = cc in rw (← y) (eqb-true _ _ r)
    go false false false p q r k = cc

letter-bounds : (x : MarkKind) → (code_of LetterP ≤ code_of (letter_of x)) × (code_of (letter_of x) ≤ code_of LetterW)
letter-bounds Before = (omega arith, omega arith)
letter-bounds After = (omega arith, omega arith)
letter-bounds Read = (omega arith, omega arith)

pub begins-mark : (s : List ℕ) (c : Cursor) {o : Opening} (x : MarkKind) → EndedTo s c.ended → o ≡ opening_of s c → o.letter ≡ code_of (letter_of x) → o.behind ≡ code_of Comma → BeginsWith s c.at (code_of (letter_of x))
begins-mark s c x t q h k = let b = letter-bounds x in begins-with s c t q b.0 b.1 h k

module _ (lim : Limits) (k : ℕ) {text : List ℕ} {i next : ℕ} (N : Net) (R : RunRecord) where
  pub event-line : {t : ℕ} (l : PlainLine 4 text i next (Number t ∷ [])) → entry_of (get_or text i 0) ≡ 19 → enter_line lim N k (line_of l.bytes true) R ≡ enter_event lim N k t R
  unfolding enter_row is_one is_two is_three alike
  event-line l e = row-entered lim k l.bytes N R ∙ rw (l.row, entry-class (get_or text i 0) LetterE (lit< tt) e)

  pub condition-line : {p : ℕ} {x y : Slot} (l : PlainLine 4 text i next (Number p ∷ x ∷ y ∷ [])) → a_number_or_dash x ≡ true → a_number_or_dash y ≡ true → entry_of (get_or text i 0) ≡ 20
      → enter_line lim N k (line_of l.bytes true) R ≡ enter_condition lim N k (condition_in p x y) R
  unfolding enter_row is_one is_two is_three alike
  condition-line l u v e = row-entered lim k l.bytes N R ∙ rw (l.row, entry-class (get_or text i 0) LetterC (lit< tt) e, u, v)

  pub mark-line : {a b : ℕ} (x : MarkKind) (l : PlainLine 4 text i next (Number a ∷ Number b ∷ [])) → entry_of (get_or text i 0) ≡ code_of (letter_of x)
      → enter_line lim N k (line_of l.bytes true) R ≡ enter_mark lim k (mark_of x a b) R
  unfolding enter_row is_one is_two is_three alike
  mark-line Before l e = row-entered lim k l.bytes N R ∙ rw (l.row, entry-class (get_or text i 0) LetterB (lit< tt) e)
  mark-line After l e = row-entered lim k l.bytes N R ∙ rw (l.row, entry-class (get_or text i 0) LetterA (lit< tt) e)
  mark-line Read l e = row-entered lim k l.bytes N R ∙ rw (l.row, entry-class (get_or text i 0) LetterR (lit< tt) e)

-- ---- a line that is entered

-- where the next line starts, behind one that is entered
abbrev pub going_on : Entered → ℕ → Result Took RecordRefusal
going_on (Ok s) n = Ok (record { counts = s; next = n })
going_on (Err x) n = Err x

module _ {b : Bounds} {text : List ℕ} {i k : ℕ} {s : Counts} {old words new words' : List ℕ} where
  takes : (r : Entered) {next : ℕ} (l : LineTo text i next) → ((N : Net) → Declares b N → Enters s old words (enter_line b.limits N k l.line) r new words')
      → Takes b text i k s old words (going_on r next) new words'
  takes (Ok s') {next} l h = record { next = next; found = l; goes = refl; enters = h }
  takes (Err x) {next} l h = record { next = next; found = l; goes = tt; enters = h }

  pub plain-takes : (r : Entered) {next : ℕ} {fs : List Slot} (f : Net → RunRecord → Answer RunRecord) → (m : MayRead 4 text i next fs) (h : i < next)
      → ((N : Net) (R : RunRecord) (l : PlainLine 4 text i next fs) → enter_line b.limits N k (line_of l.bytes true) R ≡ f N R) → ((N : Net) → Declares b N → Enters s old words (f N) r new words')
      → Takes b text i k s old words (going_on r next) new words'
  plain-takes r f m h e g = takes r (plain-to m h) (λ N d. entered-same _ (λ R. e N R (m.line h)) (g N d))

  pub line-takes : (r : Entered) {l : Span} → LineAt text i l → ((N : Net) → Declares b N → Enters s old words (enter_line b.limits N k (line_of (take (l.end - i) (drop i text)) l.ended)) r new words')
      → Takes b text i k s old words (going_on r l.next) new words'
  line-takes r h g = takes r (line-to h) g
