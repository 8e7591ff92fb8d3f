-- A record text that is read is the text of the record that was read: a well-formed one, within the limits, that marks no
-- condition and event twice in one slot.
use Rattle.std.specs.Prelude.{◌≡◌, refl, ℕ, ◌<◌, true, false, ltb}
use Rattle.std.proofs.Common.{sym, ◌∙◌, inl, inr, zero-le, arith}
use Rattle.std.proofs.Math.Path.{ap, subst}
use mathlib.Core.List.Memᴰ
use mathlib.Core.List.{List, [], ◌∷◌, ◌++◌, map, append-nil, append_assoc}
use Rattle.std.proofs.Math.ListN.{length, length-append}
use borrow.Author.Tests.{ltb-true, leb-false}
use Rattle.spec.specs.Lists.{In, any, count, flat}
use Rattle.spec.specs.Answer.{gives}
use Rattle.spec.specs.Text.{Line, lines_of, by_lines}
use Rattle.spec.specs.Forms.{number, number_or_dash, is_line, event_at, number_at}
use Rattle.spec.specs.Net.{Net, places}
use Rattle.spec.specs.Record.{RunRecord, Condition, Mark, slot_of, is_at, marked, event_line, condition_line, mark_line_of, mark_line, record_bytes}
use Rattle.spec.specs.Process.{WellFormed, is_below}
use Rattle.spec.specs.Checking.{is_empty, with_event, with_condition, with_mark, enter_event, enter_condition, enter_mark, condition_of, mark_in, enter_line, empty_record}
use Rattle.spec.specs.Endings.{plain_ends}
use Rattle.spec.specs.declared.Limits.{Limits}
use Rattle.spec.specs.declared.MarkKind.TheVariants.{Before, After, Read}
use Rattle.lists.specs.Laws.{clash, true-or-false, and-true, and-three, not-is-false, all_snoc, any_none, count_none, count-append, count-cons, count-false, one-le, flat-map-snoc}
use Rattle.runs.specs.Bytes.{E-letter, C-letter, B-letter, A-letter, R-letter}
use Rattle.runs.specs.Answers.{of-gives, not-refused, of-when, of-cond}
use Rattle.runs.specs.Texts.{line_bytes, form-line}
use Rattle.runs.specs.MarkSlots.{at-is}
use Rattle.runs.specs.Readers.{text-keeps}
use Rattle.runs.specs.ReadRecord.{Fits, MarksOnce}

-- the text is that of the record
pub record IsRecord (lim : Limits) (N : Net) (text : List ℕ) (R : RunRecord) : Type 0 where
  pub written : text ≡ record_bytes R
  pub well_formed : WellFormed N R
  pub fits : Fits lim R
  pub once : MarksOnce R

-- ---- the bytes of a record with one line more

event-bytes : (r : RunRecord) (t : ℕ) → r.conditions ≡ [] → r.marks ≡ [] → record_bytes r ++ event_line t ≡ record_bytes (with_event t r)
unfolding record_bytes with_event flat
event-bytes r t p q = rw (p, q) (
    ap (λ (x : List ℕ). x ++ event_line t) (bare (flat (map event_line r.events)))
    ∙ sym (bare (flat (map event_line (r.events ++ t ∷ []))) ∙ flat-map-snoc event_line r.events t))
  where
    bare : (x : List ℕ) → x ++ [] ++ [] ≡ x
    bare x = append-nil (x ++ []) ∙ append-nil x

condition-bytes : (r : RunRecord) (c : Condition) → r.marks ≡ [] → record_bytes r ++ condition_line c ≡ record_bytes (with_condition c r)
unfolding record_bytes with_condition flat
condition-bytes r c q = rw q (moved (flat (map event_line r.events)) (flat (map condition_line r.conditions)) (condition_line c) (flat-map-snoc condition_line r.conditions c))
  where
    moved : (x y z : List ℕ) {w : List ℕ} → w ≡ y ++ z → x ++ y ++ [] ++ z ≡ x ++ w ++ []
    moved x y z e = ap (λ (v : List ℕ). v ++ z) (append-nil (x ++ y)) ∙ append_assoc x y z ∙ ap (λ (v : List ℕ). x ++ v) (sym e) ∙ sym (append-nil _)

mark-bytes : (r : RunRecord) (m : Mark) → record_bytes r ++ mark_line m ≡ record_bytes (with_mark m r)
unfolding record_bytes with_mark
mark-bytes r m =
    let x = flat (map event_line r.events) ++ flat (map condition_line r.conditions) in
    append_assoc x (flat (map mark_line r.marks)) (mark_line m) ∙ ap (λ (v : List ℕ). x ++ v) (sym (flat-map-snoc mark_line r.marks m))

-- ---- a line

empty-nil : {A : Type 0} (xs : List A) → is_empty xs ≡ true → xs ≡ []
unfolding is_empty
empty-nil [] h = refl
empty-nil (x ∷ xs) h = clash h refl

in-empty : {A X : Type 0} (x : A) (xs : List A) → xs ≡ [] → In x xs → X
in-empty x xs e m = absurd (Memᴰ.not-nil (subst (λ z. In x z) e m))

-- one mark more, in a slot of its condition and event that had none
marks-once : (r : RunRecord) (m : Mark) → MarksOnce r → marked r (slot_of m.kind) m.condition m.event ≡ false → MarksOnce (with_mark m r)
unfolding with_mark count
marks-once r m h q s c e =
    let both = count-append (is_at s c e) r.marks (m ∷ []) in
    let new = count-cons (is_at s c e) m [] in
    elim (true-or-false (is_at s c e m)) [
      | inl a ↦ omega (arith, one-le (is_at s c e m), count_none (is_at s c e) r.marks (any_none (is_at s c e) r.marks (here-none a)))
      | inr a ↦ omega (arith, count-false a, h s c e)
    ]
  where
    here-none : is_at s c e m ≡ true → any (is_at s c e) r.marks ≡ false
    here-none a = unfold marked in (let z = (at-is s c e m).0 a in rw (← z.0, ← z.1, ← z.2) q)

module _ (lim : Limits) (N : Net) (k : ℕ) (r s : RunRecord) (done : List ℕ) (I : IsRecord lim N done r) where
  abbrev W : WellFormed N r
  W = I.well_formed

  event-entered : (t : ℕ) → enter_event lim N k t r ≡ gives s → IsRecord lim N (done ++ event_line t) s
  unfolding enter_event with_event
  event-entered t h =
      let a = of-when 31 k _ _ h in
      let b = of-when 32 k _ _ a.1 in
      let c = of-when 33 k _ _ b.1 in
      let e = and-true (is_empty r.conditions) (is_empty r.marks) (not-is-false _ a.0) in
      let p = empty-nil r.conditions e.0 in
      let q = empty-nil r.marks e.1 in
      subst (IsRecord lim N (done ++ event_line t)) (of-gives c.1) (record {
        written = ap (λ (x : List ℕ). x ++ event_line t) I.written ∙ event-bytes r t p q;
        well_formed = record {
          known = all_snoc (λ t. t < N.transitions) r.events t W.known (leb-false N.transitions t c.0);
          placed = W.placed;
          producers = λ x m. in-empty x r.conditions p m;
          consumers = λ x m. in-empty x r.conditions p m;
          conditions = W.conditions;
          events = λ x m. in-empty x r.marks q m;
        };
        fits = record {
          events = omega (arith, length-append r.events (t ∷ []), leb-false lim.events (length r.events) b.0);
          conditions = I.fits.conditions;
          marks = I.fits.marks;
        };
        once = I.once;
      })

  condition-entered : (c : Condition) → enter_condition lim N k c r ≡ gives s → IsRecord lim N (done ++ condition_line c) s
  unfolding enter_condition with_condition
  condition-entered c h =
      let a = of-when 31 k _ _ h in
      let b = of-when 32 k _ _ a.1 in
      let d = of-when 33 k _ _ b.1 in
      let q = empty-nil r.marks (not-is-false _ a.0) in
      let z = and-three (ltb c.place (places N)) (is_below (length r.events) c.producer) (is_below (length r.events) c.consumer) (not-is-false _ d.0) in
      subst (IsRecord lim N (done ++ condition_line c)) (of-gives d.1) (record {
        written = ap (λ (x : List ℕ). x ++ condition_line c) I.written ∙ condition-bytes r c q;
        well_formed = record {
          known = W.known;
          placed = all_snoc (λ (c : Condition). c.place < places N) r.conditions c W.placed (ltb-true c.place (places N) z.0);
          producers = all_snoc (λ (c : Condition). is_below (length r.events) c.producer ≡ true) r.conditions c W.producers z.1;
          consumers = all_snoc (λ (c : Condition). is_below (length r.events) c.consumer ≡ true) r.conditions c W.consumers z.2;
          conditions = λ x m. in-empty x r.marks q m;
          events = W.events;
        };
        fits = record {
          events = I.fits.events;
          conditions = omega (arith, length-append r.conditions (c ∷ []), leb-false lim.conditions (length r.conditions) b.0);
          marks = I.fits.marks;
        };
        once = I.once;
      })

  mark-entered : (m : Mark) → enter_mark lim k m r ≡ gives s → IsRecord lim N (done ++ mark_line m) s
  unfolding enter_mark with_mark
  mark-entered m h =
      let a = of-when 32 k _ _ h in
      let b = of-when 33 k _ _ a.1 in
      let d = of-when 34 k _ _ b.1 in
      let z = and-true (ltb m.condition (length r.conditions)) (ltb m.event (length r.events)) (not-is-false _ b.0) in
      subst (IsRecord lim N (done ++ mark_line m)) (of-gives d.1) (record {
        written = ap (λ (x : List ℕ). x ++ mark_line m) I.written ∙ mark-bytes r m;
        well_formed = record {
          known = W.known;
          placed = W.placed;
          producers = W.producers;
          consumers = W.consumers;
          conditions = all_snoc (λ (m : Mark). m.condition < length r.conditions) r.marks m W.conditions (ltb-true _ _ z.0);
          events = all_snoc (λ (m : Mark). m.event < length r.events) r.marks m W.events (ltb-true _ _ z.1);
        };
        fits = record {
          events = I.fits.events;
          conditions = I.fits.conditions;
          marks = omega (arith, length-append r.marks (m ∷ []), leb-false lim.marks (length r.marks) a.0);
        };
        once = marks-once r m I.once d.0;
      })

  line-entered : (l : Line) → enter_line lim N k l r ≡ gives s → IsRecord lim N (done ++ line_bytes l) s
  unfolding enter_line event_line condition_line mark_line mark_line_of condition_of mark_in number_at event_at
  line-entered l h =
      let two = number ∷ number ∷ [] in
      let three = number ∷ number_or_dash ∷ number_or_dash ∷ [] in
      of-cond (is_line "E" (number ∷ []) l) _ _ h (λ t q. rw (form-line E-letter (number ∷ []) l t) (event-entered (number_at l 0) q)) λ h.
      of-cond (is_line "C" three l) _ _ h (λ t q. rw (form-line C-letter three l t) (condition-entered (condition_of l) q)) λ h.
      of-cond (is_line "B" two l) _ _ h (λ t q. rw (form-line B-letter two l t) (mark-entered (mark_in Before l) q)) λ h.
      of-cond (is_line "A" two l) _ _ h (λ t q. rw (form-line A-letter two l t) (mark-entered (mark_in After l) q)) λ h.
      of-cond (is_line "R" two l) _ _ h (λ t q. rw (form-line R-letter two l t) (mark-entered (mark_in Read l) q)) not-refused

-- ---- a text

nothing : (lim : Limits) (N : Net) → IsRecord lim N [] empty_record
unfolding empty_record record_bytes flat count
nothing lim N = record {
  written = refl;
  well_formed = record {
    known = λ x m. absurd (Memᴰ.not-nil m);
    placed = λ x m. absurd (Memᴰ.not-nil m);
    producers = λ x m. absurd (Memᴰ.not-nil m);
    consumers = λ x m. absurd (Memᴰ.not-nil m);
    conditions = λ x m. absurd (Memᴰ.not-nil m);
    events = λ x m. absurd (Memᴰ.not-nil m);
  };
  fits = record { events = zero-le; conditions = zero-le; marks = zero-le };
  once = λ s c e. zero-le;
}

pub record-text : (lim : Limits) (N : Net) (text : List ℕ) (R : RunRecord) → by_lines (enter_line lim N) 1 (lines_of text) empty_record ≡ gives R → IsRecord lim N (plain_ends text) R
record-text lim N text R h =
    (text-keeps (enter_line lim N) (λ k r done. IsRecord lim N done r) (λ k l r s done h I. line-entered lim N k r s done I l h) 1 text empty_record R h (nothing lim N)).1
