-- The text of a record is read back, for any limits whose numbers can be written.
use Rattle.std.specs.Prelude.{◌≡◌, ℕ, suc, ◌+◌, ◌^◌, ◌≤◌, ◌<◌, true, false, length}
use Rattle.std.proofs.Common.{◌∙◌, arith}
use Rattle.std.proofs.Math.Nat.{le_trans}
use mathlib.Core.List.{List, [], ◌∷◌, ◌++◌, map}
use borrow.Author.Tests.{lt-ltb, le-ltb, lt-leb}
use Rattle.spec.specs.Lists.{any, count, flat}
use Rattle.spec.specs.Answer.{gives, ◌>>◌, refuse◌at◌when◌}
use Rattle.spec.specs.Classes.{alike}
use Rattle.spec.specs.Text.{lines_of, by_lines, named, in_digits, class_of, is_a, is_only, most_digits}
use Rattle.spec.specs.Net.{Net, places}
use Rattle.spec.specs.Record.{RunRecord, Condition, Mark, slot_of, is_at, marked, event_field, event_line, condition_line, mark_line_of, mark_line, record_bytes}
use Rattle.spec.specs.Process.{WellFormed, is_below}
use Rattle.spec.specs.Checking.{is_empty, with_event, with_condition, with_mark, enter_event, enter_condition, enter_mark, condition_of, mark_in, enter_line, empty_record}
use Rattle.spec.specs.declared.Field.TheVariants.{Number}
use Rattle.spec.specs.declared.Limits.{Limits}
use Rattle.spec.specs.declared.MarkKind.{MarkKind}
use Rattle.spec.specs.declared.MarkKind.TheVariants.{Before, After, Read}
use Rattle.lists.specs.Laws.{any-count, count-append, count-cons, count-true}
use Rattle.runs.specs.Bytes.{E-letter, C-letter, B-letter, A-letter, R-letter}
use Rattle.runs.specs.Fields.{AllWritable}
use Rattle.runs.specs.LineForms.{event-back, event-below, form-back, event-at, number-at}
use Rattle.runs.specs.MarkSlots.{at_own, at_own_lem}
use Rattle.runs.specs.Readers.{Takes, takes-line, takes-append, takes-end, takes_all}

-- the record is within the limits
pub record Fits (lim : Limits) (R : RunRecord) : Type 0 where
  pub events : length R.events ≤ lim.events
  pub conditions : length R.conditions ≤ lim.conditions
  pub marks : length R.marks ≤ lim.marks

-- no condition and event are marked twice in one slot
abbrev pub MarksOnce : RunRecord → Type 0
MarksOnce R = (s c e : ℕ) → count (is_at s c e) R.marks ≤ 1

-- limits and a net whose numbers can all be written
pub record Printed (lim : Limits) (N : Net) : Type 0 where
  pub transitions : N.transitions ≤ 10 ^ most_digits
  pub places : places N ≤ 10 ^ most_digits
  pub events : lim.events ≤ 10 ^ most_digits
  pub conditions : lim.conditions ≤ 10 ^ most_digits

abbrev pub parts : List ℕ → List Condition → List Mark → RunRecord
parts es cs ms = record { events = es; conditions = cs; marks = ms }

-- ---- a line

module _ (lim : Limits) (N : Net) (S : Printed lim N) (k : ℕ) where
  event-taken : (t : ℕ) (es : List ℕ) → length es < lim.events → t < N.transitions → Takes (enter_line lim N) k (parts es [] []) (event_line t) (suc k) (parts (es ++ t ∷ []) [] [])
  unfolding event_line enter_line is_only is_a alike class_of named in_digits enter_event is_empty with_event ◌>>◌ refuse◌at◌when◌
  event-taken t es l h =
      let w : AllWritable (Number t ∷ []) = (le_trans h S.transitions, tt) in
      takes-line E-letter (Number t ∷ []) (simp (form-back E-letter (Number t ∷ []) w, number-at E-letter (Number t ∷ []) w) (rw (lt-leb lim.events (length es) l, lt-leb N.transitions t h)))

  condition-taken : (c : Condition) (es : List ℕ) (cs : List Condition) → length es ≤ lim.events → length cs < lim.conditions
      → c.place < places N → is_below (length es) c.producer ≡ true → is_below (length es) c.consumer ≡ true
      → Takes (enter_line lim N) k (parts es cs []) (condition_line c) (suc k) (parts es (cs ++ c ∷ []) [])
  unfolding condition_line enter_line is_only is_a alike class_of named in_digits condition_of enter_condition is_empty with_condition ◌>>◌ refuse◌at◌when◌
  condition-taken c es cs b l p x y =
      let fs = Number c.place ∷ event_field c.producer ∷ event_field c.consumer ∷ [] in
      let few = le_trans b S.events in
      let w : AllWritable fs = (le_trans p S.places, (event-below (length es) (10 ^ most_digits) c.producer few x, (event-below (length es) (10 ^ most_digits) c.consumer few y, tt))) in
      takes-line C-letter fs (simp (form-back C-letter fs w, number-at C-letter fs w, event-at C-letter fs w)
      (rw (event-back c.producer, event-back c.consumer, lt-leb lim.conditions (length cs) l, lt-ltb c.place (places N) p, x, y)))

  mark-entered : (m : Mark) (es : List ℕ) (cs : List Condition) (ms : List Mark) → length ms < lim.marks → m.condition < length cs → m.event < length es
      → any (at_own m) ms ≡ false
      → enter_mark lim k m (parts es cs ms) ≡ gives (parts es cs (ms ++ m ∷ []))
  unfolding enter_mark with_mark marked ◌>>◌ refuse◌at◌when◌
  mark-entered m es cs ms l h j q = rw (lt-leb lim.marks (length ms) l, lt-ltb m.condition (length cs) h, lt-ltb m.event (length es) j, q)

  mark-taken : (x : MarkKind) (c e : ℕ) (r s : RunRecord) → c < 10 ^ most_digits → e < 10 ^ most_digits → enter_mark lim k (record { kind = x; condition = c; event = e }) r ≡ gives s
      → Takes (enter_line lim N) k r (mark_line_of x c e) (suc k) s
  unfolding mark_line_of enter_line is_only is_a alike class_of named in_digits mark_in ◌>>◌ refuse◌at◌when◌
  mark-taken Before c e r s l h q = let fs = Number c ∷ Number e ∷ [] in takes-line B-letter fs (simp (form-back B-letter fs (l, (h, tt)), number-at B-letter fs (l, (h, tt))) q)
  mark-taken After c e r s l h q = let fs = Number c ∷ Number e ∷ [] in takes-line A-letter fs (simp (form-back A-letter fs (l, (h, tt)), number-at A-letter fs (l, (h, tt))) q)
  mark-taken Read c e r s l h q = let fs = Number c ∷ Number e ∷ [] in takes-line R-letter fs (simp (form-back R-letter fs (l, (h, tt)), number-at R-letter fs (l, (h, tt))) q)

-- ---- the whole record

-- a mark that stands behind others of which none is there
once-first : (ms : List Mark) (m : Mark) (ns : List Mark) → count (at_own m) (ms ++ m ∷ ns) ≤ 1 → any (at_own m) ms ≡ false
once-first ms m ns h =
    any-count (at_own m) ms ∙ le-ltb 0 (count (at_own m) ms) (omega (arith, count-append (at_own m) ms (m ∷ ns), count-cons (at_own m) m ns, count-true (at_own_lem m)))

module _ (lim : Limits) (N : Net) (S : Printed lim N) (R : RunRecord) (W : WellFormed N R) (F : Fits lim R) (once : MarksOnce R) where
  -- the line after the events, after the conditions, after the marks
  abbrev past-events : ℕ
  past-events = 1 + length R.events

  abbrev past-conditions : ℕ
  past-conditions = past-events + length R.conditions

  abbrev past-marks : ℕ
  past-marks = past-conditions + length R.marks

  events-read : Takes (enter_line lim N) 1 (parts [] [] []) (flat (map event_line R.events)) past-events (parts R.events [] [])
  events-read = takes_all event_line (λ es. parts es [] []) 1 R.events (λ es t ts e m l. event-taken lim N S _ t es (le_trans l F.events) (W.known t m))

  conditions-read : Takes (enter_line lim N) past-events (parts R.events [] []) (flat (map condition_line R.conditions)) past-conditions (parts R.events R.conditions [])
  conditions-read = takes_all condition_line (λ cs. parts R.events cs []) past-events R.conditions
      (λ cs c ds e m l. condition-taken lim N S _ c R.events cs F.events (le_trans l F.conditions) (W.placed c m) (W.producers c m) (W.consumers c m))

  marks-read : Takes (enter_line lim N) past-conditions (parts R.events R.conditions []) (flat (map mark_line R.marks)) past-marks R
  unfolding mark_line
  marks-read = takes_all mark_line (λ ms. parts R.events R.conditions ms) past-conditions R.marks (λ ms m ns e i l.
      let c : m.condition < 10 ^ most_digits = omega (arith, W.conditions m i, F.conditions, S.conditions) in
      let v : m.event < 10 ^ most_digits = omega (arith, W.events m i, F.events, S.events) in
      let q = once-first ms m ns (rw e at (once (slot_of m.kind) m.condition m.event)) in
      mark-taken lim N S _ m.kind m.condition m.event _ _ c v (mark-entered lim N S _ m R.events R.conditions ms (le_trans l F.marks) (W.conditions m i) (W.events m i) q))

  pub read-record-lines : by_lines (enter_line lim N) 1 (lines_of (record_bytes R)) empty_record ≡ gives R
  unfolding record_bytes empty_record
  read-record-lines = takes-end (takes-append (takes-append events-read conditions-read) marks-read)
