-- How many bytes a record and an arrangement take at most: 48,256 and 768.
use Rattle.std.specs.Prelude.{◌≡◌, refl, ℕ, suc, ◌+◌, ◌*◌, ◌^◌, ◌≤◌, ◌<◌, true, List, [], ◌∷◌, ◌++◌, map, length}
use Rattle.std.proofs.Common.{zero-le, le_trans, le_of_eq, ltb-true}
use Prim.Native.Char.{Char}
use native.Mathlib.Omega.{arith}
use Rattle.std.proofs.Math.Option.{Option, none, some}
use mathlib.Core.List.Memᴰ
use Rattle.std.proofs.Math.ListN.{length-append}
use Rattle.std.proofs.Math.Seq.{take-length}
use Rattle.spec.specs.Lists.{In, sum_of, flat}
use Rattle.spec.specs.Text.{field_bytes, fields_bytes, line_with, most_digits}
use Rattle.spec.specs.Net.{Net}
use Rattle.spec.specs.Record.{RunRecord, Condition, Mark, bench, event_field, event_line, condition_line, mark_line_of, mark_line, record_bytes}
use Rattle.spec.specs.Process.{WellFormed, is_below}
use Rattle.spec.specs.Arrangement.{times, Arrangement}
use Rattle.spec.specs.Arranging.{group_line, arrangement_bytes}
use Rattle.spec.specs.declared.Field.{Field}
use Rattle.spec.specs.declared.Field.TheVariants.{Number}
use Rattle.spec.specs.declared.MarkKind.{MarkKind}
use Rattle.spec.specs.declared.MarkKind.TheVariants.{Before, After, Read}
use Rattle.lists.specs.Laws.{here, there, flat-long, flat-wide, once-length}
use Rattle.runs.specs.Digits.{width}
use Rattle.runs.specs.Lines.{first-inside}
use Rattle.runs.specs.NetLimits.{NetLimits}
use Rattle.runs.specs.ReadRecord.{Fits}

-- ---- lines

-- a field and the comma in front of it
abbrev pub wide : Field → ℕ
wide f = suc (length (field_bytes f))

fields-wide : (fs : List Field) → length (fields_bytes fs) ≡ sum_of wide fs
unfolding fields_bytes sum_of
fields-wide [] = refl
fields-wide (f ∷ fs) = omega (arith, length-append (field_bytes f) (fields_bytes fs), fields-wide fs)

pub line-wide : (c : Char) (fs : List Field) → length (line_with c fs) ≡ 2 + sum_of wide fs
unfolding line_with
line-wide c fs = omega (arith, length-append (fields_bytes fs) (10 ∷ []), fields-wide fs)

pub number-wide : (k n : ℕ) → 1 ≤ k → n < 10 ^ k → length (field_bytes (Number n)) ≤ k
unfolding field_bytes
number-wide k n l h = width most_digits k n l h

event-wide : (n : ℕ) (o : Option ℕ) → n ≤ 1000 → is_below n o ≡ true → length (field_bytes (event_field o)) ≤ 3
unfolding event_field is_below
event-wide n none l h = unfold field_bytes in (omega arith)
event-wide n (some e) l h = number-wide 3 e (omega arith) (le_trans (ltb-true e n h) l)

-- ---- a record: 5 bytes for an event, 13 for a condition, 10 for a mark

marked-wide : (l : Char) (c e : ℕ) → c < 1000 → e < 1000 → length (line_with l (Number c ∷ Number e ∷ [])) ≤ 10
unfolding sum_of
marked-wide l c e i h = omega (arith, line-wide l (Number c ∷ Number e ∷ []), number-wide 3 c (omega arith) i, number-wide 3 e (omega arith) h)

mark-wide : (x : MarkKind) (c e : ℕ) → c < 1000 → e < 1000 → length (mark_line_of x c e) ≤ 10
unfolding mark_line_of
mark-wide Before c e l h = marked-wide "B" c e l h
mark-wide After c e l h = marked-wide "A" c e l h
mark-wide Read c e l h = marked-wide "R" c e l h

module _ (N : Net) (R : RunRecord) (L : NetLimits N) (W : WellFormed N R) (F : Fits bench R) where
  events-wide : (t : ℕ) → In t R.events → length (event_line t) ≤ 5
  unfolding event_line sum_of
  events-wide t m = omega (arith, line-wide "E" (Number t ∷ []), number-wide 2 t (omega arith) (omega (arith, W.known t m, L.transitions)))

  conditions-wide : (c : Condition) → In c R.conditions → length (condition_line c) ≤ 13
  unfolding condition_line sum_of bench
  conditions-wide c m = omega (
    arith,
    line-wide "C" (Number c.place ∷ event_field c.producer ∷ event_field c.consumer ∷ []),
    number-wide 2 c.place (omega arith) (omega (arith, W.placed c m, L.places)),
    event-wide (length R.events) c.producer (omega (arith, F.events)) (W.producers c m),
    event-wide (length R.events) c.consumer (omega (arith, F.events)) (W.consumers c m),
  )

  marks-wide : (m : Mark) → In m R.marks → length (mark_line m) ≤ 10
  unfolding mark_line bench
  marks-wide m i = mark-wide m.kind m.condition m.event (omega (arith, W.conditions m i, F.conditions)) (omega (arith, W.events m i, F.events))

  pub record-size : length (record_bytes R) ≤ 48256
  unfolding record_bytes bench
  record-size = omega (
    arith,
    length-append (flat (map event_line R.events) ++ flat (map condition_line R.conditions)) (flat (map mark_line R.marks)),
    length-append (flat (map event_line R.events)) (flat (map condition_line R.conditions)),
    flat-wide 5 event_line R.events events-wide,
    flat-wide 13 condition_line R.conditions conditions-wide,
    flat-wide 10 mark_line R.marks marks-wide,
    F.events,
    F.conditions,
    F.marks,
  )

-- ---- an arrangement: 2 bytes for a line, 4 for an event

module _ (n : ℕ) (lines : List (List ℕ)) (A : Arrangement n lines) where
  pub arranged-below : (e : ℕ) → In e (flat lines) → e < n
  arranged-below e m = first-inside n lines A (length lines) e (rw (take-length lines) m)

  pub arranged-length : length (flat lines) ≡ n
  unfolding times
  arranged-length = once-length n (flat lines) arranged-below A.once

  pub lines-few : length lines ≤ n
  lines-few = le_trans (flat-long lines A.full) (le_of_eq arranged-length)

numbers-wide : (es : List ℕ) → ((e : ℕ) → In e es → e < 1000) → sum_of wide (map Number es) ≤ 4 * length es
unfolding sum_of
numbers-wide [] h = zero-le
numbers-wide (e ∷ es) h = omega (arith, number-wide 3 e (omega arith) (h e here), numbers-wide es (λ x m. h x (there m)))

groups-wide : (lines : List (List ℕ)) → ((e : ℕ) → In e (flat lines) → e < 1000) → length (arrangement_bytes lines) ≤ 2 * length lines + 4 * length (flat lines)
unfolding arrangement_bytes group_line flat
groups-wide [] h = zero-le
groups-wide (l ∷ ls) h = omega (
  arith,
  length-append (line_with "G" (map Number l)) (arrangement_bytes ls),
  line-wide "G" (map Number l),
  numbers-wide l (λ e m. h e (Memᴰ.append_left (flat ls) m)),
  length-append l (flat ls),
  groups-wide ls (λ e m. h e (Memᴰ.append_right l m)),
)

pub arrangement-size : (n : ℕ) (lines : List (List ℕ)) → Arrangement n lines → n ≤ 128 → length (arrangement_bytes lines) ≤ 768
arrangement-size n lines A h = omega (arith, groups-wide lines (λ e m. omega (arith, arranged-below n lines A e m)), lines-few n lines A, arranged-length n lines A)
