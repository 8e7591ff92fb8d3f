-- A condition's line has eight bytes or more, so that a text has at most as many words of marks as bytes: a line of a
-- letter and three fields has a byte for each, a comma before each field, and its byte 10. Where the ending has a byte 13
-- too, the line takes up one byte more than its width.
use Prim.Native.Nat.{ℕ, zero, suc, ◌+◌, ◌-◌, ◌*◌, ◌≤◌, ◌<◌}
use Prim.Native.Char.{Char, code}
use mathlib.Core.Path.{◌≡◌, refl, sym, ap, ◌∙◌}
use mathlib.Core.Bool.{Bool, true, false, true≢false, cond}
use mathlib.Core.Logic.{inl, inr}
use mathlib.Core.List.{List, [], ◌∷◌, map}
use native.Mathlib.Omega.{arith}
use lib.ListN.{length, get_or, drop, length-append, length-drop, length-map}
use lib.Seq.{drop-drop}
use borrow.Author.Tests.{eqb-true, leb-true}
use Rattle.spec.specs.Lists.{as_count, sum_of}
use Rattle.spec.specs.Answer.{Answer, gives, refuses, ◌>>◌, refuse◌at◌when◌}
use Rattle.spec.specs.Text.{Line, on_first, raw_lines_of, but_return, without_return, lines_of, grow, pieces, class_of, is_a, is_only, is_dash, is_number, most_digits}
use Rattle.spec.specs.Forms.{FieldForm, number, number_or_dash, has_letter, fields_of, is_of, are_of, is_line, number_at}
use Rattle.spec.specs.Net.{Net}
use Rattle.spec.specs.Record.{RunRecord, Condition, Mark}
use Rattle.spec.specs.Checking.{with_event, with_condition, with_mark, enter_event, enter_condition, enter_mark, condition_of, mark_in, enter_line}
use Rattle.spec.specs.declared.Class.{Class}
use Rattle.spec.specs.declared.Class.TheVariants.{Comma, Dash, LineEnd, Return}
use Rattle.spec.specs.declared.Limits.{Limits}
use Rattle.spec.specs.declared.MarkKind.TheVariants.{Before, After, Read}
use Rattle.lists.specs.Laws.{and-true, and-three, and-four, or-true, count-true}
use Rattle.lines.specs.Lines.{LineTo}
use Rattle.record_columns.specs.Layout.{condition_words}

-- ---- the lines of a text

-- the bytes of a line and the byte 10 behind it
unfoldable pub width : Line → ℕ
width l = length l.bytes + as_count l.ended

but-short : (bs : List ℕ) → length (but_return bs) ≤ length bs
unfolding but_return
but-short [] = omega arith
but-short (b ∷ []) = go (is_a Return b)
  where
    go : (t : Bool) → length (cond t [] (b ∷ [])) ≤ length (b ∷ [])
    go true = omega arith
    go false = omega arith
but-short (b ∷ c ∷ bs) = omega (arith, but-short (c ∷ bs))

-- a line is no wider without the byte 13 of its ending
narrower : (l : Line) → width (without_return l) ≤ width l
unfolding without_return width
narrower l = go l.ended refl
  where
    go : (t : Bool) → l.ended ≡ t → width (cond t (record { bytes = but_return l.bytes; ended = true }) l) ≤ width l
    go true e = omega (arith, but-short l.bytes, ap as_count e)
    go false e = omega arith

-- the first of these lines is no wider than k and n, if so many lines follow it
abbrev FirstFits : List Line → ℕ → ℕ → ℕ → Type 0
FirstFits [] rest k n = Unit {0}
FirstFits (l ∷ ls) rest k n = length ls ≡ rest → (width l ≤ k) × (width l ≤ n)

-- k bytes further on the lines behind the first are left only if the first ends there or before
first_fits : (bs : List ℕ) (k : ℕ) → FirstFits (raw_lines_of bs) (length (raw_lines_of (drop k bs))) k (length bs)
unfolding raw_lines_of on_first width as_count
first_fits [] k = tt
first_fits (b ∷ bs) zero = one_more (raw_lines_of (b ∷ bs))
  where
    one_more : (ls : List Line) → FirstFits ls (length ls) 0 (length (b ∷ bs))
    one_more [] = tt
    one_more (l ∷ ls) = λ e. absurd (omega arith)
first_fits (b ∷ bs) (suc k) = go (is_a LineEnd b) (raw_lines_of bs) (first_fits bs k)
  where
    rest : ℕ
    rest = length (raw_lines_of (drop k bs))

    go : (t : Bool) (ls : List Line) → FirstFits ls rest k (length bs) → FirstFits (cond t (record { bytes = []; ended = true } ∷ ls) (on_first b ls)) rest (suc k) (length (b ∷ bs))
    go true ls h = λ e. (omega arith, omega arith)
    go false [] h = λ e. (omega arith, omega arith)
    go false (l ∷ ls) h = λ e. let z = h e in (omega arith, omega arith)

-- the line at a position ends within the text, and before the next
pub line-ends : {s : List ℕ} {i next : ℕ} (l : LineTo s i next) → i < length s → (i + width l.line ≤ next) × (i + width l.line ≤ length s)
unfolding lines_of
line-ends {s} {i} {next} l h = go (raw_lines_of (drop i s)) (rw behind at (first_fits (drop i s) (next - i))) l.lines
  where
    behind : drop (next - i) (drop i s) ≡ drop next s
    behind = let z : i + (next - i) ≡ next = omega (arith, l.on) in drop-drop (next - i) i s ∙ ap (λ (k : ℕ). drop k s) z

    go : (ls : List Line) → FirstFits ls (length (raw_lines_of (drop next s))) (next - i) (length (drop i s)) → map without_return ls ≡ l.line ∷ map without_return (raw_lines_of (drop next s)) → (i + width l.line ≤ next) × (i + width l.line ≤ length s)
    go [] f e = let z : ◌≡◌ {A = ℕ} 0 1 = cc in absurd (omega arith)
    go (m ∷ ls) f e =
        let first : without_return m ≡ l.line = cc in
        let others : map without_return ls ≡ map without_return (raw_lines_of (drop next s)) = cc in
        let z = f (sym (length-map ls without_return) ∙ ap length others ∙ length-map (raw_lines_of (drop next s)) without_return) in
        (omega (arith, z.0, narrower m, ap width first, l.on), omega (arith, z.1, narrower m, ap width first, length-drop i s))

-- ---- the pieces of a line

-- the bytes of a piece and of the comma behind it
unfoldable piece : List ℕ → ℕ
piece p = length p + 1

pieces-wide : (bs : List ℕ) → sum_of piece (pieces bs) ≡ length bs + 1
unfolding pieces sum_of piece grow
pieces-wide [] = refl
pieces-wide (b ∷ bs) = go (is_a Comma b) (pieces bs) (pieces-wide bs)
  where
    go : (t : Bool) (ps : List (List ℕ)) → sum_of piece ps ≡ length bs + 1 → sum_of piece (cond t ([] ∷ ps) (grow b ps)) ≡ length (b ∷ bs) + 1
    go true ps h = omega arith
    go false [] h = absurd (omega arith)
    go false (p ∷ ps) h = omega arith

one_only : (k : Class) (p : List ℕ) → is_only k p ≡ true → length p ≡ 1
unfolding is_only
one_only k p h = eqb-true _ _ (and-true _ _ h).0

number-some : (p : List ℕ) → is_number most_digits p ≡ true → 1 ≤ length p
unfolding is_number
number-some p h = leb-true _ _ (and-four _ _ _ _ h).0

field-some : (f : FieldForm) (p : List ℕ) → is_of f p ≡ true → 1 ≤ length p
unfolding is_of is_dash
field-some number p h = number-some p h
field-some number_or_dash p h = elim (or-true (is_number most_digits p) (is_only Dash p) h) [
  | inl g ↦ number-some p g
  | inr g ↦ omega (arith, one_only Dash p g)
]

fields-wide : (fs : List FieldForm) (ps : List (List ℕ)) → are_of fs ps ≡ true → 2 * length fs ≤ sum_of piece ps
unfolding are_of sum_of piece
fields-wide [] ps h = omega arith
fields-wide (f ∷ fs) [] h = absurd (true≢false (sym h))
fields-wide (f ∷ fs) (p ∷ ps) h = let z = and-true (is_of f p) (are_of fs ps) h in omega (arith, field-some f p z.0, fields-wide fs ps z.1)

line-wide : (c : Char) (fs : List FieldForm) (l : Line) → is_line c fs l ≡ true → 2 + 2 * length fs ≤ width l
unfolding is_line has_letter fields_of width sum_of piece
line-wide c fs l h =
    let z = and-three l.ended (has_letter c l) (are_of fs (fields_of l)) h in
    go (pieces l.bytes) (pieces-wide l.bytes) z.0 z.1 z.2
  where
    go : (ps : List (List ℕ)) → sum_of piece ps ≡ length l.bytes + 1 → l.ended ≡ true → is_only (class_of (code c)) (get_or ps 0 []) ≡ true → are_of fs (drop 1 ps) ≡ true → 2 + 2 * length fs ≤ length l.bytes + as_count l.ended
    go [] e d k a = absurd (omega arith)
    go (p ∷ ps) e d k a = omega (arith, one_only _ p k, fields-wide fs ps a, count-true d)

-- ---- what a line enters

module _ (R : RunRecord) (w : ℕ) where
  -- what is given has a condition more only for eight bytes
  abbrev Grows : Answer RunRecord → Type 0
  Grows a = (S : RunRecord) → a ≡ gives S → condition_words * length S.conditions ≤ condition_words * length R.conditions + w

  refused-not : (n k : ℕ) → Grows (refuses n k)
  refused-not n k S q = let z : ◌≡◌ {A = ℕ} 0 1 = cc in absurd (omega arith)

  judged-first : (n k : ℕ) (t : Bool) {a : Answer RunRecord} → Grows a → Grows (refuse n at k when t >> a)
  unfolding refuse◌at◌when◌ ◌>>◌
  judged-first n k true g = refused-not n k
  judged-first n k false g = g

  given-not : (S : RunRecord) → condition_words * length S.conditions ≤ condition_words * length R.conditions + w → Grows (gives S)
  given-not S h T q = let e : S ≡ T = cc in rw (← e) h

  chosen : (t : Bool) {a b : Answer RunRecord} → (t ≡ true → Grows a) → Grows b → Grows (cond t a b)
  chosen true f g = f refl
  chosen false f g = g

  event-grows : (lim : Limits) (N : Net) (k t : ℕ) → Grows (enter_event lim N k t R)
  unfolding enter_event with_event
  event-grows lim N k t = judged-first 31 k _ (judged-first 32 k _ (judged-first 33 k _ (given-not _ (omega arith))))

  condition-grows : (lim : Limits) (N : Net) (k : ℕ) (c : Condition) → condition_words ≤ w → Grows (enter_condition lim N k c R)
  unfolding enter_condition with_condition
  condition-grows lim N k c h = judged-first 31 k _ (judged-first 32 k _ (judged-first 33 k _ (given-not _ (omega (arith, length-append R.conditions (c ∷ []))))))

  mark-grows : (lim : Limits) (k : ℕ) (m : Mark) → Grows (enter_mark lim k m R)
  unfolding enter_mark with_mark
  mark-grows lim k m = judged-first 32 k _ (judged-first 33 k _ (judged-first 34 k _ (given-not _ (omega arith))))

pub line-grows : (lim : Limits) (N : Net) (k : ℕ) (l : Line) (R S : RunRecord) → enter_line lim N k l R ≡ gives S
    → condition_words * length S.conditions ≤ condition_words * length R.conditions + width l
unfolding enter_line
line-grows lim N k l R S q = all S q
  where
    w : ℕ
    w = width l

    all : Grows R w (enter_line lim N k l R)
    all =
        chosen R w (is_line "E" (number ∷ []) l) (λ h. event-grows R w lim N k (number_at l 0))
        (chosen R w (is_line "C" (number ∷ number_or_dash ∷ number_or_dash ∷ []) l)
        (λ h. condition-grows R w lim N k (condition_of l) (line-wide "C" (number ∷ number_or_dash ∷ number_or_dash ∷ []) l h))
        (chosen R w (is_line "B" (number ∷ number ∷ []) l) (λ h. mark-grows R w lim k (mark_in Before l))
        (chosen R w (is_line "A" (number ∷ number ∷ []) l) (λ h. mark-grows R w lim k (mark_in After l))
        (chosen R w (is_line "R" (number ∷ number ∷ []) l) (λ h. mark-grows R w lim k (mark_in Read l)) (refused-not R w 31 k)))))
