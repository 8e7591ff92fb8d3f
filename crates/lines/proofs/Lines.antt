-- Laws on the first line of a text, and on the line at a position: what stands up to byte 10 first, then the line, from
-- which a byte 13 of its ending is taken.
-- Assumes nothing.
use Prim.Native.Nat.{ℕ, suc, ◌+◌, ◌-◌, ◌≤◌, ◌<◌}
use mathlib.Core.Path.{◌≡◌, refl, sym, ap, subst, ◌∙◌}
use mathlib.Core.Bool.{Bool, true, false, ◌&&◌, and-false, cond}
use mathlib.Core.List.{List, [], ◌∷◌, ◌++◌}
use native.Mathlib.Numerals.{add-one}
use native.Mathlib.Omega.{arith}
use lib.ListN.{length, get_or, drop, take, length-drop, get_or-eq_default}
use lib.Seq.{get_or-drop}
use lib.Dec.{lit<, eqb, ltb, leb-suc-suc}
use borrow.Author.Tests.{lt-ltb, eq-eqb, ne_eqb, eqb-true}
use native.Mathlib.Decide.{ℕ_discrete}
use Rattle.spec.specs.Text.{is_a, Line, on_first, raw_lines_of, but_return, without_return, lines_of}
use Rattle.spec.specs.declared.Class.TheVariants.{LineEnd, Return}
use Rattle.lists.specs.Along.{rest_at, take_more}
use Rattle.lists.specs.LineEnds.{but_last, unended-kept, ended-as}
use Rattle.byte_entries.specs.Entries.{code_of, entry_of, before_first, before}
use Rattle.byte_entries.proofs.Classes.{class-told, line-end, return-byte}
use Rattle.byte_entries.proofs.Scans.{before-zero, before-suc, within, beyond, width}
use Rattle.lines.specs.Lines.{end_from, span_to, line_of, LineTo, RawLineAt, LineAt, ten, return-ten, past_ending, PastEnding, past_by, Ahead, EndedTo}
use Rattle.lists.specs.Laws.{clash}
use Rattle.lines.specs.declared.Span.{Span}

-- the bytes between two positions
abbrev between : List ℕ → ℕ → ℕ → List ℕ
between s at end = take (end - at) (drop at s)

abbrev first_line : List ℕ → ℕ → Line
first_line bs n = record { bytes = take n bs; ended = ltb n (length bs) }

module _ (b : ℕ) (bs : List ℕ) where
  line-ends : is_a LineEnd b ≡ true → raw_lines_of (b ∷ bs) ≡ first_line (b ∷ bs) 0 ∷ raw_lines_of bs
  unfolding raw_lines_of
  line-ends e = rw (e, lt-ltb 0 (suc (length bs)) (omega arith))

  line-grows : (n : ℕ) (ls : List Line) → raw_lines_of bs ≡ first_line bs n ∷ ls → is_a LineEnd b ≡ false → raw_lines_of (b ∷ bs) ≡ first_line (b ∷ bs) (suc n) ∷ ls
  unfolding raw_lines_of on_first
  line-grows n ls r e = rw (e, r, leb-suc-suc (suc n) (length bs))

line-last : (b : ℕ) → is_a LineEnd b ≡ false → raw_lines_of (b ∷ []) ≡ first_line (b ∷ []) (suc (before LineEnd [])) ∷ raw_lines_of []
unfolding raw_lines_of on_first before_first
line-last b e = rw e

lines-first : (bs : List ℕ) → 0 < length bs → raw_lines_of bs ≡ first_line bs (before LineEnd bs) ∷ raw_lines_of (drop (suc (before LineEnd bs)) bs)
lines-first [] h = absurd (omega arith)
lines-first (b ∷ bs) h = go bs (is_a LineEnd b) refl (λ p. lines-first bs p)
  where
    go : (xs : List ℕ) (t : Bool) → is_a LineEnd b ≡ t → (0 < length xs → raw_lines_of xs ≡ first_line xs (before LineEnd xs) ∷ raw_lines_of (drop (suc (before LineEnd xs)) xs)) → raw_lines_of (b ∷ xs) ≡ first_line (b ∷ xs) (before LineEnd (b ∷ xs)) ∷ raw_lines_of (drop (suc (before LineEnd (b ∷ xs))) (b ∷ xs))
    go xs true e r = rw (before-zero (is_a LineEnd) b xs e) (line-ends b xs e)
    go [] false e r = rw (before-suc (is_a LineEnd) b [] e) (line-last b e)
    go (x ∷ xs) false e r = rw (before-suc (is_a LineEnd) b (x ∷ xs) e) (line-grows b (x ∷ xs) (before LineEnd (x ∷ xs)) _ (r (omega arith)) e)

pub line-here : (s : List ℕ) (at e : ℕ) → at < length s → e ≡ at + before LineEnd (drop at s) → raw_lines_of (drop at s) ≡ record { bytes = take (e - at) (drop at s); ended = ltb e (length s) } ∷ raw_lines_of (drop (e + 1) s)
line-here s at e h q =
    let n = before LineEnd (drop at s) in
    lines-first (drop at s) (omega (arith, length-drop at s))
    ∙ rw (add-one e, q, within s at n (omega arith), beyond s at n (omega arith), ← width s at n (omega arith))

-- what stands up to the byte 10 that was found
pub line-found : (s : List ℕ) (at e : ℕ) → at < length s → e ≡ end_from s at → e ≤ length s → RawLineAt s at (span_to s e (e + 1))
line-found s at e h q m = record { start = omega arith; end = m; behind = refl; ends = refl; lines = line-here s at e h q }

-- ---- the line without its ending

module _ {s : List ℕ} {at : ℕ} {r : Span} (h : RawLineAt s at r) (m : at < length s) where
  -- the line by what stands up to its byte 10, which its ending is taken from
  ending-off : (e : ℕ) → at ≤ e → e ≤ r.end → without_return (line_of (between s at r.end) r.ended) ≡ line_of (between s at e) r.ended → LineAt s at (record { end = e; next = r.next; ended = r.ended })
  unfolding lines_of
  ending-off e l u q = record {
    start = l;
    end = omega (arith, h.end);
    on = omega (arith, h.behind);
    next = omega (arith, h.end, h.behind);
    lines = rw h.lines (ap (λ (z : Line). z ∷ lines_of (drop r.next s)) q);
    raw = line_of (between s at r.end) r.ended;
    raws = h.lines;
    whole = q;
  }

  pub unended-line : r.ended ≡ false → LineAt s at r
  unended-line e = ending-off r.end h.start (omega arith) (rw e (unended-kept (between s at r.end)))

  pub empty-line : r.end ≤ at → LineAt s at r
  unfolding but_return
  empty-line l = ending-off r.end h.start (omega arith) (go r.ended)
    where
      z : r.end - at ≡ 0
      z = omega arith

      go : (t : Bool) → without_return (line_of (between s at r.end) t) ≡ line_of (between s at r.end) t
      go true = rw z (ended-as [])
      go false = unended-kept (between s at r.end)

  -- the last byte in front of byte 10
  module _ (e : r.ended ≡ true) (l : at < r.end) where
    last : between s at r.end ≡ between s at (r.end - 1) ++ get_or s (r.end - 1) 0 ∷ []
    last =
        let n : r.end - at ≡ (r.end - 1 - at) + 1 = omega arith in
        let i : at + (r.end - 1 - at) ≡ r.end - 1 = omega arith in
        rw n (take_more 0 (drop at s) (r.end - 1 - at) (omega (arith, h.end, length-drop at s)))
        ∙ ap (λ (b : ℕ). between s at (r.end - 1) ++ b ∷ []) (get_or-drop at s (r.end - 1 - at) 0 ∙ ap (λ (j : ℕ). get_or s j 0) i)

    without : without_return (line_of (between s at r.end) r.ended) ≡ line_of (cond (is_a Return (get_or s (r.end - 1) 0)) (between s at (r.end - 1)) (between s at r.end)) r.ended
    without = rw e (ended-as (between s at r.end) ∙ ap (λ (z : List ℕ). line_of z true) (ap but_return last ∙ but_last (between s at (r.end - 1)) (get_or s (r.end - 1) 0) ∙ ap (cond (is_a Return (get_or s (r.end - 1) 0)) (between s at (r.end - 1))) (sym last)))

    pub ten-line : is_a Return (get_or s (r.end - 1) 0) ≡ false → LineAt s at r
    ten-line q = ending-off r.end h.start (omega arith) (without ∙ rw q)

    pub return-line : is_a Return (get_or s (r.end - 1) 0) ≡ true → LineAt s at (record { end = r.end - 1; next = r.next; ended = r.ended })
    return-line q = ending-off (r.end - 1) (omega arith) (omega arith) (without ∙ rw q)

-- ---- endings that were looked for

module _ {s : List ℕ} {at : ℕ} where
  -- no ending stands at the position: byte 10 does not, nor do 13 and 10
  no-ending : (get_or s at 0 ≡ 10 → ⊥) → (eqb (get_or s at 0) 13 && eqb (get_or s (at + 1) 0) 10) ≡ false → PastEnding s at at
  unfolding past_ending
  no-ending d e = record { is = rw (ne_eqb (get_or s at 0) 10 d, e); start = omega arith; within = λ l. absurd (omega arith); ending = λ l. absurd (omega arith) }

  pub other_byte : (get_or s at 0 ≡ 10 → ⊥) → (get_or s at 0 ≡ 13 → ⊥) → PastEnding s at at
  other_byte d e = no-ending d (rw (ne_eqb (get_or s at 0) 13 e))

  pub return_alone : (get_or s at 0 ≡ 10 → ⊥) → (get_or s (at + 1) 0 ≡ 10 → ⊥) → PastEnding s at at
  return_alone d e = no-ending d (rw (ne_eqb (get_or s (at + 1) 0) 10 e) (and-false (eqb (get_or s at 0) 13)))

  -- the text ends there, or behind one byte
  pub no_bytes : length s ≤ at → PastEnding s at at
  no_bytes l = let z = get_or-eq_default s 0 l in other_byte (λ e. omega (arith, z)) (λ e. omega (arith, z))

  pub one_byte : length s ≤ at + 1 → (get_or s at 0 ≡ 10 → ⊥) → PastEnding s at at
  one_byte l d = let z = get_or-eq_default s 0 l in return_alone d (λ e. omega (arith, z))

  pub ten-passed : at < length s → get_or s at 0 ≡ 10 → PastEnding s at (at + 1)
  unfolding past_ending
  ten-passed l e = record { is = rw e; start = omega arith; within = λ m. omega arith; ending = λ m. ten (rest_at s at l ∙ ap (λ (b : ℕ). b ∷ drop (at + 1) s) e) }

  pub return-passed : at + 1 < length s → get_or s at 0 ≡ 13 → get_or s (at + 1) 0 ≡ 10 → PastEnding s at (at + 2)
  unfolding past_ending
  return-passed l e f =
      let n : at + 1 + 1 ≡ at + 2 = omega arith in
      let g : drop (at + 1) s ≡ 10 ∷ drop (at + 2) s = rest_at s (at + 1) l ∙ rw (f, n) in
      record { is = rw (e, f); start = omega arith; within = λ m. omega arith; ending = λ m. return-ten (rest_at s at (omega arith) ∙ rw (e, g)) }

-- the entries of a line end and of a return say what the byte is
pub ten-told : (b : ℕ) → eqb (entry_of b) 12 ≡ eqb b 10
ten-told b = class-told b LineEnd (lit< tt) ∙ line-end b

return-told : (b : ℕ) → eqb (entry_of b) (code_of Return) ≡ eqb b 13
return-told b = class-told b Return (lit< tt) ∙ return-byte b

pub end-entry : (b : ℕ) → entry_of b ≡ 12 → is_a LineEnd b ≡ true
end-entry b e = sym (class-told b LineEnd (lit< tt)) ∙ eq-eqb (entry_of b) 12 e

pub no-end-entry : (b : ℕ) → (entry_of b ≡ 12 → ⊥) → is_a LineEnd b ≡ false
no-end-entry b d = sym (class-told b LineEnd (lit< tt)) ∙ ne_eqb (entry_of b) 12 d

pub return-entry : (b : ℕ) → entry_of b ≡ code_of Return → is_a Return b ≡ true
return-entry b e = sym (class-told b Return (lit< tt)) ∙ eq-eqb (entry_of b) (code_of Return) e

pub no-return-entry : (b : ℕ) → (entry_of b ≡ code_of Return → ⊥) → is_a Return b ≡ false
no-return-entry b d = sym (class-told b Return (lit< tt)) ∙ ne_eqb (entry_of b) (code_of Return) d

-- an ending by the entry of the byte at its position
module _ (s : List ℕ) (at : ℕ) {e : ℕ} (q : e ≡ entry_of (get_or s at 0)) (l : at < length s) (m : e ≡ code_of Return → at + 1 < length s) where
  by-entry : past_by e s at ≡ past_ending s at
  unfolding past_by past_ending
  by-entry = rw (q, ten-told (get_or s at 0), return-told (get_or s at 0), ten-told (get_or s (at + 1) 0))

  pub past-told : PastEnding s at (past_by e s at)
  past-told = rw by-entry (elim (ℕ_discrete (get_or s at 0) 10) [
    | yes a ↦ found (ten-passed l a)
    | no a ↦ elim (ℕ_discrete (get_or s at 0) 13) [
      | no b ↦ found (other_byte a b)
      | yes b ↦ elim (ℕ_discrete (get_or s (at + 1) 0) 10) [
        | no c ↦ found (return_alone a c)
        | yes c ↦ found (return-passed (m (q ∙ eqb-true _ (code_of Return) (return-told (get_or s at 0) ∙ eq-eqb _ 13 b))) b c)
      ]
    ]
  ])
    where
      found : {n : ℕ} → PastEnding s at n → PastEnding s at (past_ending s at)
      found {n} p = subst (PastEnding s at) p.is p

-- an ending was passed where the position did not stay
pub went_on : {s : List ℕ} {at next : ℕ} → PastEnding s at next → (next ≡ at → ⊥) → at < next
went_on p d = omega (arith, p.start, d)

-- the line that was found, and the next one
abbrev pub line-to : {s : List ℕ} {at : ℕ} {r : Span} → LineAt s at r → LineTo s at r.next
line-to {s} {at} {r} h = record { line = line_of (take (r.end - at) (drop at s)) r.ended; lines = h.lines; on = omega (arith, h.start, h.on); within = h.next }

-- ---- a line end ahead

module _ {s : List ℕ} {i : ℕ} (a : Ahead s i) where
  pub here : i < length s
  here = omega (arith, a.from, a.within)

  -- a byte that ends no line is passed
  pub on : is_a LineEnd (get_or s i 0) ≡ false → Ahead s (i + 1)
  on e = record { place = a.place; from = further; within = a.within; ends = a.ends }
    where
      further : i + 1 ≤ a.place
      further = elim (ℕ_discrete a.place i) [
        | yes q ↦ clash (subst (λ (j : ℕ). is_a LineEnd (get_or s j 0) ≡ true) q a.ends) e
        | no d ↦ omega (arith, a.from, d)
      ]

  pub on-by : {e : ℕ} → e ≡ entry_of (get_or s i 0) → (e ≡ 12 → ⊥) → Ahead s (i + 1)
  on-by q d = on (no-end-entry (get_or s i 0) (λ z. d (q ∙ z)))

-- up to where a text is made of ended lines
pub ahead_of : {s : List ℕ} {r : ℕ} → EndedTo s r → (i : ℕ) → i < r → Ahead s i
ahead_of {s} {r} h i l = record { place = r - 1; from = omega arith; within = omega (arith, h.within); ends = h.ends (omega arith) }
