-- The text of an arrangement that keeps a record's order is read, and a text that is read is the text of one.
use Rattle.std.specs.Prelude.{◌≡◌, refl, ℕ, suc, ◌+◌, ◌^◌, ◌≤◌, ◌<◌, false, eqb, leb}
use Rattle.std.proofs.Common.{sym, ap₂, ◌∙◌, inl, inr, zero-le, not-suc-le-zero, arith}
use Rattle.std.proofs.Math.Path.{ap, subst}
use Rattle.std.proofs.Math.Nat.{le_trans}
use Rattle.std.proofs.Math.Decide.{dec_le, ℕ_discrete}
use Rattle.std.proofs.Math.Bool.{not}
use Rattle.std.proofs.Math.Option.{none}
use mathlib.Core.List.Memᴰ
use mathlib.Core.List.{List, [], ◌∷◌, ◌++◌, map}
use Rattle.std.proofs.Math.ListN.{length, get_or, take}
use Rattle.std.proofs.Math.Seq.{take-append_seam, get_or-append_seam, take-length}
use Rattle.std.proofs.lemmas.List.{take-append-le}
use borrow.Author.Tests.{ne_eqb}
use Rattle.spec.specs.Lists.{In, any, count, flat, lowest, is_in}
use Rattle.spec.specs.Answer.{gives, ◌>>=◌, ◌>>◌, refuse◌at◌when◌, refuse◌at?◌}
use Rattle.spec.specs.Text.{Line, lines_of, by_lines, most_digits}
use Rattle.spec.specs.Forms.{numbers_of}
use Rattle.spec.specs.Net.{Net}
use Rattle.spec.specs.Record.{RunRecord}
use Rattle.spec.specs.Process.{WellFormed}
use Rattle.spec.specs.Arrangement.{times}
use Rattle.spec.specs.Arranging.{group_line, arrangement_bytes}
use Rattle.spec.specs.Replaying.{is_group_line, repeats, breaks, groups_line, missing, read_arrangement}
use Rattle.spec.specs.Runs.{KeepsOrder}
use Rattle.spec.specs.Endings.{plain_ends}
use Rattle.spec.specs.declared.Field.TheVariants.{Number}
use Rattle.lists.specs.Laws.{or-false, not-is-false, true-or-false, any_none, member_is, count-append, count-cons, count_none, eqb-count, neqb-count, one-le, lowest-none, none-lowest, flat_append, flat_in, flat-map-snoc, index-snoc, flat-snoc, all-below}
use Rattle.runs.specs.Bytes.{G-letter}
use Rattle.runs.specs.LineForms.{list_back}
use Rattle.runs.specs.Answers.{of-gives, of-bind, of-when, of-lowest}
use Rattle.runs.specs.Texts.{line_bytes, list-line}
use Rattle.runs.specs.Readers.{Takes, takes-line, takes-end, takes_all, text-keeps}
use Rattle.runs.specs.Lines.{first-inside}
use Rattle.runs.specs.Unbroken.{keeps-unbroken, unbroken-keeps}

-- ---- numbers that stand twice

no-repeats : (es : List ℕ) → ((e : ℕ) → count (eqb e) es ≤ 1) → repeats es ≡ false
unfolding repeats
no-repeats [] h = refl
no-repeats (x ∷ es) h = elim (true-or-false (is_in x es)) [
  | inl a ↦ absurd (omega (arith, h x, count-cons (eqb x) x es, eqb-count x x refl, (member_is x es).0 a))
  | inr a ↦ rw a (no-repeats es (λ e. omega (arith, h e, count-cons (eqb e) x es)))
]

pub once-each : (es : List ℕ) → repeats es ≡ false → (e : ℕ) → count (eqb e) es ≤ 1
unfolding repeats count is_in
once-each [] h e = zero-le
once-each (x ∷ es) h e =
    let z = or-false (is_in x es) (repeats es) h in
    elim (ℕ_discrete e x) [
      | yes q ↦ omega (arith, count-cons (eqb e) x es, one-le (eqb e x), ap (λ (y : ℕ). count (eqb y) es) q, count_none (eqb x) es (any_none (eqb x) es z.0))
      | no q ↦ omega (arith, count-cons (eqb e) x es, neqb-count e x q, once-each es z.1 e)
    ]

-- ---- lines that meet none of 41 to 44

pub record Lined (R : RunRecord) (lines : List (List ℕ)) : Type 0 where
  pub full : (k : ℕ) → k < length lines → 0 < length (get_or lines k [])
  pub known : (e : ℕ) → In e (flat lines) → e < length R.events
  pub once : (e : ℕ) → count (eqb e) (flat lines) ≤ 1
  pub unbroken : (k : ℕ) → k < length lines → breaks R (flat (take k lines)) (get_or lines k []) ≡ false

pub lined_snoc : (R : RunRecord) (lines : List (List ℕ)) (es : List ℕ) → Lined R lines → 0 < length es → any (leb (length R.events)) es ≡ false
    → repeats (flat lines ++ es) ≡ false → breaks R (flat lines) es ≡ false → Lined R (lines ++ es ∷ [])
lined_snoc R lines es L l a b c = record {
  full = index-snoc (λ k l. 0 < length l) [] lines es L.full l;
  known = λ e m. elim (Memᴰ.append_cases (flat lines) (rw (flat-snoc lines es) at m)) [
    | inl i ↦ L.known e i
    | inr i ↦ (all-below (length R.events) es).0 a e i
  ];
  once = λ e. rw (flat-snoc lines es) (once-each (flat lines ++ es) b e);
  unbroken = index-snoc (λ k l. breaks R (flat (take k (lines ++ es ∷ []))) l ≡ false) [] lines es
      (λ k h. rw (take-append-le k lines (es ∷ []) (omega arith)) (L.unbroken k h)) (rw (take-append_seam lines (es ∷ [])) c);
}

module _ (N : Net) (R : RunRecord) (W : WellFormed N R) (lines : List (List ℕ)) where
  lined-keeps : Lined R lines → lowest (missing lines) (length R.events) ≡ none → KeepsOrder R lines
  unfolding missing times
  lined-keeps L h = unbroken-keeps N R W lines (record {
    once = λ e l. omega (arith, L.once e, (member_is e (flat lines)).0 (not-is-false _ (lowest-none (missing lines) (length R.events) h e l)));
    only = λ e l. count_none (eqb e) (flat lines) (λ x m. ne_eqb e x (λ q. omega (arith, L.known x m)));
    full = L.full;
  }) L.unbroken

  keeps-lined : KeepsOrder R lines → Lined R lines
  unfolding times
  keeps-lined K = record {
    full = K.each-once.full;
    known = λ e m. first-inside (length R.events) lines K.each-once (length lines) e (rw (take-length lines) m);
    once = λ e. elim (dec_le (length R.events) e) [ yes l ↦ omega (arith, K.each-once.only e l) | no l ↦ omega (arith, K.each-once.once e (omega arith)) ];
    unbroken = keeps-unbroken N R W lines K;
  }

  none-missing : KeepsOrder R lines → lowest (missing lines) (length R.events) ≡ none
  unfolding missing times
  none-missing K = none-lowest (missing lines) (length R.events) (λ e l. ap not ((member_is e (flat lines)).1 (omega (arith, K.each-once.once e l))))

-- ---- the text of lines is read

beginning : (x : ℕ) (s : List (List ℕ)) (es : List ℕ) (t : List (List ℕ)) → count (eqb x) (flat s ++ es) ≤ count (eqb x) (flat (s ++ es ∷ t))
unfolding flat
beginning x s es t = omega (
  arith,
  count-append (eqb x) (flat s) es,
  ap (count (eqb x)) (flat_append s (es ∷ t)),
  count-append (eqb x) (flat s) (es ++ flat t),
  count-append (eqb x) es (flat t),
)

module _ (R : RunRecord) (small : length R.events ≤ 10 ^ most_digits) where
  group-read : (k : ℕ) (lines : List (List ℕ)) (es : List ℕ) → 0 < length es → ((e : ℕ) → In e es → e < length R.events)
      → ((e : ℕ) → count (eqb e) (flat lines ++ es) ≤ 1) → breaks R (flat lines) es ≡ false → Takes (groups_line R) k lines (group_line es) (suc k) (lines ++ es ∷ [])
  unfolding group_line groups_line is_group_line ◌>>◌ refuse◌at◌when◌
  group-read k lines es l K o b =
      let w : (e : ℕ) → In e es → e < 10 ^ most_digits = λ e m. le_trans (K e m) small in
      let r = list_back G-letter es l w in
      takes-line G-letter (map Number es)
      (rw (r.0, r.1, (all-below (length R.events) es).1 K, no-repeats (flat lines ++ es) o, b))

  lines-read : (lines : List (List ℕ)) → Lined R lines → by_lines (groups_line R) 1 (lines_of (arrangement_bytes lines)) [] ≡ gives lines
  unfolding arrangement_bytes
  lines-read lines L = takes-end (takes_all group_line (λ gs. gs) 1 lines (λ s es t e m l.
      let here : get_or lines (length s) [] ≡ es = rw e (get_or-append_seam s es t []) in
      let before : take (length s) lines ≡ s = rw e (take-append_seam s (es ∷ t)) in
      group-read (1 + length s) s es (rw here at (L.full (length s) l)) (λ x i. L.known x (flat_in lines m i))
      (λ x. le_trans (beginning x s es t) (rw e at (L.once x))) (rw (before, here) at (L.unbroken (length s) l))))

module _ (N : Net) (R : RunRecord) (W : WellFormed N R) where
  pub arrangement-read : length R.events ≤ 10 ^ most_digits → (lines : List (List ℕ)) → KeepsOrder R lines → read_arrangement R (arrangement_bytes lines) ≡ gives lines
  unfolding read_arrangement ◌>>=◌ ◌>>◌ refuse◌at?◌
  arrangement-read small lines K = rw (lines-read R small lines (keeps-lined N R W lines K), none-missing N R W lines K)

-- ---- a text that is read is that of lines

-- the text is that of lines that meet none of 41 to 44
record IsLined (R : RunRecord) (text : List ℕ) (lines : List (List ℕ)) : Type 0 where
  written : text ≡ arrangement_bytes lines
  lined : Lined R lines

pub no_lines : (R : RunRecord) → Lined R []
unfolding flat count
no_lines R = record { full = λ k l. absurd (not-suc-le-zero l); known = λ e m. absurd (Memᴰ.not-nil m); once = λ e. zero-le; unbroken = λ k l. absurd (not-suc-le-zero l) }

group-lined : (R : RunRecord) (k : ℕ) (l : Line) (lines more : List (List ℕ)) (done : List ℕ) → groups_line R k l lines ≡ gives more → IsLined R done lines
    → IsLined R (done ++ line_bytes l) more
unfolding groups_line is_group_line arrangement_bytes group_line
group-lined R k l lines more done h I =
    let es : List ℕ = numbers_of l in
    let a = of-when 41 k _ _ h in
    let b = of-when 42 k _ _ a.1 in
    let c = of-when 43 k _ _ b.1 in
    let d = of-when 44 k _ _ c.1 in
    let y = list-line G-letter l (not-is-false _ a.0) in
    subst (IsLined R (done ++ line_bytes l)) (of-gives d.1) (record {
      written = ap₂ ◌++◌ I.written y.0 ∙ sym (flat-map-snoc group_line lines es);
      lined = lined_snoc R lines es I.lined y.1 b.0 c.0 d.0;
    })

module _ (N : Net) (R : RunRecord) (W : WellFormed N R) where
  pub arrangement-exact : (text : List ℕ) (lines : List (List ℕ)) → read_arrangement R text ≡ gives lines → (plain_ends text ≡ arrangement_bytes lines) × KeepsOrder R lines
  unfolding read_arrangement
  arrangement-exact text lines h =
      let z = of-bind (by_lines (groups_line R) 1 (lines_of text) []) _ h in
      let y = of-lowest 45 (lowest (missing z.0) (length R.events)) (gives z.0) z.2 in
      let I = (text-keeps (groups_line R) (λ k gs done. IsLined R done gs) (group-lined R) 1 text [] z.0 z.1 (record { written = unfold arrangement_bytes flat in refl; lined = no_lines R })).1 in
      subst (λ lines. (plain_ends text ≡ arrangement_bytes lines) × KeepsOrder R lines) (of-gives y.1) (I.written, lined-keeps N R W z.0 I.lined y.0)
