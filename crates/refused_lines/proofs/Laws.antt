-- Lines by their number: so many line ends passed over, in chunks of bytes or line by line. A line behind others is the same part
-- of the text wherever one starts to count, be it inside a line in front of it.
use mathlib.Core.Path.{◌≡◌, refl, sym, ap, ◌∙◌, subst}
use Prim.Native.Nat.{ℕ, zero, suc, ◌+◌, ◌-◌, ◌≤◌, ◌<◌}
use mathlib.Core.Bool.{Bool, true, false, false≢true}
use mathlib.Core.Option.{none, some}
use mathlib.Core.List.{List, [], ◌∷◌}
use native.Mathlib.Nat.{zero-add}
use native.Mathlib.Omega.{arith}
use lib.ListN.{length, take, drop, get_elem?, drop_of_length-le, length-take, length-drop}
use lib.Seq.{drop-drop}
use borrow.Author.Tests.{lt-ltb, le-ltb}
use Rattle.spec.specs.Lists.{count}
use Rattle.spec.specs.Text.{Line, raw_lines_of, on_first, is_a}
use Rattle.spec.specs.Answer.{gives, refuses, ◌>>◌, refuse◌at◌when◌, found, returned}
use Rattle.spec.specs.LineParts.{parts_from, line_at, chosen_text, refused_line, part_of}
use Rattle.spec.specs.declared.Class.TheVariants.{LineEnd}
use Rattle.lists.specs.Laws.{count-true, count-false, count-cons, count_same}
use Rattle.byte_entries.proofs.Classes.{line-end}
use Rattle.byte_slices.specs.Counts.{chunk, count_of}
use Rattle.lines.specs.Lines.{RawLineAt, LineAt}
use Rattle.lines.specs.declared.Span.{Span}
use denote.Ref.{Bor}
use Rattle.spec.specs.Values.{line_values}
use Rattle.refused_lines.specs.Shown.{line_of, Running, Goes, Finds, FindsChosen, place_in, place_of, answer_of}
use Rattle.refused_lines.specs.declared.LinePart.{LinePart}
use Rattle.std.specs.Prelude.{Option as Found, Some, None, is_some}
use Rattle.std.specs.Option.{ok_or}

-- ---- line ends passed over

-- a later line starts where it did, whether or not a byte in front of the first one is counted in
on-first : (t s x n : ℕ) (ls : List Line) → get_elem? (parts_from t s (on_first x ls)) (suc n) ≡ get_elem? (parts_from t (suc s) ls) (suc n)
unfolding on_first parts_from
on-first t s x n [] = refl
on-first t s x n (l ∷ ls) = ap (λ (z : ℕ). get_elem? (parts_from t z ls) n) (omega arith)

-- behind b bytes of s, which stands at a, n line ends stand in front of the line that m stand in front of
abbrev Passed : ℕ → List ℕ → ℕ → ℕ → ℕ → ℕ → Type 0
Passed t s a m n b = get_elem? (parts_from t a (raw_lines_of s)) m ≡ get_elem? (parts_from t (a + b) (raw_lines_of (drop b s))) n

abbrev ends : ℕ → List ℕ → ℕ
ends b s = count (is_a LineEnd) (take b s)

module _ (t x : ℕ) (xs : List ℕ) (a m n b : ℕ) where
  shifted : get_elem? (parts_from t (suc a + b) (raw_lines_of (drop b xs))) n ≡ get_elem? (parts_from t (a + suc b) (raw_lines_of (drop b xs))) n
  shifted = ap (λ (z : ℕ). get_elem? (parts_from t z (raw_lines_of (drop b xs))) n) (omega arith)

  pass-end : is_a LineEnd x ≡ true → Passed t xs (suc a) m n b → Passed t (x ∷ xs) a (suc m) n (suc b)
  unfolding raw_lines_of parts_from
  pass-end q r = rw q (ap (λ (z : ℕ). get_elem? (parts_from t z (raw_lines_of xs)) m) (omega arith) ∙ r ∙ shifted)

  pass-byte : is_a LineEnd x ≡ false → Passed t xs (suc a) (suc m) n b → Passed t (x ∷ xs) a (suc m) n (suc b)
  unfolding raw_lines_of
  pass-byte q r = rw q (on-first t a x m (raw_lines_of xs) ∙ r ∙ shifted)

-- some line end must be left: without one the line may have begun among the bytes
passed : (t b : ℕ) (s : List ℕ) (a m n : ℕ) → b ≤ length s → m ≡ ends b s + suc n → Passed t s a m (suc n) b
unfolding count
passed t zero s a m n h e = let z : m ≡ suc n = omega arith in rw z (ap (λ (i : ℕ). get_elem? (parts_from t i (raw_lines_of s)) (suc n)) (omega arith))
passed t (suc b) [] a m n h e = absurd (omega arith)
passed t (suc b) (x ∷ xs) a zero n h e = absurd (omega arith)
passed t (suc b) (x ∷ xs) a (suc m) n h e = go (is_a LineEnd x) refl (λ k q. passed t b xs (suc a) k n (omega arith) q)
  where
    go : (u : Bool) → is_a LineEnd x ≡ u → ((k : ℕ) → k ≡ ends b xs + suc n → Passed t xs (suc a) k (suc n) b) → Passed t (x ∷ xs) a (suc m) (suc n) (suc b)
    go true q r = pass-end t x xs a m (suc n) b q (r m (omega (arith, count-cons (is_a LineEnd) x (take b xs), count-true q)))
    go false q r = pass-byte t x xs a m (suc n) b q (r (suc m) (omega (arith, count-cons (is_a LineEnd) x (take b xs), count-false q)))

-- ---- the search

pub span-length : (s e : ℕ) (text : List ℕ) → s ≤ e → e ≤ length text → length (take (e - s) (drop s text)) ≡ e - s
span-length s e text h l = simp (length-take, length-drop) (omega arith)

pub no_line : (text : List ℕ) (line : ℕ) → line ≡ 0 → (t : ℕ) → line_of t text line ≡ none
unfolding line_at
no_line text line e t = rw e

pub begun : (text : List ℕ) (line : ℕ) → 0 < line → Running text line (line - 1) 0
unfolding line_at
begun text zero h = absurd (omega arith)
begun text (suc k) h = let e : suc k - 1 ≡ k = omega arith in rw e (record { near = omega arith; rest = λ t. refl })

module _ (text : List ℕ) (line left i : ℕ) (g : Running text line left i) where
  -- no line is left
  pub ended : length text ≤ i → (t : ℕ) → line_of t text line ≡ none
  unfolding raw_lines_of parts_from
  ended h t = g.rest t ∙ rw (drop_of_length-le text h)

  module _ (r : Span) (h : i < length text) where
    -- this is the line
    pub here : LineAt text i r → left ≡ 0 → Goes text line i (r.end - i)
    unfolding parts_from
    here l e = record {
      is = λ t. g.rest t ∙ rw (e, l.raws) (ap (λ (x : Line). some (record { text = t; start = i; bytes = x.bytes })) l.whole);
      inside = omega (arith, l.start, l.end);
    }

    -- the line is a later one
    pub turn : RawLineAt text i r → (left ≡ 0 → ⊥) → Running text line (left - 1) r.next
    unfolding parts_from
    turn l d =
        let e : left ≡ suc (left - 1) = omega (arith, d) in
        let bytes = take (r.end - i) (drop i text) in
        let q : (i + length bytes) + 1 ≡ r.next = omega (arith, span-length i r.end text l.start l.end, l.behind, l.start) in
        record {
          near = omega (arith, l.end, l.behind);
          rest = λ t. g.rest t ∙ rw l.lines (ap (get_elem? (_ ∷ parts_from t ((i + length bytes) + 1) (raw_lines_of (drop r.next text)))) e
              ∙ ap (λ (z : ℕ). get_elem? (parts_from t z (raw_lines_of (drop r.next text))) (left - 1)) q);
        }

  -- the line starts behind the next chunk
  pub leap : (c : ℕ) → i + chunk ≤ length text → c ≡ count_of 10 (take chunk (drop i text)) → c < left → Running text line (left - c) (i + chunk)
  leap c h q u =
      let same : count_of 10 (take chunk (drop i text)) ≡ ends chunk (drop i text) = count_same _ _ (take chunk (drop i text)) (λ x m. sym (line-end x)) in
      let e : left - c ≡ suc (left - c - 1) = omega arith in
      let d : drop chunk (drop i text) ≡ drop (i + chunk) text = drop-drop chunk i text in
      record {
        near = omega arith;
        rest = λ t.
            g.rest t ∙ passed t chunk (drop i text) i left (left - c - 1) (simp length-drop (omega arith)) (omega (arith, same))
            ∙ ap (λ z. get_elem? (parts_from t (i + chunk) (raw_lines_of z)) (suc (left - c - 1))) d
            ∙ ap (get_elem? (parts_from t (i + chunk) (raw_lines_of (drop (i + chunk) text)))) (sym e);
      }

-- ---- the chosen text, and the answer

module _ (net second : List ℕ) (choice : ℕ) where
  pub chosen-net : choice ≡ 0 → chosen_text net second choice ≡ net
  unfolding chosen_text
  chosen-net e = rw e

  pub chosen-second : choice ≡ 1 → chosen_text net second choice ≡ second
  unfolding chosen_text
  chosen-second e = rw e

  module _ (k : ℕ) where
    pub shown : (s n : ℕ) → choice ≤ 1 → Goes (chosen_text net second choice) k s n
        → refused_line net second choice k ≡ gives (record { text = choice; start = s; bytes = take n (drop s (chosen_text net second choice)) })
    unfolding refused_line refuse◌at◌when◌ ◌>>◌ found
    shown s n l g = rw (le-ltb 1 choice l, g.is choice)

    not-shown : choice ≤ 1 → ((t : ℕ) → line_of t (chosen_text net second choice) k ≡ none) → refused_line net second choice k ≡ refuses 46 k
    unfolding refused_line refuse◌at◌when◌ ◌>>◌ found
    not-shown l h = rw (le-ltb 1 choice l, h choice)

    -- neither of the two was chosen
    pub none-chosen : 1 < choice → FindsChosen net second choice k None
    unfolding refused_line refuse◌at◌when◌ ◌>>◌
    none-chosen l = record { goes = λ {p} h. absurd (false≢true (ap is_some h)); nothing = λ h. rw (lt-ltb 1 choice l) }

    -- what was found in the chosen text
    pub found_in : (text : List ℕ) (r : Found LinePart) → choice ≤ 1 → chosen_text net second choice ≡ text → Finds text k r → FindsChosen net second choice k r
    found_in text r l q f = record {
      goes = λ {p} h. (l, rw q (subst (Finds text k) h f));
      nothing = λ h. not-shown l (rw q (subst (Finds text k) h f));
    }

-- ---- what the two functions return, by what was found

-- the part's bytes and where it lies
abbrev pub IsPart : Bor (List ℕ) → Bor (List ℕ) → ℕ → ℕ → List ℕ → ℕ × ℕ → Type 0
IsPart net second choice k bytes place =
    let p = part_of (refused_line net.now second.now choice k) in (bytes ≡ p.bytes) × (place ≡ place_of net second p)

module _ (net second : Bor (List ℕ)) (choice k : ℕ) where
  module _ (s n : ℕ) (l : choice ≤ 1) (g : Goes (chosen_text net.now second.now choice) k s n) where
    long : s + n - s ≡ n
    long = omega arith

    pub net-part : choice ≡ 0 → IsPart net second choice k (take (s + n - s) (drop s net.now)) (net.ref_ptr.0, s + net.ref_ptr.1)
    unfolding part_of place_in
    net-part q = rw (shown net.now second.now choice k s n l g, chosen-net net.now second.now choice q, q, long) (refl, refl)

    pub second-part : (choice ≡ 0 → ⊥) → IsPart net second choice k (take (s + n - s) (drop s second.now)) (second.ref_ptr.0, s + second.ref_ptr.1)
    unfolding part_of place_in
    second-part d =
        let q : choice ≡ 1 = omega (arith, d) in
        rw (shown net.now second.now choice k s n l g, chosen-second net.now second.now choice q, q, long) (refl, refl)

  pub empty-part : refused_line net.now second.now choice k ≡ refuses 46 k → IsPart net second choice k [] net.ref_ptr
  unfolding part_of place_in
  empty-part h = rw (h, zero-add net.ref_ptr.1) (refl, refl)

module _ (net second : List ℕ) (choice k : ℕ) {s n : ℕ} (g : Goes (chosen_text net second choice) k s n) where
  pub net-inside : choice ≡ 0 → s + n ≤ length net
  net-inside q = rw (chosen-net net second choice q) at g.inside

  pub second-inside : choice ≤ 1 → (choice ≡ 0 → ⊥) → s + n ≤ length second
  second-inside l d = rw (chosen-second net second choice (omega (arith, d))) at g.inside

module _ (net second : List ℕ) (choice k : ℕ) where
  shown-length : (s n : ℕ) (text : List ℕ) → s + n ≤ length text → length (take n (drop s text)) ≡ n
  shown-length s n text l = simp (length-take, length-drop) (omega arith)

  pub answer-found : (r : Found LinePart) → FindsChosen net second choice k r → answer_of (ok_or r (record { 0 = k })) ≡ returned line_values (refused_line net second choice k)
  unfolding returned
  answer-found (Some p) f =
      let g = f.goes refl in
      rw (shown net second choice k p.start p.length g.0 g.1, shown-length p.start p.length (chosen_text net second choice) g.1.inside)
  answer-found None f = rw (f.nothing refl)
