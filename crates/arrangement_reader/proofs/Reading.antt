-- The lines of an arrangement, read one after the other by 41 to 43: what the definitions answer, where the order of the lines before is kept.
use Prim.Native.Nat.{ℕ, suc, ◌+◌, ◌-◌, ◌≤◌, ◌<◌}
use mathlib.Core.Path.{◌≡◌, refl, sym, ap, ◌∙◌, subst}
use mathlib.Core.Bool.{Bool, true, false, ◌&&◌, cond}
use mathlib.Core.List.Memᴰ
use mathlib.Core.List.{List, [], ◌∷◌, ◌++◌, append_assoc, append-nil}
use mathlib.Core.Logic.{inl, inr}
use native.Mathlib.Omega.{arith}
use lib.Dec.{leb, ltb}
use lib.ListN.{length, get_or, take, drop, replicate, length-append}
use Rattle.std.proofs.Common.{Some, None, Result, Ok, Err}
use borrow.Author.Tests.{le-leb, lt-leb, lt-ltb}
use Rattle.spec.specs.Lists.{In, any, flat, is_in}
use Rattle.spec.specs.Answer.{Answer, gives, refuses, ◌>>◌, refuse◌at◌when◌}
use Rattle.spec.specs.Text.{Line, lines_of, by_lines, class_of, named, in_digits, most_digits}
use Rattle.line_forms.specs.Rows.{is_list, values_of}
use Rattle.line_forms.proofs.Ties.{list-line, list-some, numbers-are}
use Rattle.spec.specs.Classes.{alike}
use Rattle.spec.specs.Record.{RunRecord}
use Rattle.spec.specs.Replaying.{is_group_line, repeats, breaks, groups_line}
use Rattle.spec.specs.declared.Class.TheVariants.{LetterG}
use Rattle.lists.specs.Laws.{at_in, all-below, flat-snoc}
use Rattle.byte_entries.specs.Entries.{class_by}
use Rattle.lines.specs.Agree.{giving, refusing, refused_as}
use Rattle.lines.specs.Lines.{line_of, LineAt}
use Rattle.lines.specs.declared.Span.{Span}
use Rattle.lines.proofs.ByLines.{line_taken, line_refused, lines-done}
use Rattle.plain_lines.specs.Plain.{LetterEntry}
use Rattle.plain_lines.proofs.Plain.{letter-entry}
use Rattle.number_lines.specs.Numbers.{Begins, Listing, ListAt}
use Rattle.number_lines.specs.declared.Listed.{Listed}
use Rattle.number_lines.proofs.Lines.{few-known}
use Rattle.number_lines.proofs.Listing.{list-to}
use Rattle.arrangement_reader.specs.Lined.{Enterable, Addable, Stands, Lined, Ordered, Taken, Entered, Enters, AddsLine, broken_from}
use Rattle.arrangement_reader.specs.Arrangement.{arrangement_refusal, KnownBy, malformed, unknown, known, KnownLine, KnownAt, unless_broken, ReadsLines}
use Rattle.arrangement_reader.specs.declared.Known.{Known}
use Rattle.arrangement_reader.specs.declared.ArrangementRefusal.{ArrangementRefusal}
use Rattle.arrangement_reader.specs.declared.ArrangementRefusal.TheVariants.{Malformed, Unknown, Repeated}
use Rattle.arrangement_reader.proofs.Distinct.{distinct-few, repeats-right, too_many}
use Rattle.arrangement_reader.proofs.Standing.{stands-none, stands-next}
use Rattle.arrangement_reader.proofs.Ordering.{from_is, ordered-none, ordered-more}

-- ---- a line by 41 and 42

pub group-line : (l : List ℕ) (ended : Bool) → (ended && is_list most_digits LetterG l) ≡ is_group_line (line_of l ended)
unfolding is_group_line alike class_of named in_digits
group-line l ended = sym (list-line "G" refl (line_of l ended))

-- its letter, by its entry
pub letter-group : LetterEntry 23
letter-group = letter-entry 23 (omega arith) (omega arith)

g-class : class_by 23 ≡ LetterG
unfolding class_by
g-class = refl

module _ {text : List ℕ} {i : ℕ} {f : Listed} {xs : List ℕ} (r : ListAt (class_by 23) text i f xs) (h : i < f.next) where
  listing : Listing (class_by 23) text i f xs
  listing = r.line h

  formed : is_group_line (line_of listing.bytes true) ≡ true
  formed = sym (group-line listing.bytes true) ∙ rw (← g-class) listing.list

  pub plain-unknown : (n k : ℕ) → n ≤ f.high → KnownAt n k text i (Err (Unknown k)) xs
  plain-unknown n k u = record { long = r.long; next = f.next; on = tt; found = list-to listing h; by = unknown refl formed (sym (listing.high n) ∙ le-leb n f.high u) }

  pub plain-kept : (n k : ℕ) → f.high < n → KnownAt n k text i (Ok (record { count = f.count; next = f.next })) xs
  plain-kept n k u = record { long = r.long; next = f.next; on = refl; found = list-to listing h; by = known _ refl formed (sym (listing.high n) ∙ lt-leb n f.high u) listing.count listing.numbers }

pub line-known-at : {n k : ℕ} {text : List ℕ} {i : ℕ} {s : Span} {a : Result Known ArrangementRefusal} {xs : List ℕ} → LineAt text i s → KnownLine n k (line_of (take (s.end - i) (drop i text)) s.ended) s.next a xs → KnownAt n k text i a xs
line-known-at {text = text} {i} {s} w r = record {
  long = r.long;
  next = s.next;
  on = r.on;
  found = record { line = line_of (take (s.end - i) (drop i text)) s.ended; lines = w.lines; on = omega (arith, w.start, w.on); within = w.next };
  by = r.by;
}

-- ---- what the definitions answer to a line

module _ (R : RunRecord) (k : ℕ) (l : Line) (gs : List (List ℕ)) where
  abbrev es : List ℕ
  es = values_of most_digits l.bytes

  malformed-line : is_group_line l ≡ false → groups_line R k l gs ≡ refuses 41 k
  unfolding groups_line ◌>>◌ refuse◌at◌when◌
  malformed-line a = rw a

  module _ (a : is_group_line l ≡ true) where
    unknown-line : any (leb (length R.events)) es ≡ true → groups_line R k l gs ≡ refuses 42 k
    unfolding groups_line ◌>>◌ refuse◌at◌when◌
    unknown-line b = rw (a, numbers-are l, b)

    module _ (b : any (leb (length R.events)) es ≡ false) where
      repeated-line : repeats (flat gs ++ es) ≡ true → groups_line R k l gs ≡ refuses 43 k
      unfolding groups_line ◌>>◌ refuse◌at◌when◌
      repeated-line c = rw (a, numbers-are l, b, c)

      broken-line : repeats (flat gs ++ es) ≡ false → breaks R (flat gs) es ≡ true → groups_line R k l gs ≡ refuses 44 k
      unfolding groups_line ◌>>◌ refuse◌at◌when◌
      broken-line c d = rw (a, numbers-are l, b, c, d)

      kept_line : repeats (flat gs ++ es) ≡ false → breaks R (flat gs) es ≡ false → groups_line R k l gs ≡ gives (gs ++ es ∷ [])
      unfolding groups_line ◌>>◌ refuse◌at◌when◌
      kept_line c d = rw (a, numbers-are l, b, c, d)

-- a line of the form has a number
has-number : (l : Line) → is_group_line l ≡ true → 0 < length (values_of most_digits l.bytes)
unfolding is_group_line
has-number l h = list-some l "G" h

-- ---- the first line that breaks the order, with one line more

broken-snoc : (R : RunRecord) (k : ℕ) (done : List ℕ) (gs : List (List ℕ)) (g : List ℕ) → 0 < k
    → broken_from R k done (gs ++ g ∷ []) ≡ cond (ltb 0 (broken_from R k done gs)) (broken_from R k done gs) (cond (breaks R (done ++ flat gs) g) (k + length gs) 0)
unfolding broken_from flat
broken-snoc R k done [] g h = let z : k + 0 ≡ k = omega arith in rw (append-nil done, z)
broken-snoc R k done (x ∷ gs) g h = go (breaks R done x) (broken-snoc R (suc k) (done ++ x) gs g (omega arith))
  where
    go : (b : Bool) → broken_from R (suc k) (done ++ x) (gs ++ g ∷ []) ≡ cond (ltb 0 (broken_from R (suc k) (done ++ x) gs)) (broken_from R (suc k) (done ++ x) gs) (cond (breaks R ((done ++ x) ++ flat gs) g) (suc k + length gs) 0)
        → cond b k (broken_from R (suc k) (done ++ x) (gs ++ g ∷ []))
        ≡ cond (ltb 0 (cond b k (broken_from R (suc k) (done ++ x) gs))) (cond b k (broken_from R (suc k) (done ++ x) gs)) (cond (breaks R (done ++ (x ++ flat gs)) g) (k + suc (length gs)) 0)
    go true e = rw (lt-ltb 0 k h)
    go false e = let z : suc k + length gs ≡ k + suc (length gs) = omega arith in rw (← append_assoc done x (flat gs), ← z) e

module _ {A : Type 0} where
  still-broken : (b k : ℕ) (a : Answer A) → 0 < k → unless_broken b (refuses 44 k) ≡ unless_broken (cond (ltb 0 b) b k) a
  unfolding unless_broken
  still-broken b k a h = go (ltb 0 b) refl
    where
      go : (t : Bool) → ltb 0 b ≡ t → cond t (refuses 44 b) (refuses 44 k) ≡ cond (ltb 0 (cond t b k)) (refuses 44 (cond t b k)) a
      go true e = rw e
      go false e = rw (lt-ltb 0 k h)

  still_kept : (b : ℕ) (a : Answer A) → unless_broken b a ≡ unless_broken (cond (ltb 0 b) b 0) a
  unfolding unless_broken
  still_kept b a = go (ltb 0 b) refl
    where
      go : (t : Bool) → ltb 0 b ≡ t → cond t (refuses 44 b) a ≡ cond (ltb 0 (cond t b 0)) (refuses 44 (cond t b 0)) a
      go true e = rw e
      go false e = refl

-- ---- the lines so far, of events below n

module _ {n k : ℕ} {xs : List ℕ} {gs : List (List ℕ)} (L : Lined n k xs gs) where
  pub events-few : n ≤ 128 → length (flat gs) ≤ 128
  events-few few = omega (arith, distinct-few n (flat gs) L.known L.once)

  -- each line has an event of its own
  pub lines-few : n ≤ 128 → k ≤ 129
  lines-few few = omega (arith, L.lines, L.full, events-few few)

  module _ {es : List ℕ} (low : (e : ℕ) → In e es → e < n) (once : repeats (flat gs ++ es) ≡ false) where
    known_more : (e : ℕ) → In e (flat gs ++ es) → e < n
    known_more e m = elim (Memᴰ.append_cases (flat gs) m) [ inl a ↦ L.known e a | inr a ↦ low e a ]

    all-few : n ≤ 128 → length (flat gs) + length es ≤ 128
    all-few few = omega (arith, distinct-few n (flat gs ++ es) known_more once, length-append (flat gs) es)

    lined-more : {xs' : List ℕ} → 0 < length es → Stands k xs' (flat gs) es → Lined n (k + 1) xs' (gs ++ es ∷ [])
    lined-more {xs'} full s = record {
      lines = omega (arith, L.lines, length-append gs (es ∷ []));
      full = omega (arith, L.full, length-append gs (es ∷ []), ap length (flat-snoc gs es), length-append (flat gs) es);
      known = λ e m. known_more e (subst (λ (zs : List ℕ). In e zs) (flat-snoc gs es) m);
      once = rw (flat-snoc gs es) once;
      stands = rw (flat-snoc gs es) (stands-next s);
    }

-- m lines are taken, and i is where the next one starts
pub record Reading (n : ℕ) (text : List ℕ) (m i : ℕ) (xs lined : List ℕ) : Type 0 where
  pub few : n ≤ 128
  pub groups : List (List ℕ)
  pub stood : Lined n (m + 1) xs groups
  pub ordered : Ordered groups lined
  pub whole : (R : RunRecord) → n ≡ length R.events → by_lines (groups_line R) 1 (lines_of text) [] ≡ unless_broken (broken_from R 1 [] groups) (by_lines (groups_line R) (m + 1) (lines_of (drop i text)) groups)

pub begun : {n : ℕ} (text : List ℕ) {xs lined : List ℕ} → n ≤ 128 → xs ≡ replicate 128 0 → lined ≡ replicate 257 0 → Reading n text 0 0 xs lined
unfolding flat repeats broken_from unless_broken
begun text few e q = rw (e, q) (record {
  few = few;
  groups = [];
  stood = record { lines = refl; full = omega arith; known = λ e m. absurd (Memᴰ.not-nil m); once = refl; stands = stands-none };
  ordered = ordered-none;
  whole = λ R o. refl;
})

-- a line by 41 and 42 that goes on
record Kept (n : ℕ) (l : Line) (count : ℕ) (events : List ℕ) : Type 0 where
  formed : is_group_line l ≡ true
  low : any (leb n) (values_of most_digits l.bytes) ≡ false
  counted : count ≡ length (values_of most_digits l.bytes)
  begins : count ≤ 128 → Begins events (values_of most_digits l.bytes)

kept_of : {n k : ℕ} {l : Line} {m : Known} {events : List ℕ} → n ≤ 128 → KnownBy n k l (Ok m) events → Kept n l m.count events
kept_of few (malformed e p) = cc
kept_of few (unknown e p q) = cc
kept_of {n} {l = l} {m} few (known m' e p q c b) = let z : m.count ≡ m'.count = cc in record { formed = p; low = q; counted = z ∙ c; begins = λ h. b (few-known 256 n (values_of most_digits l.bytes) (omega arith) q (omega arith)) }

module _ {n : ℕ} {text : List ℕ} {m i : ℕ} {xs lined : List ℕ} (g : Reading n text m i xs lined) where
  abbrev k : ℕ
  k = m + 1

  -- the lines before, and an array in which events of this line may be entered
  taken_of : {xs' : List ℕ} → ((e : ℕ) → e < 128 → is_in e (flat g.groups) ≡ (ltb 0 (get_or xs' e 0) && ltb (get_or xs' e 0) k)) → Taken n m xs' lined g.groups
  taken_of h = record {
    lines = omega (arith, g.stood.lines);
    full = g.stood.full;
    known = g.stood.known;
    once = g.stood.once;
    ordered = g.ordered;
    earlier = h;
  }

  refused : (x : ArrangementRefusal) (q : ℕ) {xs' : List ℕ} → arrangement_refusal x ≡ (q, k) → Taken n m xs' lined g.groups
      → ((R : RunRecord) → n ≡ length R.events → by_lines (groups_line R) k (lines_of (drop i text)) g.groups ≡ refuses q k) → ReadsLines n text (record { lines = m; refused = Some x }) xs' lined
  refused x q e t h = record {
    groups = g.groups;
    taken = t;
    stood = λ z. cc;
    last = refuses q k;
    answer = refusing q k refl (ap (λ (y : ℕ × ℕ). refused_as y) e);
    whole = λ R o. g.whole R o ∙ ap (unless_broken (broken_from R 1 [] g.groups)) (h R o);
  }

  pub done : length text ≤ i → ReadsLines n text (record { lines = m; refused = None }) xs lined
  done h = record {
    groups = g.groups;
    taken = taken_of g.stood.stands.earlier;
    stood = λ _. g.stood;
    last = gives g.groups;
    answer = let z : m ≡ length g.groups = omega (arith, g.stood.lines) in giving g.groups refl (ap (λ (j : ℕ). gives (j, 0, 0)) z) refl;
    whole = λ R o. g.whole R o ∙ ap (unless_broken (broken_from R 1 [] g.groups)) (lines-done (groups_line R) k g.groups text i h);
  }

  module _ {a : Result Known ArrangementRefusal} {events : List ℕ} (K : KnownAt n k text i a events) where
    abbrev now : List ℕ
    now = values_of most_digits K.found.line.bytes

    stranger : (R : RunRecord) → n ≡ length R.events → {b : Bool} → any (leb n) now ≡ b → any (leb (length R.events)) now ≡ b
    stranger R o h = ap (λ (j : ℕ). any (leb j) now) (sym o) ∙ h

    pub stop : {x : ArrangementRefusal} → a ≡ Err x → ReadsLines n text (record { lines = m; refused = Some x }) xs lined
    stop {x} f = go K.by
      where
        go : KnownBy n k K.found.line a events → ReadsLines n text (record { lines = m; refused = Some x }) xs lined
        go (malformed e p) = let z : x ≡ Malformed k = cc in rw z (refused (Malformed k) 41 refl (taken_of g.stood.stands.earlier) (λ R o. line_refused (groups_line R) k g.groups K.found (malformed-line R k K.found.line g.groups p)))
        go (unknown e p q) = let z : x ≡ Unknown k = cc in rw z (refused (Unknown k) 42 refl (taken_of g.stood.stands.earlier) (λ R o. line_refused (groups_line R) k g.groups K.found (unknown-line R k K.found.line g.groups p (stranger R o q))))
        go (known l e p q c b) = cc

    module _ {l : Known} (f : a ≡ Ok l) where
      kept : Kept n K.found.line l.count events
      kept = kept_of g.few (rw f at K.by)

      low : (e : ℕ) → In e now → e < n
      low = (all-below n now).0 kept.low

      refused-again : repeats (flat g.groups ++ now) ≡ true → {xs' : List ℕ} → ((e : ℕ) → e < 128 → is_in e (flat g.groups) ≡ (ltb 0 (get_or xs' e 0) && ltb (get_or xs' e 0) k))
          → ReadsLines n text (record { lines = m; refused = Some (Repeated k) }) xs' lined
      refused-again c t = refused (Repeated k) 43 refl (taken_of t) (λ R o. line_refused (groups_line R) k g.groups K.found (repeated-line R k K.found.line g.groups kept.formed (stranger R o kept.low) c))

      -- more numbers than there are events
      pub many-stop : 128 < l.count → ReadsLines n text (record { lines = m; refused = Some (Repeated k) }) xs lined
      many-stop h = refused-again (repeats-right (flat g.groups) now (too_many 128 now (λ e m. omega (arith, low e m, g.few)) (omega (arith, kept.counted)))) g.stood.stands.earlier

      module _ (short : l.count ≤ 128) where
        pub own : take l.count events ≡ now
        own = ap (λ (j : ℕ). take j events) kept.counted ∙ (kept.begins short).numbers

        -- what entering the events relies on
        pub enter-room : Enterable k xs (take l.count events)
        enter-room = rw own (record {
          line = omega arith;
          long = g.stood.stands.long;
          known = λ j u. omega (arith, low _ (at_in 0 now j u), g.few);
        })

        module _ {again : Bool} {xs' : List ℕ} (E : Enters k xs (take l.count events) again xs') where
          entered : Entered k (flat g.groups) now again xs'
          entered = rw (← own) (E (flat g.groups) g.stood.stands g.stood.once)

          pub again-stop : again ≡ true → ReadsLines n text (record { lines = m; refused = Some (Repeated k) }) xs' lined
          again-stop q = refused-again (sym entered.repeated ∙ q) entered.earlier

          module _ (q : again ≡ false) where
            once : repeats (flat g.groups ++ now) ≡ false
            once = sym entered.repeated ∙ q

            stood-more : Lined n (k + 1) xs' (g.groups ++ now ∷ [])
            stood-more = lined-more g.stood low once (has-number K.found.line kept.formed) (entered.stands q)

            -- what putting the events behind those before relies on
            pub add-room : Addable lined (take l.count events) k
            add-room = rw own (record {
              long = g.ordered.long;
              some = omega arith;
              few = omega (arith, lines-few stood-more g.few);
              room = omega (arith, from_is g.ordered g.stood.lines, all-few g.stood low once g.few);
            })

            pub turn : {lined' : List ℕ} → AddsLine lined (take l.count events) k lined' → Reading n text k l.next xs' lined'
            turn A = record {
              few = g.few;
              groups = g.groups ++ now ∷ [];
              stood = stood-more;
              ordered = ordered-more g.ordered g.stood.lines (rw own at A);
              whole = λ R o. g.whole R o ∙ go R o (breaks R (flat g.groups) now) refl;
            }
              where
                count-is : 1 + length g.groups ≡ k
                count-is = omega (arith, g.stood.lines)

                on : K.next ≡ l.next
                on = sym (rw f at K.on)

                snoc : (R : RunRecord) {b : Bool} → breaks R (flat g.groups) now ≡ b → broken_from R 1 [] (g.groups ++ now ∷ []) ≡ cond (ltb 0 (broken_from R 1 [] g.groups)) (broken_from R 1 [] g.groups) (cond b k 0)
                snoc R e = broken-snoc R 1 [] g.groups now (omega arith) ∙ rw (e, count-is) refl

                go : (R : RunRecord) → n ≡ length R.events → (b : Bool) → breaks R (flat g.groups) now ≡ b
                    → unless_broken (broken_from R 1 [] g.groups) (by_lines (groups_line R) k (lines_of (drop i text)) g.groups)
                    ≡ unless_broken (broken_from R 1 [] (g.groups ++ now ∷ [])) (by_lines (groups_line R) (k + 1) (lines_of (drop l.next text)) (g.groups ++ now ∷ []))
                go R o true e = rw (snoc R e, line_refused (groups_line R) k g.groups K.found (broken-line R k K.found.line g.groups kept.formed (stranger R o kept.low) once e)) (still-broken (broken_from R 1 [] g.groups) k _ (omega arith))
                go R o false e = rw (snoc R e, ← on, line_taken (groups_line R) k g.groups K.found (kept_line R k K.found.line g.groups kept.formed (stranger R o kept.low) once e)) (still_kept (broken_from R 1 [] g.groups) _)
