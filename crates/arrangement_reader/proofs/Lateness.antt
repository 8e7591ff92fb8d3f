-- What the rows say of late predecessors, from the last line to the first, is what the definitions say.
use Prim.Native.Nat.{ℕ, suc, ◌+◌, ◌-◌, ◌≤◌, ◌<◌, min, max}
use mathlib.Core.Path.{◌≡◌, refl, sym, ap, ◌∙◌, subst}
use mathlib.Core.Logic.{◌≢◌, ◌⊎◌, inl, inr}
use mathlib.Core.Bool.{Bool, true, false, not, ◌&&◌, cond}
use mathlib.Core.List.Memᴰ
use mathlib.Core.List.{List, [], ◌∷◌, ◌++◌}
use native.Mathlib.Decide.{ℕ_discrete}
use native.Mathlib.Omega.{arith}
use lib.Dec.{ltb}
use lib.Seq.{take-length, drop-cons, drop-length, get_or-take, get_or-drop}
use borrow.Author.Tests.{lt-ltb, le-leb, ltb-true, leb-true}
use lib.ListN.{length, get_or, take, drop, length-take}
use Rattle.spec.specs.Lists.{In, any, up_to, is_in, flat}
use Rattle.spec.specs.Record.{RunRecord}
use Rattle.spec.specs.Order.{is_strictly_before, is_not_later}
use Rattle.spec.specs.Replaying.{repeats, late, breaks}
use Rattle.bit_sets.specs.Sets.{has, has-most, Picked}
use Rattle.std.proofs.Common.{Option, Some, None, is_some, IfSome}
use Rattle.bit_sets.specs.declared.Set.{Set}
use Rattle.reach.specs.declared.Row.{Row}
use Rattle.reach.specs.Rows.{cell_of, Good, Sub, row_of, value_of}
use Rattle.lists.specs.Along.{take_more}
use Rattle.lists.specs.Laws.{here, at_in, flat-take-suc, in-up_to, up_to-in, true-or-false, true-or-l, true-or-r, true-and, and-true, or-true, not-is-true, clash, same_tests, any-in, any_found}
use Rattle.arrangement_reader.specs.Lined.{AllEvents, EventsIn, TellsOrder, Taken, IsSet, Meets, Unites, path_of, strict_of, Lacks, WithLacking, Grouped, or_zero, FindsBroken, broken_from}
use Rattle.arrangement_reader.specs.declared.Group.{Group}
use Rattle.arrangement_reader.proofs.Distinct.{member-in, in-member, repeats-apart, distinct-few}
use Rattle.arrangement_reader.proofs.Ordering.{end-next, end-most, parted, line-out}

-- ---- sets of events, and unions of their sets

pub meets-is : (a b m : Set) (r : Option ℕ) → ((f : ℕ) → has m f ≡ min (has a f) (has b f)) → Picked m r → Meets a b (is_some r)
meets-is a b m (Some r) h x = record {
  both = λ _. (r, omega (arith, h r, x.1, has-most a r), omega (arith, h r, x.1, has-most b r));
  none = λ z. cc;
}
meets-is a b m None h x = record { both = λ z. cc; none = λ _ f l y. omega (arith, h f, x f l, y) }

set-none : {s : Set} → ((f : ℕ) → has s f ≡ 0) → IsSet [] s
set-none h = record { low = λ e m. absurd (Memᴰ.not-nil m); has_all = λ e m. absurd (Memᴰ.not-nil m); no_more = λ e q. absurd (omega (arith, h e)) }

set_more : {es : List ℕ} {s : Set} (e : ℕ) (o : Set) {r : Set} → e < 128 → (has o e ≡ 1) × ((g : ℕ) → g ≢ e → has o g ≡ 0) → ((f : ℕ) → has r f ≡ max (has s f) (has o f)) → IsSet es s → IsSet (es ++ e ∷ []) r
set_more {es} {s} e o {r} small O U S = record {
  low = λ f m. elim (Memᴰ.append_cases es m) [ inl a ↦ S.low f a | inr a ↦ let z = Memᴰ.eq_of_singleton a in omega arith ];
  has_all = λ f m. elim (Memᴰ.append_cases es m) [
    | inl a ↦ omega (arith, U f, S.has_all f a, has-most o f)
    | inr a ↦ let z : has o f ≡ 1 = ap (has o) (Memᴰ.eq_of_singleton a) ∙ O.0 in omega (arith, U f, z, has-most s f)
  ];
  no_more = λ f h. elim (ℕ_discrete f e) [
    | yes z ↦ rw z (Memᴰ.append_right es here)
    | no z ↦ Memᴰ.append_left (e ∷ []) (S.no_more f (omega (arith, U f, O.1 f z)))
  ];
}

module _ {sets : ℕ → Set} {P : ℕ → Type 0} where
  unites-none : {s : Set} → ((f : ℕ) → has s f ≡ 0) → ((d : ℕ) → P d → ⊥) → Unites sets P s
  unites-none h z = record { some = λ f q. absurd (omega (arith, h f)); all = λ d f p q. absurd (z d p) }

  unites-same : {Q : ℕ → Type 0} {s : Set} → ((d : ℕ) → P d → Q d) → ((d : ℕ) → Q d → P d) → Unites sets P s → Unites sets Q s
  unites-same to back u = record { some = λ f q. let r = u.some f q in (r.0, to r.0 r.1, r.2); all = λ d f p q. u.all d f (back d p) q }

  unites-join : {Q : ℕ → Type 0} {s o r : Set} → ((f : ℕ) → has r f ≡ max (has s f) (has o f)) → Unites sets P s → Unites sets Q o → Unites sets (λ d. P d ⊎ Q d) r
  unites-join {Q} {s} {o} {r} U u v = record {
    some = λ f q. elim (ℕ_discrete (has s f) 1) [
      | yes a ↦ let z = u.some f a in (z.0, inl z.1, z.2)
      | no a ↦ let z = v.some f (omega (arith, U f, has-most s f, has-most o f)) in (z.0, inr z.1, z.2)
    ];
    all = λ d f p q. elim p [
      | inl a ↦ omega (arith, U f, u.all d f a q, has-most o f)
      | inr a ↦ omega (arith, U f, v.all d f a q, has-most s f)
    ];
  }

unites-one : {sets : ℕ → Set} (d : ℕ) {s : Set} → s ≡ sets d → Unites sets (λ x. x ≡ d) s
unites-one {sets} d {s} e = record { some = λ f q. (d, refl, rw (← e) q); all = λ x f p q. rw (e, ← p) q }

-- ---- the events of a line

pub grouped-none : (t : List ℕ) {a b c : Set} → ((f : ℕ) → has a f ≡ 0) → ((f : ℕ) → has b f ≡ 0) → ((f : ℕ) → has c f ≡ 0) → Grouped t [] (record { line = a; path = b; strict = c })
grouped-none t p q r = record {
  line = set-none p;
  path = unites-none q (λ d m. absurd (Memᴰ.not-nil m));
  strict = unites-none r (λ d m. absurd (Memᴰ.not-nil m));
}

in-more : (sets : ℕ → Set) (es : List ℕ) (e : ℕ) (s o : Set) {r : Set} → o ≡ sets e → ((f : ℕ) → has r f ≡ max (has s f) (has o f)) → Unites sets (λ d. In d es) s → Unites sets (λ d. In d (es ++ e ∷ [])) r
in-more sets es e s o q U u = unites-same
    (λ d p. elim p [ inl a ↦ Memᴰ.append_left (e ∷ []) a | inr a ↦ Memᴰ.append_right es (rw a here) ])
    (λ d m. elim (Memᴰ.append_cases es m) [ inl a ↦ inl a | inr a ↦ inr (Memᴰ.eq_of_singleton a) ])
    (unites-join U u (unites-one e q))

pub grouped-more : (t es : List ℕ) (i e : ℕ) {row : Row} (o : Set) {a b c a' b' c' : Set} → i < length es → e ≡ get_or es i 0 → e < 128 → row ≡ row_of t e → (has o e ≡ 1) × ((g : ℕ) → g ≢ e → has o g ≡ 0)
    → ((f : ℕ) → has a' f ≡ max (has a f) (has o f)) → ((f : ℕ) → has b' f ≡ max (has b f) (has row.path f)) → ((f : ℕ) → has c' f ≡ max (has c f) (has row.strict f))
    → Grouped t (take i es) (record { line = a; path = b; strict = c }) → Grouped t (take (i + 1) es) (record { line = a'; path = b'; strict = c' })
grouped-more t es i e {row} o {b = b} {c = c} l q small x O p u v g = rw (take_more 0 es i l, ← q) (record {
  line = set_more e o small O p g.line;
  path = in-more (path_of t) _ e b row.path (ap (λ (z : Row). z.path) x) u g.path;
  strict = in-more (strict_of t) _ e c row.strict (ap (λ (z : Row). z.strict) x) v g.strict;
})

-- ---- the events without a line

module _ (t xs : List ℕ) (m : ℕ) where
  pub lacking-none : {s : Set} → ((f : ℕ) → has s f ≡ 0) → Unites (path_of t) (Lacks 0 m xs) s
  lacking-none h = unites-none h (λ d p. absurd (omega arith))

  pub lacking-more : (d x : ℕ) {row : Row} {r s : Set} → x ≡ get_or xs d 0 → row ≡ row_of t d → WithLacking r row.path m x s → Unites (path_of t) (Lacks d m xs) r → Unites (path_of t) (Lacks (d + 1) m xs) s
  lacking-more d x {row} {r} {s} q e w u = elim (true-or-false (ltb 0 x && ltb x (m + 1))) [
    | inl a ↦ rw (w.has-line a) (unites-same (λ y p. (omega arith, p.1)) (λ y p. (
      elim (ℕ_discrete y d) [
        | yes z ↦ clash (rw (← q) a) (rw z at p.1)
        | no z ↦ omega arith
      ],
      p.1,
    )) u)
    | inr a ↦ unites-same
        (λ y p. elim p [ inl b ↦ (omega arith, b.1) | inr b ↦ (omega arith, rw (b, ← q) a) ])
        (λ y p. elim (ℕ_discrete y d) [ yes z ↦ inr z | no z ↦ inl (omega arith, p.1) ])
        (unites-join (w.lacking a) u (unites-one d (ap (λ (z : Row). z.path) e)))
  ]

-- ---- a line that breaks the order

module _ {n : ℕ} {t : List ℕ} (R : RunRecord) (few : n ≤ 128) (good : Good t) (o : TellsOrder n t R) where
  cell-is : (d e : ℕ) → cell_of t d e ≡ has (path_of t d) e + has (strict_of t d) e
  unfolding cell_of value_of
  cell-is d e = refl

  sub_is : (d e : ℕ) → d < n → has (strict_of t d) e ≤ has (path_of t d) e
  unfolding Good Sub
  sub_is d e l = good d (omega arith) e

  module _ (done g : List ℕ) (low : (e : ℕ) → In e g → e < n) (apart : (e : ℕ) → In e g → is_in e done ≡ false)
      {line strict behind u : Set} {b : Bool} (L : IsSet g line) (S : Unites (strict_of t) (λ d. In d g) strict)
      (B : Unites (path_of t) (λ d. (d < n) × (is_in d (done ++ g) ≡ false)) behind) (U : (f : ℕ) → has u f ≡ max (has behind f) (has strict f)) (M : Meets u line b) where
    -- an event that is late for f
    found : (d f : ℕ) → d < n → In f g → late R done g f d ≡ true → breaks R done g ≡ true
    unfolding breaks
    found d f l m h = any-in (λ e. any (late R done g e) (up_to (length R.events))) f g m (any-in (late R done g f) d (up_to (length R.events)) (up_to-in (length R.events) (omega (arith, o.events))) h)

    here-too : (f : ℕ) → In f g → is_in f (done ++ g) ≡ true
    here-too f m = member-in (done ++ g) (Memᴰ.append_right done m)

    late-strict : (d f : ℕ) → d < n → In f g → 2 ≤ cell_of t d f → is_in d done ≡ false → breaks R done g ≡ true
    unfolding late
    late-strict d f l m c p = found d f l m (true-or-l (is_not_later R d f && not (is_in d (done ++ g))) (true-and (sym (o.strict d f l (low f m)) ∙ le-leb 2 (cell_of t d f) c) (ap not p)))

    late-weak : (d f : ℕ) → d < n → In f g → 0 < cell_of t d f → is_in d (done ++ g) ≡ false → breaks R done g ≡ true
    unfolding late
    late-weak d f l m c p = found d f l m (true-or-r (is_strictly_before R d f && not (is_in d done)) (true-and (sym (o.weak d f l (low f m) (λ e. clash (here-too f m) (rw e at p))) ∙ lt-ltb 0 (cell_of t d f) c) (ap not p)))

    broken : b ≡ true → breaks R done g ≡ true
    broken q =
        let z = M.both q in let f = z.0 in let m = L.no_more f z.2 in
        elim (ℕ_discrete (has strict f) 1) [
          | yes a ↦ let s = S.some f a in let l = low s.0 s.1 in late-strict s.0 f l m (omega (arith, cell-is s.0 f, sub_is s.0 f l, s.2, has-most (path_of t s.0) f)) (apart s.0 s.1)
          | no a ↦ let s = B.some f (omega (arith, U f, z.1, has-most strict f)) in late-weak s.0 f s.1.0 m (omega (arith, cell-is s.0 f, s.2)) s.1.1
        ]

    -- what is behind an event that is late meets the line
    hit : (f : ℕ) → In f g → has u f ≡ 1 → b ≡ true
    hit f m h = elim (true-or-false b) [ inl a ↦ a | inr a ↦ absurd (omega (arith, M.none a f (L.low f m) (L.has_all f m))) ]

    hit-behind : (d f : ℕ) → d < n → In f g → is_in d (done ++ g) ≡ false → 0 < cell_of t d f → b ≡ true
    hit-behind d f l m p h = hit f m (omega (arith, U f, B.all d f (l, p) (omega (arith, cell-is d f, sub_is d f l, has-most (path_of t d) f)), has-most strict f))

    kept : breaks R done g ≡ true → b ≡ true
    unfolding breaks late
    kept h =
        let z = any_found (λ e. any (late R done g e) (up_to (length R.events))) g h in let f = z.0 in let m = z.1 in
        let y = any_found (late R done g f) (up_to (length R.events)) z.2 in let d = y.0 in
        let l : d < n = omega (arith, in-up_to (length R.events) y.1, o.events) in
        elim (or-true (is_strictly_before R d f && not (is_in d done)) (is_not_later R d f && not (is_in d (done ++ g))) y.2) [
          | inl a ↦ let x = and-true (is_strictly_before R d f) (not (is_in d done)) a in
              let c : 2 ≤ cell_of t d f = leb-true 2 (cell_of t d f) (o.strict d f l (low f m) ∙ x.0) in
              elim (true-or-false (is_in d (done ++ g))) [
                | inl i ↦ elim (Memᴰ.append_cases done (in-member (done ++ g) i)) [
                  | inl j ↦ clash (member-in done j) (not-is-true (is_in d done) x.1)
                  | inr j ↦ hit f m (omega (arith, U f, S.all d f j (omega (arith, cell-is d f, c, has-most (path_of t d) f, has-most (strict_of t d) f)), has-most behind f))
                ]
                | inr i ↦ hit-behind d f l m i (omega arith)
              ]
          | inr a ↦ let x = and-true (is_not_later R d f) (not (is_in d (done ++ g))) a in let i = not-is-true (is_in d (done ++ g)) x.1 in
              hit-behind d f l m i (ltb-true 0 (cell_of t d f) (o.weak d f l (low f m) (λ e. clash (here-too f m) (rw e at i)) ∙ x.0))
        ]

    pub breaks-is : b ≡ breaks R done g
    breaks-is = same_tests b (breaks R done g) (broken, kept)

-- ---- the lines from the last to the first

first-line : (R : RunRecord) (k : ℕ) (done g : List ℕ) (gs : List (List ℕ)) → cond (breaks R done g) k (broken_from R (suc k) (done ++ g) gs) ≡ broken_from R k done (g ∷ gs)
unfolding broken_from
first-line R k done g gs = refl

-- behind the first k lines: the first of the others that breaks the order, and what an event in none of the k is not later than
pub record Behind (n m : ℕ) (t xs lined : List ℕ) (k : ℕ) (r : Option ℕ) (s : Set) : Type 0 where
  pub some : IfSome r (λ j. 0 < j)
  pub broken : (R : RunRecord) (gs : List (List ℕ)) → TellsOrder n t R → Taken n m xs lined gs → or_zero r ≡ broken_from R (suc k) (flat (take k gs)) (drop k gs)
  pub late : (gs : List (List ℕ)) → Taken n m xs lined gs → Unites (path_of t) (λ d. (d < n) × (is_in d (flat (take k gs)) ≡ false)) s

pub behind-all : {n m : ℕ} {t xs lined : List ℕ} {s : Set} → n ≤ 128 → Unites (path_of t) (Lacks n m xs) s → Behind n m t xs lined m None s
unfolding broken_from
behind-all {n} {m} {t} {xs} few u = record {
  some = tt;
  broken = λ R gs o T. rw (T.lines, drop-length gs);
  late = λ gs T. let e : take m gs ≡ gs = ap (λ (j : ℕ). take j gs) T.lines ∙ take-length gs in
      unites-same (λ d p. (p.0, rw e (T.earlier d (omega arith) ∙ p.1))) (λ d p. (p.0, sym (T.earlier d (omega arith)) ∙ rw e at p.1)) u;
}

module _ {n m : ℕ} {xs lined : List ℕ} {gs : List (List ℕ)} (T : Taken n m xs lined gs) where
  rest-is : (j : ℕ) → j < m → flat (drop j gs) ≡ get_or gs j [] ++ flat (drop (suc j) gs)
  unfolding flat
  rest-is j h = rw (drop-cons gs j [] (omega (arith, T.lines)))

  line-rest : (j : ℕ) → j < m → (e : ℕ) → In e (get_or gs j []) → In e (flat (drop j gs))
  line-rest j h e i = rw (rest-is j h) (Memᴰ.append_left (flat (drop (suc j) gs)) i)

  line_known : (j : ℕ) → j < m → (e : ℕ) → In e (get_or gs j []) → e < n
  line_known j h e i = T.known e (rw (parted T.ordered j) (Memᴰ.append_right (flat (take j gs)) (line-rest j h e i)))

  line-apart : (j : ℕ) → j < m → (e : ℕ) → In e (get_or gs j []) → is_in e (flat (take j gs)) ≡ false
  line-apart j h e i = repeats-apart (flat (take j gs)) (flat (drop j gs)) (subst (λ (z : List ℕ). repeats z ≡ false) (parted T.ordered j) T.once) (line-rest j h e i)

  -- each line has an event of its own
  pub lines-most : n ≤ 128 → m ≤ 128
  lines-most few = omega (arith, T.lines, T.full, distinct-few n (flat gs) T.known T.once)

  -- where line k starts and ends, and its events
  pub line-ends : {j from to : ℕ} → n ≤ 128 → j < m → from ≡ get_or lined (128 + j) 0 → to ≡ get_or lined (128 + j + 1) 0
      → EventsIn lined from to
  line-ends {j} {from} {to} few some p q =
      let a : 128 + j + 1 ≡ 128 + suc j = omega arith in
      let x : from ≡ length (flat (take j gs)) = p ∙ T.ordered.ends j (omega (arith, T.lines)) in
      let y : to ≡ length (flat (take (suc j) gs)) = q ∙ ap (λ (z : ℕ). get_or lined z 0) a ∙ T.ordered.ends (suc j) (omega (arith, T.lines)) in
      let l : length (flat gs) ≤ n = distinct-few n (flat gs) T.known T.once in
      record {
        order = omega (arith, end-next T.ordered j (omega (arith, T.lines)));
        most = omega (arith, end-most T.ordered (suc j));
        long = T.ordered.long;
        known = λ i h. let u : i < length (flat gs) = omega (arith, end-most T.ordered (suc j)) in
            omega (arith, sym (get_or-take (length (flat gs)) lined i 0 u) ∙ ap (λ (z : List ℕ). get_or z i 0) T.ordered.events, T.known _ (at_in 0 (flat gs) i u));
      }

-- those that stand in a part of the array are events
pub part-events : {lined : List ℕ} {from to : ℕ} → EventsIn lined from to → AllEvents (take (to - from) (drop from lined))
part-events {lined} {from} {to} E i h =
    omega (arith, length-take (to - from) (drop from lined), get_or-take (to - from) (drop from lined) i 0 (omega (arith, length-take (to - from) (drop from lined))), get_or-drop from lined i 0, E.known (from + i) (omega (arith, length-take (to - from) (drop from lined))))

-- line k where it breaks the order, else what was found behind it
picked-zero : (b : Bool) (k : ℕ) (r : Option ℕ) → or_zero (cond b (Some k) r) ≡ cond b k (or_zero r)
picked-zero true k r = refl
picked-zero false k r = refl

picked-some : (b : Bool) (k : ℕ) (r : Option ℕ) → 0 < k → IfSome r (λ j. 0 < j) → IfSome (cond b (Some k) r) (λ j. 0 < j)
picked-some true k r h u = h
picked-some false k r h u = u

pub behind_more : {n m : ℕ} {t xs lined : List ℕ} (j : ℕ) {r : Option ℕ} {from to : ℕ} {late late' u : Set} {g : Group} {b : Bool} → n ≤ 128 → Good t → j < m → from ≡ get_or lined (128 + j) 0 → to ≡ get_or lined (128 + j + 1) 0
    → Grouped t (take (to - from) (drop from lined)) g → ((f : ℕ) → has u f ≡ max (has late f) (has g.strict f)) → Meets u g.line b
    → ((f : ℕ) → has late' f ≡ max (has late f) (has g.path f)) → Behind n m t xs lined (j + 1) r late → Behind n m t xs lined j (cond b (Some (j + 1)) r) late'
behind_more {n} {m} {t} {xs} {lined} j {r} {from} {to} {late} {g = g} {b = b} few good h p q G U M W B' = record {
  some = picked-some b (j + 1) r (omega arith) B.some;
  broken = λ R gs o T. picked-zero b (j + 1) r ∙ ap (λ (k : ℕ). cond b k (or_zero r)) one ∙ go R gs T (breaks-is R few good o (flat (take j gs)) (get_or gs j []) (line_known T j h) (line-apart T j h) (group gs T).line (group gs T).strict (rest gs T) U M) (B.broken R gs o T);
  late = λ gs T. unites-same
      (λ d z. elim z [ inl a ↦ (a.0, before gs T d a.1) | inr a ↦ (line_known T j h d a, line-apart T j h d a) ])
      (λ d z. elim (true-or-false (is_in d (flat (take j gs) ++ get_or gs j []))) [
        | inl a ↦ elim (Memᴰ.append_cases (flat (take j gs)) (in-member (flat (take j gs) ++ get_or gs j []) a)) [ inl i ↦ clash (member-in (flat (take j gs)) i) z.1 | inr i ↦ inr i ]
        | inr a ↦ inl (z.0, a)
      ])
      (unites-join W (rest gs T) (group gs T).path);
}
  where
    one : j + 1 ≡ suc j
    one = omega arith

    B : Behind n m t xs lined (suc j) r late
    B = rw one at B'

    next : 128 + j + 1 ≡ 128 + suc j
    next = omega arith

    within : (gs : List (List ℕ)) → Taken n m xs lined gs → j < length gs
    within gs T = omega (arith, T.lines)

    group : (gs : List (List ℕ)) → Taken n m xs lined gs → Grouped t (get_or gs j []) g
    group gs T = subst (λ (es : List ℕ). Grouped t es g) (line-out T.ordered j from to (within gs T) (p ∙ T.ordered.ends j (omega (arith, within gs T))) (q ∙ ap (λ (z : ℕ). get_or lined z 0) next ∙ T.ordered.ends (suc j) (within gs T))) G

    rest : (gs : List (List ℕ)) → Taken n m xs lined gs → Unites (path_of t) (λ d. (d < n) × (is_in d (flat (take j gs) ++ get_or gs j []) ≡ false)) late
    rest gs T = rw (flat-take-suc gs j (within gs T)) at (B.late gs T)

    before : (gs : List (List ℕ)) → Taken n m xs lined gs → (d : ℕ) → is_in d (flat (take j gs) ++ get_or gs j []) ≡ false → is_in d (flat (take j gs)) ≡ false
    before gs T d z = elim (true-or-false (is_in d (flat (take j gs)))) [
      | inl a ↦ clash (member-in (flat (take j gs) ++ get_or gs j []) (Memᴰ.append_left (get_or gs j []) (in-member (flat (take j gs)) a))) z
      | inr a ↦ a
    ]

    go : (R : RunRecord) (gs : List (List ℕ)) → Taken n m xs lined gs → b ≡ breaks R (flat (take j gs)) (get_or gs j []) → or_zero r ≡ broken_from R (suc (suc j)) (flat (take (suc j) gs)) (drop (suc j) gs)
        → cond b (suc j) (or_zero r) ≡ broken_from R (suc j) (flat (take j gs)) (drop j gs)
    go R gs T x y = rw (drop-cons gs j [] (within gs T), x, y, flat-take-suc gs j (within gs T)) (first-line R (suc j) (flat (take j gs)) (get_or gs j []) (drop (suc j) gs))

-- the whole
pub behind-none : {n m : ℕ} {t xs lined : List ℕ} {r : Option ℕ} {s : Set} → Behind n m t xs lined 0 r s → FindsBroken n m t xs lined r
unfolding flat
behind-none B = record { some = B.some; by = B.broken }
