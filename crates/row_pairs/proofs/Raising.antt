-- Entries of the table raised one after the other.
use mathlib.Core.Path.{◌≡◌, refl, sym, ap, ◌∙◌, subst}
use mathlib.Core.Logic.{◌≢◌}
use Prim.Native.Nat.{ℕ, ◌+◌, ◌-◌, ◌≤◌, ◌<◌, min, max, zero-le}
use native.Mathlib.Nat.{max-zero}
use native.Mathlib.Decide.{ℕ_discrete}
use native.Mathlib.Numerals.{add-one}
use native.Mathlib.Omega.{arith}
use mathlib.Core.Bool.{Bool, true, false, cond, and-false}
use mathlib.Core.List.{List}
use lib.ListN.{get_or}
use lib.Dec.{eqb}
use borrow.Author.Tests.{eq-eqb, ne_eqb}
use Rattle.spec.specs.Lists.{up_to, from, greatest}
use Rattle.order.specs.Below.{max_below, max-suc}
use Rattle.bit_sets.specs.Sets.{has, has-most}
use Rattle.bit_sets.specs.declared.Set.{Set}
use Rattle.reach.specs.Rows.{Sub, row_of, cell_of, value_of, Good, Put, Raised as RaisedOne}
use Rattle.reach.specs.declared.Row.{Row}
use Rattle.spec.specs.Record.{guard_slot, read_slot}
use Rattle.record_columns.specs.Layout.{mark_row}
use Rattle.record_columns.specs.declared.Counts.{Counts}
use Rattle.row_pairs.specs.Relation.{pair_in, befores_in, afters_in, sides_in, after, before, reader, condition_pair_in, guard_pair_in, read_pair_in, mark_pair_in, overall, relation_in, Raised, Filled}

-- ---- one entry

pair-here : (e f v : ℕ) → pair_in e f v e f ≡ v
unfolding pair_in
pair-here e f v = rw (eq-eqb e e refl, eq-eqb f f refl)

pair-away : (e f v i j : ℕ) → ¬ ((i ≡ e) × (j ≡ f)) → pair_in e f v i j ≡ 0
unfolding pair_in
pair-away e f v i j d = elim (ℕ_discrete e i) [
  | yes p ↦ rw (ne_eqb f j (λ q. d (sym p, sym q)), and-false (eqb e i))
  | no p ↦ rw (ne_eqb e i p)
]

-- one that is no event is in no entry
pub raise-none : (t : List ℕ) (e f v : ℕ) → 128 ≤ max e f → Raised t (pair_in e f v) t
raise-none t e f v h = record { long = refl; good = λ g. g; cell = λ i j k l. omega (arith, pair-away e f v i j (λ z. omega (arith, z.0, z.1))) }

pub raise-one : (w w' : List ℕ) (e f v : ℕ) → RaisedOne w e f v w' → Raised w (pair_in e f v) w'
unfolding Good
raise-one w w' e f v r = record {
  long = r.long;
  good = λ g i l. r.sub i (g i l);
  cell = λ i j k l. elim (ℕ_discrete i e) [
    | yes x ↦ elim (ℕ_discrete j f) [
      | yes y ↦ rw (x, y) (r.here ∙ ap (max (cell_of w e f)) (sym (pair-here e f v)))
      | no y ↦ r.other i j (λ z. y z.1) ∙ omega (arith, pair-away e f v i j (λ z. y z.1))
    ]
    | no x ↦ r.other i j (λ z. x z.0) ∙ omega (arith, pair-away e f v i j (λ z. x z.0))
  ];
}

-- ---- one after the other

raised-as : {t t' : List ℕ} {v w : ℕ → ℕ → ℕ} → ((i j : ℕ) → i < 128 → v i j ≡ w i j) → Raised t v t' → Raised t w t'
raised-as h r = record { long = r.long; good = r.good; cell = λ i j k l. r.cell i j k l ∙ ap (max _) (h i j k) }

pub overall-none : (t : List ℕ) (v : ℕ → ℕ → ℕ → ℕ) → Raised t (overall v 0) t
unfolding overall max_below greatest up_to from
overall-none t v = record { long = refl; good = λ g. g; cell = λ i j k l. sym (max-zero _) }

pub overall-more : {t₀ t t' : List ℕ} {n : ℕ} (v : ℕ → ℕ → ℕ → ℕ) → Raised t₀ (overall v n) t → Raised t (v n) t' → Raised t₀ (overall v (n + 1)) t'
unfolding overall
overall-more {n} v m w = rw (add-one n) record { long = w.long ∙ m.long; good = λ g. w.good (m.good g); cell = λ i j k l. omega (arith, w.cell i j k l, m.cell i j k l, max-suc n (λ k. v k i j)) }

pub overall-end : {t₀ t : List ℕ} {i : ℕ} (n : ℕ) (v : ℕ → ℕ → ℕ → ℕ) → i ≡ n → Raised t₀ (overall v i) t → Raised t₀ (overall v n) t
overall-end {t₀} {t} n v q m = subst (λ (z : ℕ). Raised t₀ (overall v z) t) q m

-- ---- the pairs of conditions and marks

pub condition-raised : {t t' : List ℕ} (rec : List ℕ) (c : ℕ) {e f : ℕ} → e ≡ get_or rec (640 + c) 0 → f ≡ get_or rec (1152 + c) 0 → Raised t (pair_in e f 2) t' → Raised t (condition_pair_in rec c) t'
unfolding condition_pair_in
condition-raised rec c he hf r = raised-as (λ i j _. rw (he, hf) refl) r

-- a number that is no event has no pairs
pub afters-none : (t : List ℕ) (f : ℕ) (a : ℕ → ℕ) → 128 ≤ f → Raised t (afters_in f a) t
unfolding afters_in
afters-none t f a h = record { long = refl; good = λ g. g; cell = λ i j k l. rw (ne_eqb f i (omega arith)) (sym (max-zero _)) }

pub befores-none : (t : List ℕ) (f : ℕ) (b : ℕ → ℕ) → 128 ≤ f → Raised t (befores_in f b) t
unfolding befores_in
befores-none t f b h = record { long = refl; good = λ g. g; cell = λ i j k l. rw (ne_eqb f j (omega arith)) (sym (max-zero _)) }

-- a set joined into both sets of row f
pub afters-put : {w w' : List ℕ} (f : ℕ) (a : Set) (r s : Row) → f < 128 → Good w → r ≡ row_of w f → ((e : ℕ) → has s.path e ≡ max (has r.path e) (has a e)) → ((e : ℕ) → has s.strict e ≡ max (has r.strict e) (has a e))
    → Put w f s w' → Raised w (afters_in f (has a)) w'
unfolding Good afters_in cell_of value_of Sub
afters-put {w} {w'} f a r s l g e p q u = record {
  long = u.long;
  good = λ h i k. elim (ℕ_discrete i f) [
    | yes y ↦ rw (y, u.here) (λ j. omega (arith, p j, q j, sub j))
    | no d ↦ rw (u.other i d) (h i k)
  ];
  cell = λ i j k m. elim (ℕ_discrete i f) [
    | yes y ↦ rw (y, u.here, eq-eqb f f refl, ← e) (omega (arith, p j, q j, sub j, has-most r.path j, has-most a j))
    | no d ↦ rw (u.other i d, ne_eqb f i (λ z. d (sym z))) (sym (max-zero _))
  ];
}
  where
    sub : (j : ℕ) → has r.strict j ≤ has r.path j
    sub j = rw e (g f l j)

-- ---- the events of a set, one after the other

-- the rows have the pairs of those events of a set that are not in the rest
pub record Befores (w₀ : List ℕ) (f : ℕ) (a rest : Set) (w : List ℕ) : Type 0 where
  pub raised : Raised w₀ (befores_in f (λ e. has a e - has rest e)) w
  pub inside : (e : ℕ) → has rest e ≤ has a e

pub befores-begun : (w : List ℕ) (f : ℕ) (a : Set) → Befores w f a a w
unfolding befores_in
befores-begun w f a = record { raised = record { long = refl; good = λ g. g; cell = λ i j k l. omega (arith, none (eqb f j) (has a i)) }; inside = λ e. omega arith }
  where
    none : (b : Bool) (x : ℕ) → cond b (x - x) 0 ≡ 0
    none true x = omega arith
    none false x = refl

pub befores-more : {w₀ w w' : List ℕ} {f : ℕ} (e : ℕ) {a rest : Set} (rest' : Set) → Befores w₀ f a rest w → has rest e ≡ 1 → has rest' e ≡ 0 → ((g : ℕ) → g ≢ e → has rest' g ≡ has rest g)
    → RaisedOne w e f 1 w' → Befores w₀ f a rest' w'
unfolding befores_in
befores-more {f = f} e {a} {rest} rest' h q gone stay r =
    let p = raise-one _ _ e f 1 r in
    record {
      raised = record { long = p.long ∙ h.raised.long; good = λ g. p.good (h.raised.good g); cell = λ i j k l. omega (arith, p.cell i j k l, h.raised.cell i j k l, joined i j) };
      inside = λ g. elim (ℕ_discrete g e) [
        | yes y ↦ rw (y, gone) zero-le
        | no d ↦ omega (arith, stay g d, h.inside g)
      ];
    }
  where
    joined : (i j : ℕ) → befores_in f (λ g. has a g - has rest' g) i j ≡ max (befores_in f (λ g. has a g - has rest g) i j) (pair_in e f 1 i j)
    joined i j = elim (ℕ_discrete i e) [
      | yes y ↦ elim (ℕ_discrete f j) [
        | yes z ↦ rw (y, ← z, eq-eqb f f refl, pair-here e f 1) (omega (arith, q, gone, h.inside e, has-most a e))
        | no d ↦ rw (ne_eqb f j d, pair-away e f 1 i j (λ z. d (sym z.1))) refl
      ]
      | no d ↦ rw (pair-away e f 1 i j (λ z. d z.0)) (ap (λ (x : ℕ). cond (eqb f j) (has a i - x) 0) (stay i d) ∙ sym (max-zero _))
    ]

pub befores-end : {w₀ w : List ℕ} {f : ℕ} {a rest : Set} → Befores w₀ f a rest w → ((e : ℕ) → e < 128 → has rest e ≡ 0) → Raised w₀ (befores_in f (has a)) w
unfolding befores_in
befores-end {f} {a} {rest} h z = raised-as (λ i j k. ap (λ (x : ℕ). cond (eqb f j) x 0) (omega (arith, z i k))) h.raised

-- ---- the pairs of the marks at a condition

module _ (f : ℕ) (a : ℕ → ℕ) (g : ℕ) (b : ℕ → ℕ) where
  -- no event on either side
  pub sides-none : (t : List ℕ) → ((e : ℕ) → a e ≡ 0) → ((e : ℕ) → b e ≡ 0) → Raised t (sides_in f a g b) t
  unfolding sides_in afters_in befores_in
  sides-none t x y = record { long = refl; good = λ z. z; cell = λ i j k l. rw (x j, y i) (omega (arith, nothing (eqb f i), nothing (eqb g j))) }
    where
      nothing : (t : Bool) → ◌≡◌ {A = ℕ} (cond t 0 0) 0
      nothing true = refl
      nothing false = refl

  -- one side after the other
  pub sides-raised : {t t' t'' : List ℕ} → Raised t (afters_in f a) t' → Raised t' (befores_in g b) t'' → Raised t (sides_in f a g b) t''
  unfolding sides_in
  sides-raised r s = record {
    long = s.long ∙ r.long;
    good = λ z. s.good (r.good z);
    cell = λ i j k l. omega (arith, r.cell i j k l, s.cell i j k l);
  }

  -- the same sides, said otherwise
  sides-as : {t t' : List ℕ} {x y : ℕ → ℕ} → ((e : ℕ) → x e ≡ a e) → ((e : ℕ) → y e ≡ b e) → Raised t (sides_in f x g y) t' → Raised t (sides_in f a g b) t'
  unfolding sides_in afters_in befores_in
  sides-as hx hy r = raised-as (λ i j k. rw (hx j, hy i) refl) r

module _ (words : List ℕ) (k : ℕ) {n : ℕ} {r : Row} (hn : n ≡ k) (hr : r ≡ row_of words n) (g : (i : ℕ) → Sub (row_of words i)) where
  -- what the sets of row k have
  after-has : (e : ℕ) → has r.strict e ≡ after (cell_of words k e)
  unfolding cell_of value_of Sub
  after-has e = rw (hr, hn) (omega (arith, g k e, has-most (row_of words k).path e))

  before-has : (e : ℕ) → min (has r.path e) (1 - has r.strict e) ≡ before (cell_of words k e)
  unfolding cell_of value_of Sub
  before-has e = rw (hr, hn) (omega (arith, g k e, has-most (row_of words k).path e))

  reader-has : (e : ℕ) → has r.path e ≡ reader (cell_of words k e)
  unfolding cell_of value_of Sub
  reader-has e = rw (hr, hn) (omega (arith, g k e, has-most (row_of words k).path e))

module _ (rec words : List ℕ) (c : ℕ) {n : ℕ} {r : Row} (hr : r ≡ row_of words n) (g : (i : ℕ) → Sub (row_of words i)) where
  -- of the marks B and A
  pub guards-raised : {t t' : List ℕ} → n ≡ mark_row c guard_slot → (b : Set) → ((e : ℕ) → has b e ≡ min (has r.path e) (1 - has r.strict e))
      → Raised t (sides_in (get_or rec (1152 + c) 0) (has r.strict) (get_or rec (640 + c) 0) (has b)) t' → Raised t (guard_pair_in rec words c) t'
  unfolding guard_pair_in
  guards-raised hn b hb = sides-as _ _ _ _ (after-has words (mark_row c guard_slot) hn hr g) (λ e. hb e ∙ before-has words (mark_row c guard_slot) hn hr g e)

  -- and of the marks R
  pub reads-raised : {t t' : List ℕ} → n ≡ mark_row c read_slot
      → Raised t (sides_in (get_or rec (640 + c) 0) (has r.path) (get_or rec (1152 + c) 0) (has r.path)) t' → Raised t (read_pair_in rec words c) t'
  unfolding read_pair_in
  reads-raised hn = sides-as _ _ _ _ (reader-has words (mark_row c read_slot) hn hr g) (reader-has words (mark_row c read_slot) hn hr g)

-- the two rows of a condition, one after the other
pub marks-raised : {t t' t'' : List ℕ} (rec words : List ℕ) (c : ℕ) → Raised t (guard_pair_in rec words c) t' → Raised t' (read_pair_in rec words c) t'' → Raised t (mark_pair_in rec words c) t''
unfolding mark_pair_in
marks-raised rec words c x y = record {
  long = y.long ∙ x.long;
  good = λ z. y.good (x.good z);
  cell = λ i j k l. omega (arith, x.cell i j k l, y.cell i j k l);
}

-- the marks' pairs in rows that had none, then the conditions'
pub filled : {t₁ t₂ : List ℕ} (s : Counts) (rec words : List ℕ) → ((i j : ℕ) → i < 128 → j < 128 → cell_of t₁ i j ≡ overall (mark_pair_in rec words) s.conditions i j) → Raised t₁ (overall (condition_pair_in rec) s.conditions) t₂ → Filled t₁ (relation_in s rec words) t₂
unfolding relation_in
filled s rec words m a = record {
  long = a.long;
  good = a.good;
  cell = λ i j k l. omega (arith, a.cell i j k l, m i j k l);
}
