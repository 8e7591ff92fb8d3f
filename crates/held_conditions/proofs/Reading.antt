-- What is known of the conditions that were passed, and of the set of those that an event reads.
use Prim.Native.Nat.{ℕ, ◌+◌, ◌≤◌, ◌<◌, max}
use mathlib.Core.Path.{◌≡◌, refl, sym, ap, ◌∙◌}
use mathlib.Core.Logic.{inl, inr}
use mathlib.Core.Bool.{Bool, true, false, not, ◌&&◌, ◌||◌, and-false, or-true}
use mathlib.Core.Option.{Option, none, some}
use mathlib.Core.List.{List}
use native.Mathlib.Decide.{ℕ_discrete, dec_lt}
use native.Mathlib.Omega.{arith}
use lib.Dec.{eqb, ltb}
use lib.ListN.{length, get_or, set, length-set}
use lib.Seq.{get_or-set_same, get_or-set_other}
use borrow.Author.Tests.{eq-eqb, ne_eqb, eqb-true, ltb-true, lt-ltb, le-ltb}
use Rattle.spec.specs.Lists.{as_count}
use Rattle.spec.specs.Record.{names}
use Rattle.lists.specs.Laws
use Rattle.bit_sets.specs.Bits.{bit}
use Rattle.condition_sets.specs.Sets.{bit_at}
use Rattle.condition_sets.proofs.Words.{at_most}
use Rattle.held_conditions.specs.Held.{place_in, consumer_in, producer_in, earlier_at, left_at, held_at, lowest_at, reads_condition, FirstOf, Passed, Joins, ReadsPlace, ReadsOf}

-- ---- the tests

module _ (rec ks : List ℕ) (p e c : ℕ) where
  pub left-of : {w : ℕ} {r : Bool} → w ≡ place_in rec c → w ≡ p → r ≡ earlier_at ks e (consumer_in rec c) → not r ≡ left_at rec ks p e c
  unfolding left_at
  left-of a b q = rw (q, eq-eqb (place_in rec c) p (sym a ∙ b))

  pub not_left : {w : ℕ} → w ≡ place_in rec c → (w ≡ p → ⊥) → false ≡ left_at rec ks p e c
  unfolding left_at
  not_left a d = rw (ne_eqb (place_in rec c) p (λ z. d (a ∙ z)))

  pub held-initial : {r : Bool} → producer_in rec c ≡ 128 → r ≡ left_at rec ks p e c → r ≡ held_at rec ks p e c
  unfolding held_at
  held-initial q h = rw (eq-eqb (producer_in rec c) 128 q) h

  pub held-earlier : {r s : Bool} → r ≡ earlier_at ks e (producer_in rec c) → r ≡ true → s ≡ left_at rec ks p e c → s ≡ held_at rec ks p e c
  unfolding held_at
  held-earlier q t h = rw (sym q ∙ t, or-true (eqb (producer_in rec c) 128)) h

  pub held-later : {r : Bool} → (producer_in rec c ≡ 128 → ⊥) → r ≡ earlier_at ks e (producer_in rec c) → r ≡ false → false ≡ held_at rec ks p e c
  unfolding held_at
  held-later d q t = rw (ne_eqb (producer_in rec c) 128 d, sym q ∙ t)

-- ---- what is not left did not hold

pub not-held : (rec ks : List ℕ) (p e c : ℕ) → left_at rec ks p e c ≡ false → held_at rec ks p e c ≡ false
unfolding held_at
not-held rec ks p e c h = rw h (and-false (eqb (producer_in rec c) 128 || earlier_at ks e (producer_in rec c)))

-- the condition that is read in a place is one of it
pub lowest-place : (rec ks : List ℕ) (p e n c : ℕ) → lowest_at rec ks p e n ≡ some c → (c < n) × (place_in rec c ≡ p)
unfolding lowest_at held_at left_at
lowest-place rec ks p e n c h =
    let r = Laws.lowest-some (held_at rec ks p e) n h in
    (r.0, eqb-true _ _ (Laws.and-true (eqb (place_in rec c) p) (not (earlier_at ks e (consumer_in rec c))) (Laws.and-true (eqb (producer_in rec c) 128 || earlier_at ks e (producer_in rec c)) _ r.1).1).0)

pub named-is : (o : Option ℕ) (c : ℕ) → names o c ≡ true → o ≡ some c
unfolding names
named-is none c h = Laws.clash h refl
named-is (some d) c h = ap some (eqb-true d c h)

-- ---- the cursors

module _ {rec ks nexts : List ℕ} {e n : ℕ} (P : Passed rec ks e n nexts) (p start r : ℕ) (l : p < 32) (q : start ≡ get_or nexts p 0) (F : FirstOf (left_at rec ks p e) start n r) where
  -- nothing is left of a place before the one that is found,
  pub passed-before : (c : ℕ) → c < r → left_at rec ks p e c ≡ false
  passed-before c m = elim (dec_lt c start) [ yes u ↦ P.past p c l (omega arith) | no u ↦ F.none c (omega arith) m ]

  -- which is the place's next
  pub passed_on : Passed rec ks e n (set nexts p r)
  passed_on = record {
    wide = length-set nexts p r ∙ P.wide;
    low = λ q k. elim (ℕ_discrete q p) [
      | yes z ↦ omega (arith, F.to, same q z)
      | no d ↦ omega (arith, P.low q k, other q d)
    ];
    past = λ q c k m. elim (ℕ_discrete q p) [
      | yes z ↦ rw z (passed-before c (omega (arith, same q z)))
      | no d ↦ P.past q c k (omega (arith, other q d))
    ];
  }
    where
      same : (q : ℕ) → q ≡ p → get_or (set nexts p r) q 0 ≡ r
      same q z = ap (λ (i : ℕ). get_or (set nexts p r) i 0) z ∙ get_or-set_same nexts p r 0 (omega (arith, P.wide))

      other : (q : ℕ) → (q ≡ p → ⊥) → get_or (set nexts p r) q 0 ≡ get_or nexts q 0
      other q d = get_or-set_other nexts p q r 0 d

-- what was consumed before an event was consumed before every later one
pub passed_later : {rec ks nexts : List ℕ} {e f n : ℕ} → get_or ks e 0 ≤ get_or ks f 0 → Passed rec ks e n nexts → Passed rec ks f n nexts
passed_later {rec} {ks} {e = e} {f} u P = record { wide = P.wide; low = P.low; past = λ p c l m. later p c (P.past p c l m) }
  where
    still : (g : ℕ) → earlier_at ks e g ≡ true → earlier_at ks f g ≡ true
    still g h = unfold earlier_at in (let z = Laws.and-true (not (eqb g 128)) (ltb (get_or ks g 0) (get_or ks e 0)) h in Laws.true-and z.0 (lt-ltb (get_or ks g 0) (get_or ks f 0) (omega (arith, ltb-true (get_or ks g 0) (get_or ks e 0) z.1))))

    later : (p c : ℕ) → left_at rec ks p e c ≡ false → left_at rec ks p f c ≡ false
    later p c h = unfold left_at in (elim (Laws.and-false (eqb (place_in rec c) p) (not (earlier_at ks e (consumer_in rec c))) h) [
      | inl a ↦ rw a
      | inr a ↦ rw (still (consumer_in rec c) (Laws.not-is-false _ a)) (and-false (eqb (place_in rec c) p))
    ])

pub passed_none : (rec ks : List ℕ) (e n : ℕ) {nexts : List ℕ} → length nexts ≡ 32 → ((i : ℕ) → get_or nexts i 0 ≡ 0) → Passed rec ks e n nexts
passed_none rec ks e n w z = record { wide = w; low = λ p l. omega (arith, z p); past = λ p c l m. absurd (omega (arith, z p)) }

-- ---- the condition that is read in a place

module _ (rec ks : List ℕ) (p e n start r : ℕ) (before : (c : ℕ) → c < start → left_at rec ks p e c ≡ false) (F : FirstOf (held_at rec ks p e) start n r) where
  none_before : (c : ℕ) → c < r → held_at rec ks p e c ≡ false
  none_before c l = elim (dec_lt c start) [ yes u ↦ not-held rec ks p e c (before c u) | no u ↦ F.none c (omega arith) l ]

  pub lowest-found : r < n → lowest_at rec ks p e n ≡ some r
  unfolding lowest_at
  lowest-found l = Laws.lowest-is (held_at rec ks p e) n r l none_before (F.found l)

  pub lowest-none : n ≤ r → lowest_at rec ks p e n ≡ none
  unfolding lowest_at
  lowest-none l = Laws.none-lowest (held_at rec ks p e) n (λ c k. none_before c (omega arith))

  -- it joins the set
  pub reads-one : {old new : List ℕ} → r < n → Joins r old new → ReadsPlace rec ks p e n old new
  reads-one {old} {new} l J = record { long = J.long; bits = λ c k. rw (lowest-found l) (elim (ℕ_discrete c r) [ yes q ↦ same c q | no d ↦ other c d k ]) }
    where
      same : (c : ℕ) → c ≡ r → bit_at new 0 c ≡ max (bit_at old 0 c) (as_count (names (some r) c))
      same c q = unfold names in (omega (arith, ap (bit_at new 0) q, J.here, at_most old 0 c, Laws.count-true (eq-eqb r c (sym q))))

      other : (c : ℕ) → (c ≡ r → ⊥) → c < 512 → bit_at new 0 c ≡ max (bit_at old 0 c) (as_count (names (some r) c))
      other c d k = unfold names in (omega (arith, J.other c d k, Laws.count-false (ne_eqb r c (λ z. d (sym z)))))

  pub reads_none : (old : List ℕ) → n ≤ r → ReadsPlace rec ks p e n old old
  reads_none old l = record { long = refl; bits = λ c k. rw (lowest-none l) (unfold names in (omega (arith, Laws.count-false {b = false} refl))) }

-- ---- place by place

-- the conditions that are read in the first d places of a set
pub record ReadTo (rec ks : List ℕ) (places e n d : ℕ) (reads : List ℕ) : Type 0 where
  pub long : length reads ≡ 8
  pub bits : (c : ℕ) → c < 512 → bit_at reads 0 c ≡ as_count (ltb (place_in rec c) d && reads_condition rec ks places e n c)

-- where the set does not have the condition's place, the condition is not read
unread : (rec ks : List ℕ) (places e n c : ℕ) → bit places (place_in rec c) ≡ 0 → reads_condition rec ks places e n c ≡ false
unfolding reads_condition
unread rec ks places e n c z = rw (ne_eqb (bit places (place_in rec c)) 1 (λ q. omega (arith, z)))

module _ {rec ks : List ℕ} {places e n : ℕ} where
  -- no place before the first
  pub read-start : {reads : List ℕ} → length reads ≡ 8 → ((c : ℕ) → c < 512 → bit_at reads 0 c ≡ 0) → ReadTo rec ks places e n 0 reads
  read-start l z = record { long = l; bits = λ c k. z c k ∙ sym (Laws.count-false (rw (le-ltb (place_in rec c) 0 (omega arith)))) }

  -- one place more
  pub read_next : {old new : List ℕ} (d p : ℕ) → d ≤ p → ((q : ℕ) → d ≤ q → q < p → bit places q ≡ 0) → bit places p ≡ 1
      → ReadsPlace rec ks p e n old new → ReadTo rec ks places e n d old → ReadTo rec ks places e n (p + 1) new
  read_next {old} {new} d p l z b R T = record { long = R.long ∙ T.long; bits = λ c k. R.bits c k ∙ ap (λ (x : ℕ). max x (as_count (names (lowest_at rec ks p e n) c))) (T.bits c k) ∙ elim (ℕ_discrete (place_in rec c) p) [ yes q ↦ of-place c q | no f ↦ of_other c f ] }
    where
      of-place : (c : ℕ) → place_in rec c ≡ p
          → max (as_count (ltb (place_in rec c) d && reads_condition rec ks places e n c)) (as_count (names (lowest_at rec ks p e n) c)) ≡ as_count (ltb (place_in rec c) (p + 1) && reads_condition rec ks places e n c)
      of-place c q = unfold reads_condition in (rw (q, le-ltb p d l, lt-ltb p (p + 1) (omega arith), eq-eqb (bit places p) 1 b) (omega (arith, Laws.count-false {b = false} refl)))

      other_name : (c : ℕ) → (place_in rec c ≡ p → ⊥) → names (lowest_at rec ks p e n) c ≡ false
      other_name c f = elim (Laws.true-or-false (names (lowest_at rec ks p e n) c)) [
        | inl t ↦ absurd (f (lowest-place rec ks p e n c (named-is (lowest_at rec ks p e n) c t)).1)
        | inr t ↦ t
      ]

      same_test : (c : ℕ) → (place_in rec c ≡ p → ⊥) → (ltb (place_in rec c) d && reads_condition rec ks places e n c) ≡ (ltb (place_in rec c) (p + 1) && reads_condition rec ks places e n c)
      same_test c f = elim (dec_lt (place_in rec c) d) [
        | yes u ↦ rw (lt-ltb (place_in rec c) d u, lt-ltb (place_in rec c) (p + 1) (omega arith))
        | no u ↦ elim (dec_lt (place_in rec c) p) [
          | yes v ↦ rw (unread rec ks places e n c (z (place_in rec c) (omega arith) v), and-false (ltb (place_in rec c) d), and-false (ltb (place_in rec c) (p + 1)))
          | no v ↦ rw (le-ltb (place_in rec c) d (omega arith), le-ltb (place_in rec c) (p + 1) (omega arith))
        ]
      ]

      of_other : (c : ℕ) → (place_in rec c ≡ p → ⊥)
          → max (as_count (ltb (place_in rec c) d && reads_condition rec ks places e n c)) (as_count (names (lowest_at rec ks p e n) c)) ≡ as_count (ltb (place_in rec c) (p + 1) && reads_condition rec ks places e n c)
      of_other c f = omega (arith, Laws.count-false (other_name c f), ap as_count (same_test c f))

  -- no place of the set is left
  pub read-end : {reads : List ℕ} (d : ℕ) → ((q : ℕ) → d ≤ q → bit places q ≡ 0) → ReadTo rec ks places e n d reads → ReadsOf rec ks places e n reads
  read-end d z T = record { long = T.long; bits = λ c k. T.bits c k ∙ ap as_count (elim (dec_lt (place_in rec c) d) [ yes u ↦ rw (lt-ltb (place_in rec c) d u) | no u ↦ rw (unread rec ks places e n c (z (place_in rec c) (omega arith)), and-false (ltb (place_in rec c) d)) ]) }
