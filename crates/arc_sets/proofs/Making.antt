-- A row's set made place after place, its weights put, and the rows made one after the other.
use Prim.Native.Nat.{ℕ, ◌+◌, ◌-◌, ◌*◌, ◌/◌, ◌%◌, ◌^◌, ◌≤◌, ◌<◌, max}
use mathlib.Core.Path.{◌≡◌, refl, ap, ◌∙◌}
use mathlib.Core.List.{List}
use native.Mathlib.Decide.{ℕ_discrete, dec_lt}
use native.Mathlib.Omega.{arith}
use lib.Bits.{bit_or}
use lib.Count.{ones, count_trailing_zeros}
use lib.ListN.{length, get_or, set, replicate, length-set, length-replicate}
use lib.Seq.{get_or-set_same, get_or-set_other}
use borrow.Author.Tests.{lt-ltb, le-ltb}
use Rattle.spec.specs.Lists.{as_count, sum_of, up_to}
use Rattle.order.specs.Below.{sum_below}
use Rattle.lists.specs.Arrays.{blank}
use Rattle.bit_sets.specs.Bits.{bit, bit-most, bit-or, bit-zero, bit-pow, bit-pow-other}
use Rattle.bit_sets.specs.Sums.{sum-pad, sum-most, ones-bits}
use Rattle.arc_sets.specs.Sets.{digit_at, more_at, RowSet, RowOf, BlankRow, Puttable, RowPut, SetsOf}
use Rattle.arc_sets.specs.Walk.{word-one, Left, without, Lowest, at-lowest}
use Rattle.arc_sets.proofs.Digits.{digit-zero, word_at, with_more, more-set, more-here, more-other, more-sets}

-- ---- a row

module _ {arcs : List ℕ} {row : ℕ} where
  pub row-none : RowSet arcs row 0 0
  row-none = record { here = λ p h. absurd (omega arith); beyond = λ p h. bit-zero p }

  module _ {p r : ℕ} (R : RowSet arcs row p r) where
    -- the next place has an arc
    row_more : p < 64 → 0 < get_or arcs (row + p) 0 → RowSet arcs row (p + 1) (bit_or r ((1 * 2 ^ p) % 2 ^ 64))
    unfolding as_count
    row_more l h = record {
      here = λ q k. elim (ℕ_discrete q p) [
        | yes e ↦ rw (e, lt-ltb 0 (get_or arcs (row + p) 0) h) (omega (arith, joined p, R.beyond p (omega arith), bit-pow p))
        | no d ↦ omega (arith, joined q, R.here q (omega arith), bit-pow-other p q d)
      ];
      beyond = λ q k. omega (arith, joined q, R.beyond q (omega arith), bit-pow-other p q (λ e. omega arith));
    }
      where
        joined : (q : ℕ) → bit (bit_or r ((1 * 2 ^ p) % 2 ^ 64)) q ≡ max (bit r q) (bit (2 ^ p) q)
        joined q = ap (λ (z : ℕ). bit (bit_or r z) q) (word-one p l) ∙ bit-or r (2 ^ p) q

    -- or none
    row-less : get_or arcs (row + p) 0 ≤ 0 → RowSet arcs row (p + 1) r
    unfolding as_count
    row-less h = record {
      here = λ q k. elim (ℕ_discrete q p) [
        | yes e ↦ rw (e, le-ltb 0 (get_or arcs (row + p) 0) h) (R.beyond p (omega arith))
        | no d ↦ R.here q (omega arith)
      ];
      beyond = λ q k. R.beyond q (omega arith);
    }

    -- either way
    pub row_next : {s : ℕ} → p < 64 → (0 < get_or arcs (row + p) 0 → s ≡ bit_or r ((1 * 2 ^ p) % 2 ^ 64)) × (get_or arcs (row + p) 0 ≤ 0 → s ≡ r) → RowSet arcs row (p + 1) s
    row_next l e = elim (dec_lt 0 (get_or arcs (row + p) 0)) [
      | yes h ↦ rw (e.0 h) (row_more l h)
      | no h ↦ rw (e.1 (omega arith)) (row-less (omega arith))
    ]

-- ---- the weights of a row

-- at the places of a set below d stand the weights of the row, and what stood there from d on still does, as all else
pub record WeightsTo (arcs : List ℕ) (row word d : ℕ) (old new : List ℕ) : Type 0 where
  pub long : length new ≡ length old
  pub sets : (i : ℕ) → i < 128 → get_or new i 0 ≡ get_or old i 0
  pub done : (p : ℕ) → p < d → p < 32 → bit word p ≡ 1 → more_at new row p ≡ (get_or arcs (32 * row + p) 0 - 1) % 16
  pub ahead : (p : ℕ) → d ≤ p → p < 32 → more_at new row p ≡ more_at old row p
  pub others : (i p : ℕ) → p < 32 → (i ≡ row → ⊥) → more_at new i p ≡ more_at old i p

pub weights-none : {arcs : List ℕ} {row word : ℕ} (xs : List ℕ) → WeightsTo arcs row word 0 xs xs
weights-none xs = record { long = refl; sets = λ i h. refl; done = λ p h. absurd (omega arith); ahead = λ p h l. refl; others = λ i p l n. refl }

-- a place of a row's set has an arc
row-cell : {arcs : List ℕ} {row m word : ℕ} → m ≤ 32 → RowSet arcs row m word → (p : ℕ) → bit word p ≡ 1 → (p < 32) × (0 < get_or arcs (row + p) 0)
unfolding as_count
row-cell {arcs} {row} {m} {word} l R p b = elim (dec_lt p m) [
  | yes h ↦ (omega arith, elim (dec_lt 0 (get_or arcs (row + p) 0)) [ yes k ↦ k | no k ↦ absurd (omega (arith, R.here p h, ap as_count (le-ltb 0 (get_or arcs (row + p) 0) (omega arith)))) ])
  | no h ↦ absurd (omega (arith, R.beyond p (omega arith)))
]

module _ {arcs entry : List ℕ} {m row word : ℕ} (P : Puttable m row entry) (R : RowSet arcs (32 * row) m word) where
  -- the next place of the set
  weights-next : {new : List ℕ} {bits d p v : ℕ} → Lowest word bits d p → p < 32 → v ≡ (get_or arcs (32 * row + p) 0 - 1) % 16
      → WeightsTo arcs row word d (set entry row word) new → WeightsTo arcs row word (p + 1) (set entry row word) (with_more new row p v)
  weights-next {new} {bits} {d} {p} {v} L low e W = record {
    long = length-set new (word_at row p) _ ∙ W.long;
    sets = λ i k. more-sets new row p v low small long i k ∙ W.sets i k;
    done = λ q k l b. elim (ℕ_discrete q p) [
      | yes s ↦ rw s (more-here new row p v low small long (W.ahead p L.within low ∙ more-set entry row word row p P.low ∙ P.blank.weights p low) ∙ e)
      | no s ↦ other q l s ∙ W.done q (elim (dec_lt q d) [ yes a ↦ a | no a ↦ absurd (omega (arith, L.passed q (omega arith) (omega arith), b)) ]) l b
    ];
    ahead = λ q k l. other q l (λ s. omega arith) ∙ W.ahead q (omega (arith, L.within)) l;
    others = λ i q l n. more-other new row p v low small long i q l (λ r s. n r) ∙ W.others i q l n;
  }
    where
      small : v < 16
      small = omega arith

      long : word_at row p < length new
      long = omega (arith, W.long, length-set entry row word, P.long, P.low)

      other : (q : ℕ) → q < 32 → (q ≡ p → ⊥) → more_at (with_more new row p v) row q ≡ more_at new row q
      other q l n = more-other new row p v low small long row q l (λ r s. n s)

  -- the next place, whose arc weighs 1
  weights-same : {new : List ℕ} {bits d p : ℕ} → Lowest word bits d p → p < 32 → 0 ≡ (get_or arcs (32 * row + p) 0 - 1) % 16
      → WeightsTo arcs row word d (set entry row word) new → WeightsTo arcs row word (p + 1) (set entry row word) new
  weights-same {new} {bits} {d} {p} L low e W = record {
    long = W.long;
    sets = W.sets;
    done = λ q k l b. elim (ℕ_discrete q p) [
      | yes s ↦ rw s (W.ahead p L.within low ∙ more-set entry row word row p P.low ∙ P.blank.weights p low ∙ e)
      | no s ↦ W.done q (elim (dec_lt q d) [ yes a ↦ a | no a ↦ absurd (omega (arith, L.passed q (omega arith) (omega arith), b)) ]) l b
    ];
    ahead = λ q k l. W.ahead q (omega (arith, L.within)) l;
    others = W.others;
  }

  -- what one turn of the loop needs and does
  pub record Weighing (bits p : ℕ) (new : List ℕ) : Type 0 where
    pub low : p < 32
    pub some : 0 < get_or arcs (32 * row + p) 0
    pub less : without bits p < bits
    pub next : {v : ℕ} → v ≡ (get_or arcs (32 * row + p) 0 - 1) % 16 → (d : ℕ) × Left word (without bits p) d × WeightsTo arcs row word d (set entry row word) (with_more new row p v)
    pub same : 0 ≡ (get_or arcs (32 * row + p) 0 - 1) % 16 → (d : ℕ) × Left word (without bits p) d × WeightsTo arcs row word d (set entry row word) new

  pub weighing : {bits d p : ℕ} {new : List ℕ} → Left word bits d → WeightsTo arcs row word d (set entry row word) new → p ≡ count_trailing_zeros 64 bits → (bits ≡ 0 → ⊥) → Weighing bits p new
  weighing {bits} {d} {p} L W t z = record { low = c.0; some = c.1; less = w.less; next = λ e. (p + 1, w.next, weights-next w c.0 e W); same = λ e. (p + 1, w.next, weights-same w c.0 e W) }
    where
      w : Lowest word bits d p
      w = at-lowest L t z

      c : (p < 32) × (0 < get_or arcs (32 * row + p) 0)
      c = row-cell P.few R p w.set

  -- all are put, and so is the row
  pub row_put : {d : ℕ} {new : List ℕ} → ((j : ℕ) → d ≤ j → bit word j ≡ 0) → WeightsTo arcs row word d (set entry row word) new → RowPut arcs m row entry new
  unfolding as_count
  row_put {d} {new} z W = record {
    long = W.long ∙ length-set entry row word;
    here = record {
      set = rw here R;
      weights = λ p k s. W.done p (elim (dec_lt p d) [ yes a ↦ a | no a ↦ absurd (omega (arith, z p (omega arith), there p k s)) ]) (omega (arith, P.few)) (there p k s);
    };
    others = λ i k n. record { set = W.sets i k ∙ get_or-set_other entry row i word 0 n; weights = λ p s. W.others i p s n ∙ more-set entry row word i p P.low };
  }
    where
      here : get_or new row 0 ≡ word
      here = W.sets row P.low ∙ get_or-set_same entry row word 0 (omega (arith, P.long, P.low))

      there : (p : ℕ) → p < m → 0 < get_or arcs (32 * row + p) 0 → bit word p ≡ 1
      there p k s = R.here p k ∙ ap as_count (lt-ltb 0 (get_or arcs (32 * row + p) 0) s)

-- ---- all rows, by transition and then by kind

-- the first c rows stand there, and no other
pub record RowsTo (arcs : List ℕ) (m c : ℕ) (sets : List ℕ) : Type 0 where
  pub long : length sets ≡ 384
  pub rows : (i : ℕ) → i < 128 → 4 * (i % 32) + i / 32 < c → RowOf arcs m i sets
  pub blank : (i : ℕ) → i < 128 → c ≤ 4 * (i % 32) + i / 32 → BlankRow i sets

module _ {arcs : List ℕ} {m : ℕ} where
  pub rows_none : RowsTo arcs m 0 (replicate 384 0)
  unfolding more_at
  rows_none = record {
    long = length-replicate {A = ℕ} 384 0;
    rows = λ i h k. absurd (omega arith);
    blank = λ i h k. record { set = blank 384 i; weights = λ p l. ap (λ (w : ℕ). digit_at w (p % 16)) (blank 384 (word_at i p)) ∙ digit-zero (p % 16) };
  }

  -- the next row can be put, and is
  pub rows-room : {row c : ℕ} {sets : List ℕ} → m ≤ 32 → row < 128 → c ≡ 4 * (row % 32) + row / 32 → RowsTo arcs m c sets → Puttable m row sets
  rows-room {row} few l e R = record { few = few; low = l; long = R.long; blank = R.blank row l (omega arith) }

  pub rows_next : {row c d : ℕ} {old new : List ℕ} → m ≤ 32 → row < 128 → c ≡ 4 * (row % 32) + row / 32 → d ≡ c + 1 → RowsTo arcs m c old → RowPut arcs m row old new → RowsTo arcs m d new
  rows_next {row} {c} few l e q R P = record {
    long = P.long ∙ R.long;
    rows = λ i h k. elim (ℕ_discrete i row) [
      | yes s ↦ rw s P.here
      | no n ↦ let S = P.others i h n in let O = R.rows i h (omega arith) in record { set = rw S.set O.set; weights = λ p s w. S.weights p (omega arith) ∙ O.weights p s w }
    ];
    blank = λ i h k. let S = P.others i h (λ s. omega arith) in let O = R.blank i h (omega arith) in record { set = S.set ∙ O.set; weights = λ p s. S.weights p s ∙ O.weights p s };
  }

  -- the rows of the first n transitions
  pub sets_of : {c n : ℕ} {sets : List ℕ} → c ≡ 4 * n → RowsTo arcs m c sets → SetsOf arcs m n sets
  sets_of {n = n} e R = record {
    long = R.long;
    rows = λ i h k. R.rows i h (omega arith);
    within = λ i p h k. elim (dec_lt (i % 32) n) [
      | yes s ↦ (R.rows i h (omega arith)).set.beyond p k
      | no s ↦ ap (λ (w : ℕ). bit w p) (R.blank i h (omega arith)).set ∙ bit-zero p
    ];
  }

-- ---- a set's size

pub size_is : (set r : ℕ) → set < 2 ^ 64 → r ≡ ones set → (r ≡ sum_of (bit set) (up_to 64)) × (r ≤ 64)
unfolding sum_below
size_is set r h e = let q : ones set ≡ sum_below 64 (bit set) = ones-bits 64 set h in (e ∙ q, omega (arith, sum-most 64 0 (bit set) (λ i. omega (arith, bit-most set i))))

-- what a function says of the places below m is all that it says
pub sum-places : (m : ℕ) (h : ℕ → ℕ) → m ≤ 64 → ((p : ℕ) → m ≤ p → h p ≡ 0) → sum_of h (up_to 64) ≡ sum_of h (up_to m)
unfolding sum_below
sum-places m h l z = ap (λ (k : ℕ). sum_of h (up_to k)) (omega arith) ∙ sum-pad m (64 - m) h z
