-- Eight entries at a time, and the rows of the table: runs of entries one behind the other are one run (`run-then`),
-- and the entries of a row are the bits of its two sets, without the event itself.
use mathlib.Core.Path.{◌≡◌, refl, sym, ap, ap₂, ◌∙◌}
use mathlib.Core.List.{List}
use borrow.Rule.Slice.PartMut.{put_mid}
use Rattle.std.specs.Int.{to_le_bytes}
use Rattle.std.proofs.Common.{w64}
use Rattle.std.proofs.lemmas.List.{places}
use Prim.Native.Nat.{ℕ, zero, suc, ◌+◌, ◌-◌, ◌*◌, ◌/◌, ◌^◌, ◌≤◌, ◌<◌, min}
use mathlib.Core.Logic.{◌≢◌}
use native.Mathlib.Decide.{ℕ_discrete, dec_le}
use borrow.Author.Tests.{eq-eqb, ne_eqb, lt-ltb, le-ltb}
use Rattle.lists.specs.Mapped.{Mapped}
use Rattle.order.specs.Table.{cell_row, cell-column}
use Rattle.byte_slices.specs.Changes.{zeros}
use Rattle.bit_sets.specs.Sets.{has, has-low, has-high, has-most}
use Rattle.bit_sets.specs.declared.Set.{Set}
use Rattle.reach.specs.declared.Row.{Row}
use Rattle.reach.specs.Rows.{value_of, row_of, cell_of}
use native.Mathlib.Omega.{arith}
use lib.ListN.{length, get_or}
use lib.Bits.{bit_and}
use Rattle.bit_sets.specs.Bits.{bit, bit-most}
use Rattle.row_table.specs.Spread.{spread, octet, byte-0, byte-1, byte-2, byte-3, byte-4, byte-5, byte-6, byte-7}
use Rattle.row_table.specs.Table.{table_size, row_size, word_bits, Run, run-then, run-same, row_entry, entry_in, byte_in}

spread-most : (x : ℕ) → spread x ≤ 72340172838076673
unfolding spread
spread-most x = omega (arith, bit-most x 0, bit-most x 1, bit-most x 2, bit-most x 3, bit-most x 4, bit-most x 5, bit-most x 6, bit-most x 7)

pub sum_fits : (p s a b : ℕ) → a ≡ spread p → b ≡ spread s → a + b < 2 ^ 64
sum_fits p s a b h k = omega (arith, spread-most p, spread-most s)

-- a part put in place of as many entries
run-put : (old part : List ℕ) (at k : ℕ) (h : ℕ → ℕ) → length part ≡ k → at + k ≤ length old → ((i : ℕ) → i < k → get_or part i 0 ≡ h i) → Run old at k h (put_mid at k old part)
run-put old part at k h n l e = record {
  long = grind (arith, places);
  here = λ i m. let q : get_or (put_mid at k old part) (at + i) 0 ≡ get_or part i 0 = grind (arith, places) in q ∙ e i m;
  before = λ i m. grind (arith, places);
  behind = λ i m. grind (arith, places);
}

module _ (p s a b : ℕ) (hp : a ≡ spread p) (hs : b ≡ spread s) where
  h : ℕ → ℕ
  h i = bit p i + bit s i

  most : (i : ℕ) → h i ≤ 2
  unfolding h
  most i = omega (arith, bit-most p i, bit-most s i)

  sum : a + b ≡ h 0 + 256 * h 1 + 65536 * h 2 + 16777216 * h 3 + 4294967296 * h 4 + 1099511627776 * h 5 + 281474976710656 * h 6 + 72057594037927936 * h 7
  unfolding h spread
  sum = omega (arith, hp, hs)

  -- the bytes of the sum
  bytes : (i : ℕ) → i < 8 → get_or (to_le_bytes w64 (a + b)) i 0 ≡ h i
  bytes zero l = byte-0 (a + b) _ _ _ _ _ _ _ _ (most 0) (most 1) (most 2) (most 3) (most 4) (most 5) (most 6) (most 7) sum
  bytes (suc zero) l = byte-1 (a + b) _ _ _ _ _ _ _ _ (most 0) (most 1) (most 2) (most 3) (most 4) (most 5) (most 6) (most 7) sum
  bytes (suc (suc zero)) l = byte-2 (a + b) _ _ _ _ _ _ _ _ (most 0) (most 1) (most 2) (most 3) (most 4) (most 5) (most 6) (most 7) sum
  bytes (suc (suc (suc zero))) l = byte-3 (a + b) _ _ _ _ _ _ _ _ (most 0) (most 1) (most 2) (most 3) (most 4) (most 5) (most 6) (most 7) sum
  bytes (suc (suc (suc (suc zero)))) l = byte-4 (a + b) _ _ _ _ _ _ _ _ (most 0) (most 1) (most 2) (most 3) (most 4) (most 5) (most 6) (most 7) sum
  bytes (suc (suc (suc (suc (suc zero))))) l = byte-5 (a + b) _ _ _ _ _ _ _ _ (most 0) (most 1) (most 2) (most 3) (most 4) (most 5) (most 6) (most 7) sum
  bytes (suc (suc (suc (suc (suc (suc zero)))))) l = byte-6 (a + b) _ _ _ _ _ _ _ _ (most 0) (most 1) (most 2) (most 3) (most 4) (most 5) (most 6) (most 7) sum
  bytes (suc (suc (suc (suc (suc (suc (suc zero))))))) l = byte-7 (a + b) _ _ _ _ _ _ _ _ (most 0) (most 1) (most 2) (most 3) (most 4) (most 5) (most 6) (most 7) sum
  bytes (suc (suc (suc (suc (suc (suc (suc (suc i)))))))) l = absurd (omega arith)

  pub eight : (old part : List ℕ) (at k : ℕ) → k ≡ 8 → part ≡ to_le_bytes w64 (a + b) → at + 8 ≤ length old → Run old at 8 (λ i. bit p i + bit s i) (put_mid at k old part)
  unfolding h
  eight old part at k q e l = rw (q, e) (run-put old (to_le_bytes w64 (a + b)) at 8 (λ i. bit p i + bit s i) refl l bytes)

-- eight more of a word
pub octets : (old mid new : List ℕ) (at p s j : ℕ) → Run old at (8 * j) (λ i. bit p i + bit s i) mid
    → Run mid (at + 8 * j) 8 (λ i. bit (bit_and (p / 2 ^ (8 * j)) 255) i + bit (bit_and (s / 2 ^ (8 * j)) 255) i) new → Run old at (8 * (j + 1)) (λ i. bit p i + bit s i) new
octets old mid new at p s j m r = run-same (omega arith) (λ i l. refl)
    (run-then (at + 8 * j) refl (λ i l. ap₂ (λ (x y : ℕ). x + y) (octet p (8 * j) i l) (octet s (8 * j) i l)) m r)

-- ---- a row

-- a set without e
word_row : (w : List ℕ) (e : ℕ) (r : Row) (o p s : Set) → r ≡ row_of w e → (has o e ≡ 1) × ((g : ℕ) → g ≢ e → has o g ≡ 0)
    → ((f : ℕ) → has p f ≡ min (has r.path f) (1 - has o f)) → ((f : ℕ) → has s f ≡ min (has r.strict f) (1 - has o f)) → (f : ℕ) → has p f + has s f ≡ row_entry w e f
unfolding row_entry cell_of value_of
word_row w e r o p s q h hp hs f = elim (ℕ_discrete e f) [
  | yes z ↦ rw (eq-eqb e f z) (let y : has o f ≡ 1 = ap (has o) (sym z) ∙ h.0 in omega (arith, hp f, hs f))
  | no d ↦ rw (ne_eqb e f d) (let y : has o f ≡ 0 = h.1 f (λ z. d (sym z)) in
      ap₂ (λ (x y : ℕ). x + y) (omega (arith, hp f, has-most r.path f)) (omega (arith, hs f, has-most r.strict f)) ∙ ap (λ (z : Row). has z.path f + has z.strict f) q)
]

pub row_is : (old mid new : List ℕ) (w : List ℕ) (e : ℕ) (r : Row) (o p s : Set) → r ≡ row_of w e → (has o e ≡ 1) × ((g : ℕ) → g ≢ e → has o g ≡ 0)
    → ((f : ℕ) → has p f ≡ min (has r.path f) (1 - has o f)) → ((f : ℕ) → has s f ≡ min (has r.strict f) (1 - has o f))
    → Run old (row_size * e) word_bits (λ i. bit p.lo i + bit s.lo i) mid → Run mid (row_size * e + word_bits) word_bits (λ i. bit p.hi i + bit s.hi i) new → Run old (row_size * e) row_size (row_entry w e) new
row_is old mid new w e r o p s q h hp hs a b =
    run-then (row_size * e + word_bits) refl
    (λ i l. ap₂ (λ (x y : ℕ). x + y) (high p i) (high s i) ∙ word_row w e r o p s q h hp hs (64 + i))
    (run-same refl (λ i l. ap₂ (λ (x y : ℕ). x + y) (sym (has-low p i l)) (sym (has-low s i l)) ∙ word_row w e r o p s q h hp hs i) a) b
  where
    high : (p : Set) (i : ℕ) → bit p.hi i ≡ has p (64 + i)
    high p i = ap (bit p.hi) (omega arith) ∙ sym (has-high p (64 + i) (omega arith))

-- ---- the table

pub record Written (old : List ℕ) (w : List ℕ) (n e : ℕ) (new : List ℕ) : Type 0 where
  pub long : length new ≡ length old
  pub here : (i : ℕ) → i < row_size * e → get_or new i 0 ≡ byte_in (cell_of w) n i
  pub zero : (i : ℕ) → row_size * e ≤ i → i < table_size → get_or new i 0 ≡ 0
  pub beyond : (i : ℕ) → table_size ≤ i → get_or new i 0 ≡ get_or old i 0

pub written_none : (old new w : List ℕ) (n : ℕ) → Mapped old table_size zeros new → Written new w n 0 new
unfolding zeros
written_none old new w n m = record { long = refl; here = λ i l. absurd (omega arith); zero = λ i l k. m.here i k; beyond = λ i l. refl }

module _ (w : List ℕ) (n : ℕ) (n≤ : n ≤ 128) (h : (e f : ℕ) → e < n → n ≤ f → cell_of w e f ≡ 0) where
  entry : (e f : ℕ) → e < n → row_entry w e f ≡ entry_in (cell_of w) n e f
  unfolding row_entry entry_in
  entry e f l = elim (ℕ_discrete e f) [
    | yes z ↦ rw (eq-eqb e f z, lt-ltb e n l, lt-ltb f n (omega arith)) refl
    | no d ↦ elim (dec_le n f) [
      | yes k ↦ rw (ne_eqb e f d, lt-ltb e n l, le-ltb f n k) (h e f l k)
      | no k ↦ rw (ne_eqb e f d, lt-ltb e n l, lt-ltb f n (omega arith)) refl
    ]
  ]

  pub written-more : (old mid new : List ℕ) (e : ℕ) → e < n → Written old w n e mid → Run mid (row_size * e) row_size (row_entry w e) new → Written old w n (e + 1) new
  unfolding byte_in
  written-more old mid new e l m r = record {
    long = r.long ∙ m.long;
    here = λ i k. elim (dec_le (row_size * e) i) [
      | yes z ↦ let j : ℕ = i - row_size * e in
          let y : i ≡ row_size * e + j = omega arith in
          let b : j < 128 = omega arith in
          rw y (r.here j b ∙ entry e j l ∙ sym (ap₂ (entry_in (cell_of w) n) (cell_row row_size e j b) (cell-column row_size e j b)))
      | no z ↦ r.before i (omega arith) ∙ m.here i (omega arith)
    ];
    zero = λ i k b. r.behind i (omega arith) ∙ m.zero i (omega arith) b;
    beyond = λ i k. r.behind i (omega arith) ∙ m.beyond i k;
  }

  pub written-end : (old mid new : List ℕ) (e : ℕ) → e ≡ n → Mapped old table_size zeros mid → Written mid w n e new → Mapped old table_size (byte_in (cell_of w) n) new
  unfolding byte_in entry_in
  written-end old mid new e q c m = record {
    long = m.long ∙ c.long;
    here = λ i l. elim (dec_le (row_size * e) i) [
      | yes z ↦ let y : n ≤ i / 128 = omega arith in rw (le-ltb (i / 128) n y) (m.zero i z l)
      | no z ↦ m.here i (omega arith)
    ];
    beyond = λ i l. m.beyond i l ∙ c.beyond i l;
  }
