-- The bytes that the check writes, and the independent pairs that it counts, are those of the record.
use mathlib.Core.Path.{◌≡◌, refl, sym, ap, ap₂, ◌∙◌}
use Prim.Native.Nat.{ℕ, zero, suc, ◌+◌, ◌-◌, ◌*◌, ◌/◌, ◌%◌, ◌≤◌, ◌<◌}
use native.Mathlib.Nat.{mul-suc, mul-zero, div-add-mod}
use native.Mathlib.Decide.{dec_le}
use native.Mathlib.Omega.{arith}
use mathlib.Core.Logic.{◌≢◌}
use mathlib.Core.Bool.{Bool, true, false, not, ◌&&◌, cond}
use mathlib.Core.List.{List, ◌++◌, map}
use lib.ListN.{length, get_or, drop, length-append, length-drop, get_or-append}
use lib.Seq.{ext_get_or, get_or-append-add, get_or-drop}
use lib.Dec.{eqb, ltb, leb}
use borrow.Author.Tests.{ltb-true}
use Rattle.spec.specs.Lists.{count, up_to, from, flat, sum}
use Rattle.spec.specs.Net.{Net as NetD}
use Rattle.spec.specs.Record.{RunRecord}
use Rattle.spec.specs.Process.{Process, WellFormed}
use Rattle.spec.specs.Checking.{related, table_at, table_bytes, ordered, independent, independent_pairs as pairs_d}
use Rattle.spec.specs.Buffer.{over}
use Rattle.lists.specs.Laws.{length-map, length-up_to, up_to-snoc, in-up_to, flat-map-snoc, get_or-table, get_or-table-rows, map_same, count_same}
use Rattle.lists.specs.Mapped.{Mapped}
use Rattle.reach.specs.Rows.{cell_of}
use Rattle.order.specs.Diamond.{entry}
use Rattle.runs.specs.Closure.{ordered-test, related-is}
use Rattle.row_independence.specs.Pairs.{ordered_in, independent_in, independents_below, independent_pairs}
use Rattle.accepting.specs.Relation.{HoldsOrder}
use Rattle.row_table.specs.Table.{entry_in, byte_in}

-- ---- rows of one width, and a list at the start of a buffer

rows-length : {A : Type 0} (w : ℕ) (f : ℕ → List A) → ((k : ℕ) → length (f k) ≡ w) → (n : ℕ) → length (flat (map f (up_to n))) ≡ w * n
unfolding flat up_to from
rows-length w f h zero = sym (mul-zero w)
rows-length w f h (suc n) =
    ap (λ (zs : List ℕ). length (flat (map f zs))) (up_to-snoc n) ∙ ap length (flat-map-snoc f (up_to n) n)
    ∙ length-append (flat (map f (up_to n))) (f n) ∙ omega (arith, rows-length w f h n, h n, mul-suc w n)

mapped-over : (xs old new : List ℕ) (n : ℕ) → length xs ≡ n → n ≤ length old → ((i : ℕ) → i < n → get_or new i 0 ≡ get_or xs i 0) → ((i : ℕ) → n ≤ i → get_or new i 0 ≡ get_or old i 0) → length new ≡ length old → new ≡ over xs old
unfolding over
mapped-over xs old new n e l here beyond long = ext_get_or 0 new (xs ++ drop (length xs) old) (long ∙ omega (arith, length-append xs (drop (length xs) old), length-drop (length xs) old)) (λ j u. elim (dec_le (suc j) n) [
  | yes h ↦ here j h ∙ sym (get_or-append xs (drop (length xs) old) 0 j (omega arith))
  | no h ↦ beyond j (omega arith) ∙ sym (behind j (omega arith))
])
  where
    behind : (j : ℕ) → length xs ≤ j → get_or (xs ++ drop (length xs) old) j 0 ≡ get_or old j 0
    behind j h =
        let r : length xs + (j - length xs) ≡ j = omega arith in
        ap (λ (k : ℕ). get_or (xs ++ drop (length xs) old) k 0) (sym r) ∙ get_or-append-add xs (drop (length xs) old) (j - length xs) 0
        ∙ get_or-drop (length xs) old (j - length xs) 0 ∙ ap (λ (k : ℕ). get_or old k 0) r

-- ---- the bytes

table-row : (R : RunRecord) (e : ℕ) → length (map (table_at R e) (up_to 128)) ≡ 128
table-row R e = length-map (table_at R e) (up_to 128) ∙ length-up_to 128

table-length : (R : RunRecord) → length (table_bytes R) ≡ 16384
unfolding table_bytes
table-length R = rows-length 128 (λ e. map (table_at R e) (up_to 128)) (table-row R) 128

table-byte : (R : RunRecord) (i : ℕ) → i < 16384 → get_or (table_bytes R) i 0 ≡ table_at R (i / 128) (i % 128)
unfolding table_bytes
table-byte R i l =
    ap (λ (j : ℕ). get_or (table_bytes R) j 0) (sym (div-add-mod i 128))
    ∙ get_or-table-rows 128 128 (λ e. map (table_at R e) (up_to 128)) (table-row R) (i / 128) (i % 128) 0 (omega arith) (omega arith)
    ∙ get_or-table (table_at R (i / 128)) 128 (i % 128) 0 (omega arith)

module _ (N : NetD) (R : RunRecord) (t : List ℕ) (n : ℕ) (W : WellFormed N R) (o : HoldsOrder R t) (hn : n ≡ length R.events) where
  -- where both are events, the table's entry
  entry-is : Process N R → (e f : ℕ) → entry_in (cell_of t) n e f ≡ table_at R e f
  unfolding entry_in table_at entry
  entry-is P e f = rw hn (go (ltb e (length R.events)) (ltb f (length R.events)) refl refl)
    where
      at : (q : Bool) → eqb e f ≡ q → e < length R.events → f < length R.events → cond (not q) (cell_of t e f) 0 ≡ related R e f
      at true h l m = sym (related-is N R W P e f l m ∙ rw h refl)
      at false h l m = o.cell e f l m ∙ sym (related-is N R W P e f l m ∙ rw h refl)

      go : (a b : Bool) → ltb e (length R.events) ≡ a → ltb f (length R.events) ≡ b → cond (a && b && not (eqb e f)) (cell_of t e f) 0 ≡ cond (a && b) (related R e f) 0
      go true true p q = at (eqb e f) refl (ltb-true _ _ p) (ltb-true _ _ q)
      go true false p q = refl
      go false b p q = refl

  pub table-written : Process N R → (old new : List ℕ) → 16384 ≤ length old → Mapped old 16384 (byte_in (cell_of t) n) new → new ≡ over (table_bytes R) old
  unfolding byte_in
  table-written P old new l m = mapped-over (table_bytes R) old new 16384 (table-length R) l (λ i k. m.here i k ∙ entry-is P (i / 128) (i % 128) ∙ sym (table-byte R i k)) m.beyond m.long

  -- ---- independent pairs

  ordered-is : (e f : ℕ) → e < n → f < n → e ≢ f → ordered_in (cell_of t) e f ≡ ordered R e f
  unfolding ordered_in
  ordered-is e f l m d = ap (leb 1) (o.cell e f (omega arith) (omega arith)) ∙ sym (ordered-test N R W e f (omega arith) (omega arith) d)

  independent-is : (e f : ℕ) → e < n → f < e → independent_in (cell_of t) e f ≡ independent R e f
  unfolding independent_in independent
  independent-is e f l m = ap₂ (λ (x y : Bool). not (eqb e f) && not x && not y)
      (ordered-is e f l (omega arith) (λ q. omega arith)) (ordered-is f e (omega arith) l (λ q. omega arith))

  pub pairs-counted : independent_pairs n (cell_of t) ≡ pairs_d R
  unfolding independent_pairs independents_below pairs_d
  pairs-counted =
      ap sum (map_same _ _ (up_to n) (λ e m. count_same _ _ (up_to e) (λ f k. independent-is e f (in-up_to n m) (in-up_to e k))))
      ∙ ap (λ (k : ℕ). sum (map (λ e. count (independent R e) (up_to e)) (up_to k))) hn
