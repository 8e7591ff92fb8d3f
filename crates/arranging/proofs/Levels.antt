-- The levels of a record's events in rows and in an array, and the room that its arrangement takes.
use Prim.Native.Nat.{ℕ, ◌-◌, ◌≤◌}
use mathlib.Core.Path.{◌≡◌, sym, ◌∙◌}
use mathlib.Core.List.{List}
use native.Mathlib.Omega.{arith}
use lib.ListN.{length, take}
use lib.Seq.{length-take-le, get_or-take}
use Rattle.spec.specs.Net.{Net}
use Rattle.spec.specs.Record.{RunRecord}
use Rattle.spec.specs.Process.{Process, WellFormed}
use Rattle.spec.specs.Arranging.{longest, levels, line_count, arranged_lines, arrangement_bytes}
use Rattle.lists.specs.Mapped.{Mapped}
use Rattle.lists.specs.Tables.{length-table, table_is}
use Rattle.order.specs.Level.{lev}
use Rattle.order.proofs.Level.{lev-same}
use Rattle.order.specs.Order.{Order}
use Rattle.order.proofs.Order.{order_same}
use Rattle.reach.specs.Rows.{cell_of}
use Rattle.runs.specs.Values.{order_of, order}
use Rattle.runs.specs.Levels.{level-at, arranged-keeps}
use Rattle.runs.specs.Sizes.{arrangement-size}
use Rattle.writing.specs.Written.{Wrote}
use Rattle.writing.proofs.Laws.{put-over}
use Rattle.accepting.specs.Relation.{HoldsOrder}
use Rattle.arranging.specs.Answers.{levels_in, WritesLines}

-- ---- rows that have the closed order of a record

levels-length : (R : RunRecord) → length (levels R) ≡ length R.events
unfolding levels
levels-length R = length-table (longest R (length R.events)) (length R.events)

module _ (N : Net) (R : RunRecord) (W : WellFormed N R) (P : Process N R) where
  -- "buffer under 768 bytes": 768 are enough
  lines_fit : length R.events ≤ 128 → length (arrangement_bytes (arranged_lines (levels R))) ≤ 768
  lines_fit h = arrangement-size (length R.events) (arranged_lines (levels R)) (arranged-keeps N R W P).each-once h

  module _ (n : ℕ) (t : List ℕ) (q : n ≡ length R.events) (o : HoldsOrder R t) where
    -- they are a closed order,
    pub order-held : Order n (cell_of t)
    order-held = rw q (order_same (length R.events) (cell_of t) (order_of R) o.cell (order N R W P))

    -- their levels are those of the record's events,
    pub levels-held : levels_in n t ≡ levels R
    unfolding levels_in
    levels-held = rw q (table_is 0 (lev (length R.events) (cell_of t)) (length R.events) (levels R) (levels-length R) (λ e m.
        lev-same (length R.events) (cell_of t) (order_of R) o.cell e m ∙ sym (level-at N R W P e m)))

    -- and their lines fit the buffer
    pub lines-held : n ≤ 128 → length (arrangement_bytes (arranged_lines (levels_in n t))) ≤ 768
    lines-held h = rw levels-held (lines_fit (omega arith))

-- ---- an array whose first n entries are the levels, and its lines written

module _ (n : ℕ) (t : List ℕ) {blank a : List ℕ} (l : n ≤ length blank) (m : Mapped blank n (lev n (cell_of t)) a) where
  pub levels-stand : take (n - 0) a ≡ levels_in n t
  unfolding levels_in
  levels-stand =
      let e : n - 0 ≡ n = omega arith in
      rw e (sym (table_is 0 (lev n (cell_of t)) n (take n a) (length-take-le n a (omega (arith, m.long))) (λ e h. sym (get_or-take n a e 0 h ∙ m.here e h))))

  pub lines-room : {k : ℕ} → length (arrangement_bytes (arranged_lines (levels_in n t))) ≤ k → length (arrangement_bytes (arranged_lines (take (n - 0) a))) ≤ k
  lines-room room = rw levels-stand room

  pub lines-written : {old new : List ℕ} {bytes lines : ℕ} → length (arrangement_bytes (arranged_lines (levels_in n t))) ≤ length old
      → lines ≡ line_count (take (n - 0) a) → Wrote old 0 (arrangement_bytes (arranged_lines (take (n - 0) a))) bytes new → WritesLines (levels_in n t) old (record { bytes = bytes; lines = lines }) new
  lines-written {old} room c w = rw (← levels-stand) (record {
    bytes = omega (arith, w.next);
    lines = c;
    buffer = w.bytes ∙ put-over old (arrangement_bytes (arranged_lines (take (n - 0) a))) (lines-room room);
  })
