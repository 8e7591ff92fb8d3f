-- The rows of the code are those of the definitions: both add up the arcs of the same transitions, which the code
-- reads in its arrays and the definitions in the net and the record.
use Prim.Native.Nat.{ℕ, ◌+◌, ◌-◌, ◌*◌, ◌≤◌, ◌<◌}
use mathlib.Core.Path.{◌≡◌, sym, ap, ap₂, ◌∙◌, subst}
use mathlib.Core.Bool.{Bool, true, false, cond}
use mathlib.Core.List.Memᴰ
use mathlib.Core.List.{List, ◌++◌, map}
use native.Mathlib.Decide.{dec_le}
use native.Mathlib.Omega.{arith}
use lib.Dec.{ltb, leb}
use lib.ListN.{length, get_or, take, drop, replicate, length-replicate, length-map, length-drop, take-append-drop}
use lib.Seq.{ext_get_or, get_or-take, get_or-drop, length-take-le}
use borrow.Author.Tests.{le-leb, lt-leb}
use Rattle.spec.specs.Lists.{In, sum_of, flat, up_to}
use Rattle.spec.specs.Net.{Net as NetD, takes, makes}
use Rattle.spec.specs.Step.{tokens_at, taken, made}
use Rattle.spec.specs.Record.{RunRecord, transition_of}
use Rattle.spec.specs.Replaying.{count_after, fired_by, row_at, replay_row, replayed_of}
use Rattle.lists.specs.Laws.{sum_of-same, map_same, flat_append, get_or-table, length-up_to}
use Rattle.lists.specs.Arrays.{blank}
use Rattle.net.specs.NetArrays.{outputs_at, Cells}
use Rattle.columns.specs.Columns.{column, column-at}
use Rattle.spec.specs.Buffer.{over}
use Rattle.marking_rows.specs.Rows.{row_counts, transitions_of, arc_at, row_in, Rows}
use Rattle.played_lines.specs.Lines.{Describes}
use Rattle.lists.specs.Rows.{rows_are, length-rows}

-- sums over transitions of the net, read in a column of the array of arcs
cells-sum : (arcs : List ℕ) (kind : ℕ) {f : ℕ → ℕ → ℕ} → Cells (column kind 1024 arcs) f → (ts : List ℕ) → ((t : ℕ) → In t ts → t < 32) → (p : ℕ) → p < 32 → sum_of (λ t. arc_at arcs kind t p) ts ≡ sum_of (λ t. f t p) ts
unfolding arc_at
cells-sum arcs kind c ts low p l = sum_of-same _ _ ts (λ t m.
    let z : kind + 32 * t + p ≡ kind + (32 * t + p) = omega arith in
    ap (λ (j : ℕ). get_or arcs j 0) z ∙ sym (column-at kind 1024 arcs (32 * t + p) (omega (arith, low t m))) ∙ c.cell t p (low t m) l)

-- the events of the first lines are events of the lines
first-in : {e : ℕ} (k : ℕ) (gs : List (List ℕ)) → In e (flat (take k gs)) → In e (flat gs)
first-in {e} k gs m = subst (λ (zs : List ℕ). In e zs) (sym (flat_append (take k gs) (drop k gs)) ∙ ap flat (take-append-drop k gs)) (Memᴰ.append_left (flat (drop k gs)) m)

row-length : (N : NetD) (R : RunRecord) (gs : List (List ℕ)) (k : ℕ) → length (replay_row N R gs k) ≡ 32
unfolding replay_row
row-length N R gs k = go (leb k (length gs))
  where
    go : (b : Bool) → length (cond b (map (row_at N (fired_by R gs k)) (up_to 32)) (replicate 32 0)) ≡ 32
    go true = length-map (up_to 32) (row_at N (fired_by R gs k)) ∙ length-up_to 32
    go false = length-replicate {A = ℕ} 32 0

module _ (N : NetD) (R : RunRecord) (gs : List (List ℕ)) (k p : ℕ) where
  row-at : k ≤ length gs → p < 32 → get_or (replay_row N R gs k) p 0 ≡ row_at N (map (transition_of R) (flat (take k gs))) p
  unfolding replay_row fired_by
  row-at h u = rw (le-leb k (length gs) h) (get_or-table _ 32 p 0 u)

  row-beyond : length gs < k → get_or (replay_row N R gs k) p 0 ≡ 0
  unfolding replay_row
  row-beyond h = rw (lt-leb k (length gs) h) (blank 32 p)

module _ {ps : ℕ} {ks arcs : List ℕ} {n : ℕ} {trans : List ℕ} {N : NetD} {R : RunRecord} (H : Describes ps ks arcs n trans N R) where
  module _ (es : List ℕ) (low : (e : ℕ) → In e es → e < n) where
    fired-held : transitions_of trans es ≡ map (transition_of R) es
    unfolding transitions_of
    fired-held = map_same _ _ es (λ e m. H.transition e (low e m))

    fired-known : (u : ℕ) → In u (transitions_of trans es) → u < 32
    unfolding transitions_of
    fired-known u m = let z = Memᴰ.of_map (λ e. get_or trans e 0) es m in rw (← z.2) (H.known z.0 (low z.0 z.1))

    row-held : (p : ℕ) → p < 32 → row_in ps ks arcs (transitions_of trans es) p ≡ row_at N (map (transition_of R) es) p
    unfolding row_in row_at count_after made taken
    row-held p l = ap₂ (λ (b : Bool) (x : ℕ). cond b x 0) (ap (ltb p) H.places)
        (ap₂ ◌-◌ (ap₂ ◌+◌ (H.tokens p) (cells-sum arcs outputs_at H.outputs (transitions_of trans es) fired-known p l)) (cells-sum arcs 0 H.inputs (transitions_of trans es) fired-known p l)
        ∙ ap (λ (ts : List ℕ). tokens_at N.tokens p + sum_of (λ u. makes N u p) ts - sum_of (λ u. takes N u p) ts) fired-held)

  pub rows-held : {gs : List (List ℕ)} {old new : List ℕ} → ((e : ℕ) → In e (flat gs) → e < n) → length gs ≤ 128 → row_counts ≤ length old → Rows ps ks arcs trans gs old new
      → new ≡ over (replayed_of N R gs).counts old
  unfolding replayed_of over
  rows-held {gs} {old} {new} low few h r = sym (take-append-drop row_counts new) ∙ ap₂ (λ (xs ys : List ℕ). xs ++ ys) rows behind
    where
      rows : take row_counts new ≡ flat (map (replay_row N R gs) (up_to 129))
      rows = rows_are 32 (replay_row N R gs) (row-length N R gs) 129 0 (take row_counts new) (omega arith) (length-take-le row_counts new (omega (arith, r.long))) (λ k p l u. get_or-take row_counts new (32 * k + p) 0 (omega arith) ∙ elim (dec_le k (length gs)) [
        | yes v ↦ r.row k p v u ∙ row-held (flat (take k gs)) (λ e m. low e (first-in k gs m)) p u ∙ sym (row-at N R gs k p v u)
        | no v ↦ r.zero (32 * k + p) (omega arith) (omega arith) ∙ sym (row-beyond N R gs k p (omega arith))
      ])

      size : length (flat (map (replay_row N R gs) (up_to 129))) ≡ row_counts
      size = length-rows 32 (replay_row N R gs) (row-length N R gs) 129

      behind : drop row_counts new ≡ drop (length (flat (map (replay_row N R gs) (up_to 129)))) old
      behind = rw size (ext_get_or 0 (drop row_counts new) (drop row_counts old) (omega (arith, length-drop row_counts new, length-drop row_counts old, r.long)) (λ i l. get_or-drop row_counts new i 0 ∙ r.beyond (row_counts + i) (omega arith) ∙ sym (get_or-drop row_counts old i 0)))
