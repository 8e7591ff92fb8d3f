-- The words of a net's rows are those of its arcs. A cell has an arc's weight, which is 16 at most, so that the four bits hold
-- by how much it is more than 1.
use Prim.Native.Nat.{ℕ, ◌+◌, ◌*◌, ◌≤◌, ◌<◌}
use mathlib.Core.Path.{◌≡◌, sym, ap, ◌∙◌}
use mathlib.Core.Bool.{Bool, true, false}
use mathlib.Core.List.{List}
use native.Mathlib.Decide.{dec_lt}
use native.Mathlib.Omega.{arith}
use lib.ListN.{get_or}
use borrow.Author.Tests.{lt-ltb, le-ltb}
use Rattle.spec.specs.Lists.{as_count}
use Rattle.spec.specs.Net.{Net, takes, makes, inhibits, reads}
use Rattle.spec.specs.declared.ArcKind.TheVariants.{Input, Output}
use Rattle.lists.specs.ArcWeights.{weight-most}
use Rattle.columns.specs.Columns.{column, column-at}
use Rattle.net.specs.NetArrays.{Cells}
use Rattle.arc_sets.specs.Sets.{more_at, weight_at, RowOf, SetsOf, ArcsAt, arc_at, HoldsArcs}

counted-most : (b : Bool) → as_count b ≤ 16
unfolding as_count
counted-most true = omega arith
counted-most false = omega arith

-- ---- a row

-- what the words of a row say of a place is what stands in its cell
row-weighs : {arcs sets : List ℕ} {m row : ℕ} → RowOf arcs m row sets → (p : ℕ) → p < m → get_or arcs (32 * row + p) 0 ≤ 16 → weight_at sets row p ≡ get_or arcs (32 * row + p) 0
unfolding weight_at as_count
row-weighs {arcs} {sets} {m} {row} R p h l = elim (dec_lt 0 (get_or arcs (32 * row + p) 0)) [
  | yes k ↦ ap (λ (b : ℕ). b * (1 + more_at sets row p)) (R.set.here p h ∙ ap as_count (lt-ltb 0 (get_or arcs (32 * row + p) 0) k)) ∙ omega (arith, R.weights p h k)
  | no k ↦ ap (λ (b : ℕ). b * (1 + more_at sets row p)) (R.set.here p h ∙ ap as_count (le-ltb 0 (get_or arcs (32 * row + p) 0) (omega arith))) ∙ omega arith
]

-- ---- a net

module _ {arcs sets : List ℕ} {m n : ℕ} (l : m ≤ 32) (few : n ≤ 32) (S : SetsOf arcs m n sets) where
  -- the rows of one kind, which is the k-th
  says : (k : ℕ) {f : ℕ → ℕ → ℕ} → k < 4 → ((t p : ℕ) → f t p ≤ 16) → Cells (column (1024 * k) 1024 arcs) f → (t p : ℕ) → t < n → p < m → arc_at sets (32 * k) t p ≡ f t p
  unfolding arc_at
  says k {f} h most C t p i j = row-weighs (S.rows (32 * k + t) (omega arith) (omega arith)) p j (omega (arith, cell, most t p)) ∙ cell
    where
      cell : get_or arcs (32 * (32 * k + t) + p) 0 ≡ f t p
      cell = ap (λ (z : ℕ). get_or arcs z 0) (omega arith) ∙ sym (column-at (1024 * k) 1024 arcs (32 * t + p) (omega arith)) ∙ C.cell t p (omega arith) (omega arith)

pub sets-held : {arcs sets : List ℕ} {m n : ℕ} (N : Net) → n ≡ N.transitions → n ≤ 32 → ArcsAt N arcs m → SetsOf arcs m n sets → HoldsArcs N sets m
unfolding takes makes
sets-held N e few A S = record {
  places = A.places;
  few = A.few;
  long = S.long;
  inputs = λ t p i j. says A.few few S 0 (omega arith) (λ t p. weight-most N Input p t A.weighed) A.inputs t p (omega arith) j;
  outputs = λ t p i j. says A.few few S 1 (omega arith) (λ t p. weight-most N Output p t A.weighed) A.outputs t p (omega arith) j;
  inhibitors = λ t p i j. says A.few few S 2 (omega arith) (λ t p. counted-most (inhibits N p t)) A.inhibitors t p (omega arith) j;
  reads = λ t p i j. says A.few few S 3 (omega arith) (λ t p. counted-most (reads N p t)) A.reads t p (omega arith) j;
  within = S.within;
}
