-- Ordered pairs as numbers, to be counted; and in rows of bits.
use Rattle.std.specs.Prelude.{◌≡◌, List, ℕ, ◌<◌, min}
use Rattle.std.proofs.Math.Decide.{dec_le}
use Rattle.std.proofs.Common.{arith, le-leb}
use Rattle.std.proofs.lemmas.Bool.{lt-leb}
use Rattle.spec.specs.Lists.{as_count}
use Rattle.order.specs.Below.{sum_below}
use Rattle.bit_sets.specs.Sets.{has, has-most}
use Rattle.reach.specs.declared.Row.{Row}
use Rattle.reach.specs.Rows.{row_of, cell_of}
use Rattle.row_facts.specs.Counts.{Ready, sub, cell, set-size}
use Rattle.row_independence.specs.Pairs.{ordered_in, ordered}
use Rattle.row_independence.specs.Ordered.{row_size}

pub ordered-is : (c : ℕ → ℕ → ℕ) (e f : ℕ) → ordered c e f ≡ min 1 (c e f)
unfolding ordered ordered_in as_count
ordered-is c e f = elim (dec_le 1 (c e f)) [
  | yes l ↦ rw (le-leb 1 (c e f) l) (omega arith)
  | no l ↦ rw (lt-leb 1 (c e f) (omega arith)) (omega arith)
]

-- the path set of a row has the events that the row's event is strictly before, or not later than
module _ (w : List ℕ) (n : ℕ) (h : Ready n w) (e : ℕ) (l : e < n) (r : Row) (q : r ≡ row_of w e) where
  pub path-bit : (f : ℕ) → has r.path f ≡ ordered (cell_of w) e f
  path-bit f =
      let b : e < 128 = omega (arith, h.few) in
      omega (arith, cell w h.good e b r q f, sub w h.good e b r q f, has-most r.path f, ordered-is (cell_of w) e f)

  pub path-size : sum_below 128 (has r.path) ≡ row_size n (cell_of w) e
  unfolding row_size
  path-size = set-size r.path n (ordered (cell_of w) e) h.few (λ f _. path-bit f)
      (λ f i. omega (arith, path-bit f, ordered-is (cell_of w) e f, h.beyond e f l i))
