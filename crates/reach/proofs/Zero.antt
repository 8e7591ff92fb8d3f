-- Words that are all zero hold nothing.
use Prim.Native.Nat.{ℕ}
use mathlib.Core.Path.{◌≡◌}
use mathlib.Core.List.{List}
use native.Mathlib.Omega.{arith}
use lib.ListN.{get_or}
use Rattle.bit_sets.specs.Sets.{has, no_words}
use Rattle.reach.specs.Rows.{Sub, row_of, cell_of, value_of}

module _ (words : List ℕ) (z : (i : ℕ) → get_or words i 0 ≡ 0) where
  zero_row : (e f : ℕ) → (has (row_of words e).path f ≡ 0) × (has (row_of words e).strict f ≡ 0)
  unfolding row_of
  zero_row e f = (no_words _ (z _) (z _) f, no_words _ (z _) (z _) f)

  pub zero-sub : (e : ℕ) → Sub (row_of words e)
  unfolding Sub
  zero-sub e f = let q = zero_row e f in omega arith

  pub zero-cell : (e f : ℕ) → cell_of words e f ≡ 0
  unfolding cell_of value_of
  zero-cell e f = let q = zero_row e f in omega arith
