-- Arrangements of n events as lists of lines (01, "Checking, replaying, arranging"); they know no record.
use Rattle.std.specs.Prelude.{◌≡◌, ℕ, suc, ◌≤◌, ◌<◌, cond, List, [], ◌∷◌, length, get_or, eqb}
use Rattle.spec.specs.Lists.{count, flat, is_in}

-- how often event e stands in the lines
unfoldable pub times : ℕ → List (List ℕ) → ℕ
times e lines = count (eqb e) (flat lines)

-- the index, from 0, of the first line that event e stands in
unfoldable pub index : ℕ → List (List ℕ) → ℕ
index e [] = 0
index e (l ∷ ls) = cond (is_in e l) 0 (suc (index e ls))

-- "An arrangement has lines .. with one or more events in any order, each event of the record once in all."
pub record Arrangement (n : ℕ) (lines : List (List ℕ)) : Type 0 where
  pub once : (e : ℕ) → e < n → times e lines ≡ 1
  pub only : (e : ℕ) → n ≤ e → times e lines ≡ 0
  pub full : (k : ℕ) → k < length lines → 0 < length (get_or lines k [])
