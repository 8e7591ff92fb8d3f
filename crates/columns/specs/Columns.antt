-- A column of an array: n entries from a place on. Several columns of one array are lent as one.
use Rattle.std.specs.Prelude.{ℕ, ◌+◌, ◌-◌, ◌≤◌, ◌<◌, ◌≡◌, List, length, get_or, set, take, drop}
use Rattle.std.proofs.Math.Path.{ap}
use Rattle.std.proofs.Common.{sym, ◌∙◌, arith, length-take, length-drop, get_or-take, get_or-drop, drop-set-lt}
use Rattle.std.proofs.Math.Seq.{take-set-lt, take-set-le}
use Rattle.std.proofs.lemmas.List.{drop-set-add}

-- it does not unfold by itself: the laws below say what is needed of it
unfoldable pub column : ℕ → ℕ → List ℕ → List ℕ
column at n xs = take n (drop at xs)

pub column-length : (at n : ℕ) (xs : List ℕ) → at + n ≤ length xs → length (column at n xs) ≡ n
unfolding column
column-length at n xs h = omega (arith, length-take n (drop at xs), length-drop at xs)

-- a load
pub column-at : (at n : ℕ) (xs : List ℕ) (i : ℕ) → i < n → get_or (column at n xs) i 0 ≡ get_or xs (at + i) 0
unfolding column
column-at at n xs i h = get_or-take n (drop at xs) i 0 h ∙ get_or-drop at xs i 0

-- a store in the column, below it and behind it
module _ (at n : ℕ) (xs : List ℕ) (i v : ℕ) where
  pub store_in : i < n → column at n (set xs (at + i) v) ≡ set (column at n xs) i v
  unfolding column
  store_in h = ap (take n) (drop-set-add at xs i v) ∙ take-set-lt n (drop at xs) i v h

  pub store_below : i < at → column at n (set xs i v) ≡ column at n xs
  unfolding column
  store_below h = ap (take n) (drop-set-lt at xs i v h)

  pub store-behind : n ≤ i → column at n (set xs (at + i) v) ≡ column at n xs
  unfolding column
  store-behind h = ap (take n) (drop-set-add at xs i v) ∙ take-set-le n (drop at xs) i v h

-- the same, by the place in the whole array
pub store-past : (at n : ℕ) (xs : List ℕ) (j v : ℕ) → at + n ≤ j → column at n (set xs j v) ≡ column at n xs
store-past at n xs j v h = let e : at + (j - at) ≡ j = omega arith in ap (λ (k : ℕ). column at n (set xs k v)) (sym e) ∙ store-behind at n xs (j - at) v (omega arith)
