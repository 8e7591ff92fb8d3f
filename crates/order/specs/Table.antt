-- A table in one list, w entries to a row: its cells stand apart, and a write changes one of them.
use Rattle.std.specs.Prelude.{◌≡◌, ℕ, ◌+◌, ◌*◌, ◌/◌, ◌%◌, ◌≤◌, ◌<◌, List, length, get_or, set}
use Rattle.std.proofs.Common.{sym, ap, ◌∙◌, mul-suc, mul-le-mul_left, mod-eq_of_lt, arith}
use Rattle.std.proofs.Math.Nat.{mul-add-div, div-eq_of_lt, mul-add-mod_self_left}
use Rattle.std.proofs.Math.Seq.{get_or-set_same, get_or-set_other}

unfoldable pub cell_at : ℕ → List ℕ → ℕ → ℕ → ℕ
cell_at w t e f = get_or t (w * e + f) 0

module _ (w e f : ℕ) (f<w : f < w) where
  pub cell_row : (w * e + f) / w ≡ e
  cell_row = mul-add-div (omega arith) e f ∙ ap (λ (z : ℕ). e + z) (div-eq_of_lt f<w) ∙ omega arith

  pub cell-column : (w * e + f) % w ≡ f
  cell-column = mul-add-mod_self_left w e f ∙ mod-eq_of_lt f<w

  -- the cells of r rows are the first w * r of the list
  pub cell-inside : (r : ℕ) → e < r → w * e + f < w * r
  cell-inside r l = omega (arith, mul-suc w e, mul-le-mul_left w l)

pub cell_apart : (w e f g h : ℕ) → f < w → h < w → w * e + f ≡ w * g + h → (e ≡ g) × (f ≡ h)
cell_apart w e f g h l m q = (
  sym (cell_row w e f l) ∙ ap (λ (z : ℕ). z / w) q ∙ cell_row w g h m,
  sym (cell-column w e f l) ∙ ap (λ (z : ℕ). z % w) q ∙ cell-column w g h m,
)

module _ (w : ℕ) (t : List ℕ) (i j v : ℕ) (j<w : j < w) where
  pub cell-here : (n : ℕ) → i < n → w * n ≤ length t → cell_at w (set t (w * i + j) v) i j ≡ v
  unfolding cell_at
  cell-here n l h = get_or-set_same t (w * i + j) v 0 (omega (arith, cell-inside w i j j<w n l))

  pub cell_other : (e f : ℕ) → f < w → ¬ ((e ≡ i) × (f ≡ j)) → cell_at w (set t (w * i + j) v) e f ≡ cell_at w t e f
  unfolding cell_at
  cell_other e f l d = get_or-set_other t (w * i + j) (w * e + f) v 0 (λ q. d (cell_apart w e f i j l j<w q))
