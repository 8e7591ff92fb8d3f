-- Rows of one width, one after the other, known by their entries.
use Prim.Native.Nat.{ℕ, zero, suc, ◌+◌, ◌*◌, ◌/◌, ◌%◌, ◌<◌}
use Rattle.std.specs.Prelude.{◌≡◌, get_or}
use Rattle.std.proofs.Math.Path.{sym, ap}
use Rattle.std.proofs.Common.{◌∙◌, mul-zero, mul_comm, mod-lt, div-lt_iff_lt-mul, arith, ext_get_or}
use mathlib.Core.List.{List, map}
use Rattle.std.proofs.Math.Nat.{mul-suc, div-add-mod}
use Rattle.std.proofs.Math.ListN.{length, length-append}
use Rattle.spec.specs.Lists.{from, up_to, flat}
use Rattle.lists.specs.Laws.{up_to-snoc, flat-map-snoc, get_or-table-rows}

module _ {A : Type 0} (w : ℕ) (f : ℕ → List A) (h : (k : ℕ) → length (f k) ≡ w) where
  pub length-rows : (m : ℕ) → length (flat (map f (up_to m))) ≡ w * m
  unfolding flat up_to from
  length-rows zero = sym (mul-zero w)
  length-rows (suc m) = ap (λ (zs : List ℕ). length (flat (map f zs))) (up_to-snoc m) ∙ ap length (flat-map-snoc f (up_to m) m) ∙ length-append (flat (map f (up_to m))) (f m) ∙ omega (arith, length-rows m, h m, mul-suc w m)

  -- a list with the entries of the rows is the rows
  pub rows_are : (m : ℕ) (d : A) (xs : List A) → 0 < w → length xs ≡ w * m → ((k p : ℕ) → k < m → p < w → get_or xs (w * k + p) d ≡ get_or (f k) p d) → xs ≡ flat (map f (up_to m))
  rows_are m d xs l e g = ext_get_or d xs _ (e ∙ sym (length-rows m)) (λ i u.
      let q : w * (i / w) + i % w ≡ i = div-add-mod i w in
      let k : i / w < m = (div-lt_iff_lt-mul l).1 (omega (arith, mul_comm w m)) in
      ap (λ (j : ℕ). get_or xs j d) (sym q) ∙ g (i / w) (i % w) k (mod-lt i l) ∙ sym (get_or-table-rows w m f h (i / w) (i % w) d k (mod-lt i l)) ∙ ap (λ (j : ℕ). get_or (flat (map f (up_to m))) j d) q)
