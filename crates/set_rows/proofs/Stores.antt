-- The words after the two stores of a set: its own are the new ones, and those of any other set stand elsewhere.
use Prim.Native.Nat.{ℕ, ◌+◌, ◌*◌, ◌≤◌}
use mathlib.Core.Path.{◌≡◌, ap₂, ◌∙◌}
use mathlib.Core.List.{List}
use native.Mathlib.Omega.{arith}
use lib.ListN.{length, set, length-set}
use lib.Seq.{get_or-set_same, get_or-set_other}
use Rattle.bit_sets.specs.declared.Set.{Set}
use Rattle.set_rows.specs.Sets.{words_of_set, high, set_of, PutSet}

same_set : (a b : Set) → a.lo ≡ b.lo → a.hi ≡ b.hi → a ≡ b
same_set a b p q = ap₂ (λ (x y : ℕ). record { lo = x; hi = y }) p q

pub set-put : (w : List ℕ) (s : ℕ) (a : Set) → words_of_set * s + words_of_set ≤ length w → PutSet w s a (set (set w (words_of_set * s) a.lo) (words_of_set * s + high) a.hi)
unfolding set_of
set-put w s a l =
    let w1 = set w (2 * s) a.lo in
    let n1 : length w1 ≡ length w = length-set w (2 * s) a.lo in
    record {
      long = length-set w1 (2 * s + 1) a.hi ∙ n1;
      here = same_set _ _
          (get_or-set_other w1 (2 * s + 1) (2 * s) a.hi 0 (omega arith) ∙ get_or-set_same w (2 * s) a.lo 0 (omega arith))
          (get_or-set_same w1 (2 * s + 1) a.hi 0 (omega arith));
      other = λ t d. same_set _ _
          (get_or-set_other w1 (2 * s + 1) (2 * t) a.hi 0 (λ z. d (omega arith)) ∙ get_or-set_other w (2 * s) (2 * t) a.lo 0 (λ z. d (omega arith)))
          (get_or-set_other w1 (2 * s + 1) (2 * t + 1) a.hi 0 (λ z. d (omega arith)) ∙ get_or-set_other w (2 * s) (2 * t + 1) a.lo 0 (λ z. d (omega arith)));
    }
