-- What stands in a list of numbers after a store, and after one more at its end.
use Rattle.std.specs.Prelude.{ℕ, zero, suc, ◌+◌, ◌<◌, ◌≡◌, refl, Bool, true, false, cond, List, [], ◌∷◌, ◌++◌, eqb, length, get_or, set, replicate}
use Rattle.std.proofs.Common.{arith, get_or-set_same, get_or-set_other, ne_eqb, eqb-true}
use Rattle.std.proofs.Math.Dec.{eqb-suc-suc}
use Rattle.std.proofs.lemmas.Bool.{eqb-false}
use Rattle.spec.specs.Lists.{sum}

-- a list of zeros
pub blank : (n i : ℕ) → ◌≡◌ {A = ℕ} (get_or (replicate n 0) i 0) 0
blank zero i = refl
blank (suc n) zero = refl
blank (suc n) (suc i) = blank n i

-- what stands at p once v is put at the end
pub grown : (xs : List ℕ) (v p : ℕ) → get_or (xs ++ v ∷ []) p 0 ≡ cond (eqb p (length xs)) v (get_or xs p 0)
grown [] v zero = refl
grown [] v (suc p) = rw (ne_eqb (suc p) 0 (omega arith))
grown (x ∷ xs) v zero = rw (ne_eqb 0 (suc (length xs)) (omega arith))
grown (x ∷ xs) v (suc p) = rw (eqb-suc-suc p (length xs)) (grown xs v p)

-- what stands at p once v is stored at i
pub stored : (xs : List ℕ) (i v p : ℕ) → i < length xs → get_or (set xs i v) p 0 ≡ cond (eqb p i) v (get_or xs p 0)
stored xs i v p h = go (eqb p i) refl
  where
    go : (t : Bool) → eqb p i ≡ t → get_or (set xs i v) p 0 ≡ cond t v (get_or xs p 0)
    go true e = let q : p ≡ i = eqb-true p i e in rw q (get_or-set_same xs i v 0 h)
    go false e = get_or-set_other xs i p v 0 (eqb-false p i e)

pub sum_more : (xs : List ℕ) (v : ℕ) → sum (xs ++ v ∷ []) ≡ sum xs + v
unfolding sum
sum_more [] v = omega arith
sum_more (x ∷ xs) v = omega (arith, sum_more xs v)
