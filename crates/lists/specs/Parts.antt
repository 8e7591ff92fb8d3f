-- A list made part by part: what f gives for each number below a bound, one after another.
use Rattle.std.specs.Prelude.{ℕ, zero, suc, ◌+◌, ◌≤◌, ◌<◌, ◌≡◌, List, [], ◌++◌, map, length}
use Rattle.std.proofs.Math.Path.{refl}
use Rattle.std.proofs.Common.{ap, ◌∙◌, add-one, not-suc-le-zero, arith, length-append}
use Rattle.std.proofs.Math.Decide.{ℕ_discrete}
use Rattle.spec.specs.Lists.{from, up_to, flat}
use Rattle.lists.specs.Laws.{up_to-snoc, flat-map-snoc}

module _ {A : Type 0} (f : ℕ → List A) where
  pub parts_none : flat (map f (up_to 0)) ≡ []
  unfolding flat up_to from
  parts_none = refl

  pub parts_more : (i : ℕ) → flat (map f (up_to (i + 1))) ≡ flat (map f (up_to i)) ++ f i
  parts_more i = rw (add-one i, up_to-snoc i) (flat-map-snoc f (up_to i) i)

  parts-length : (n : ℕ) → length (flat (map f (up_to (n + 1)))) ≡ length (flat (map f (up_to n))) + length (f n)
  parts-length n = ap length (parts_more n) ∙ length-append (flat (map f (up_to n))) (f n)

  -- the parts up to one of them are no longer than all
  pub parts_within : (i n : ℕ) → i < n → length (flat (map f (up_to i))) + length (f i) ≤ length (flat (map f (up_to n)))
  parts_within i zero h = absurd (not-suc-le-zero h)
  parts_within i (suc n) h = rw (← add-one n) (elim (ℕ_discrete i n) [
    | yes e ↦ rw e (omega (arith, parts-length n))
    | no d ↦ omega (arith, parts-length n, parts_within i n (omega arith))
  ])
