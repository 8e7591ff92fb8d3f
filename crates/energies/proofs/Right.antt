-- The energies that the definitions name are right: the draw is the whole-number sum exactly, and usable and left are rounded
-- once, since the toolchain's rounding is correct for every fraction in its range, and those here are.
use mathlib.Core.Path.{◌≡◌}
use Prim.Native.Nat.{ℕ, ◌-◌, ◌*◌, ◌^◌, ◌≤◌, ◌<◌}
use native.Mathlib.Nat.{le_trans, lt_of_le_of_lt, mul-le-mul_left, mul-le-mul_right, mul-lt-mul_of_pos_right}
use native.Mathlib.Omega.{arith}
use mathlib.Core.Bool.{true, false}
use lib.Dec.{lit<}
use lib.Ieee.{Float, binary64}
use lib.Ieee.Positive.{num, den, den_pos}
use Rattle.spec.specs.Rounding.{nearest, negative, Rounded}
use Rattle.spec.specs.Energy.{Ratings, usable_of, left_of, energies_of}
use Rattle.spec.specs.HoldUp.{Right}
use Rattle.rounding.proofs.Correct.{rounded}
use Rattle.rounding.proofs.Unique.{at-most-twice}
use Rattle.rounding.proofs.Differences
use Rattle.energies.proofs.Ranges.{draw-exact, product_small}

module _ (k : Ratings) (drawn : ℕ) (small : k.capacitance ≤ 1000000) (under : k.full ≤ 60000) (above : k.cutoff ≤ k.full) (few : drawn ≤ 128 * 1000000000000) where
  abbrev u : Float
  u = usable_of k

  abbrev product : ℕ
  product = k.capacitance * (k.full * k.full - k.cutoff * k.cutoff)

  usable-rounded : Rounded binary64 false product (2 * 1000000) u
  unfolding usable_of nearest
  usable-rounded = rounded binary64 false product (2 * 1000000) (lit< tt) (lt_of_le_of_lt (product_small k under small) (lit< tt))

  -- at most 3600 J: zero is a value too, so usable is at most twice its fraction
  usable-small : num u < 2 ^ 1023 * den u
  usable-small =
      let h : num u * 2000000 ≤ 2 * product * den u = at-most-twice binary64 product 2000000 u usable-rounded in
      let g : 2 * product * den u ≤ 7200000000000000 * den u = mul-le-mul_right (den u) (mul-le-mul_left 2 (product_small k under small)) in
      lt_of_le_of_lt (fewer (num u) (den u) (le_trans h g)) (mul-lt-mul_of_pos_right {m = 3600000000} (lit< tt) (den_pos u))
    where
      fewer : (i d : ℕ) → i * 2000000 ≤ 7200000000000000 * d → i ≤ 3600000000 * d
      fewer i d h = omega arith

  drawn-small : drawn < 2 ^ 1023
  drawn-small = lt_of_le_of_lt few (lit< tt)

  pub right : let e = energies_of k drawn in Right k drawn e.usable e.draw e.left
  unfolding energies_of left_of
  right = record {
    sum = draw-exact drawn few;
    half = usable-rounded;
    enough = Differences.enough (num u) (drawn * den u) (den u) (den_pos u) usable-small;
    lacking = Differences.lacking (num u) (drawn * den u) (den u) (den_pos u) (mul-lt-mul_of_pos_right drawn-small (den_pos u));
  }

  -- none is -0: draw and usable have the sign +, and left is not 0 where it has the sign -
  pub not-minus-zero : negative (left_of u drawn) ≡ true → 0 < num (left_of u drawn)
  unfolding left_of
  not-minus-zero = Differences.not-minus-zero u drawn usable-rounded.held usable-rounded.number usable-small drawn-small
