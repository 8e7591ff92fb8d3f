-- `round` is correct rounding: what it gives is `Rounded`, for every fraction below 2 ^ emax, in either format and with either sign.
-- In units of the format's smallest value the fraction a / c is n / c, and `round` gives q * 2 ^ k, q being n / (c * 2 ^ k)
-- rounded to a whole number. Another value of the format is m * 2 ^ j units. For j no less than k it is on the same grid, where
-- q is the closest; for a lesser j it is below the least number of so many digits, which n / c is not.
use Rattle.std.specs.Prelude.{◌≡◌, Float}
use Prim.Native.Nat.{ℕ, ◌*◌, ◌^◌, ◌<◌}
use Rattle.std.specs.Float.{Format}
use Rattle.std.specs.Float.Ieee.{prec, low}
use Rattle.std.specs.Float.Ieee.Positive.{num, den}

-- ---- every value of the format is such a number, in units of the smallest value
pub record Units (f : Format) (x : Float) : Type 0 where
  pub m : ℕ
  pub j : ℕ
  pub few : m < 2 ^ prec f
  pub is : num x * 2 ^ low f ≡ m * 2 ^ j * den x
