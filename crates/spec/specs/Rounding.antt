-- Fractions as f64, rounded once (02, 2026-05: "rounded once, .., to nearest, ties to even"). `Float`, the values of a
-- format, and `round`, by which a fraction becomes one, are the toolchain's account of the machine's floats; `Rounded` says what it
-- is to be rounded, and names no algorithm. Nothing here knows of capacitors.
use Rattle.std.specs.Prelude.{ℕ, ◌+◌, ◌-◌, ◌*◌, ◌%◌, ◌≤◌, ◌≡◌, ◌⊎◌, Bool, true, false, cond, T, ltb, Float}
use Rattle.std.specs.Bool.{beq}
use Rattle.std.specs.Float.{nan, inf, fin, Format, binary64}
use Rattle.std.specs.Float.Ieee.{round, eq, fits, to_bits}
use Rattle.std.specs.Float.Ieee.Scale.{finite}
use Rattle.std.specs.Float.Ieee.Positive.{num, den}

-- ---- the f64 of a fraction

-- the f64 nearest to a / c, ties to even; it is no smaller than +0
unfoldable pub nearest : ℕ → ℕ → Float
nearest a c = round binary64 false a c

-- the whole number n as an f64
unfoldable pub float_of : ℕ → Float
unfolding nearest
float_of n = nearest n 1

-- the f64 nearest to a / c - b / c, ties to even; a difference of 0 is +0
unfoldable pub nearest_difference : ℕ → ℕ → ℕ → Float
nearest_difference a b c = cond (ltb a b) (round binary64 true (b - a) c) (round binary64 false (a - b) c)

-- ---- what it is to be rounded

-- A finite float x has a sign and is num x / den x in size.
abbrev pub negative : Float → Bool
negative nan = false
negative (inf s) = s
negative (fin s m e) = s

abbrev pub apart : ℕ → ℕ → ℕ
apart a b = (a - b) + (b - a)

-- the distance of a finite x from a / c, or from -a / c where s is true, as a multiple of 1 / (c * den x)
abbrev pub gap : Bool → ℕ → ℕ → Float → ℕ
gap s a c x = cond (beq s (negative x)) (apart (num x * c) (a * den x)) (num x * c + a * den x)

-- x is the value of the format f nearest to a / c, or to -a / c where s is true, and of two that are as near the one
-- whose last digit is even. `fits f x`: the format holds x. `eq` is the operator ==. The last digit is the last bit of the
-- bit pattern.
pub record Rounded (f : Format) (s : Bool) (a c : ℕ) (x : Float) : Type 0 where
  pub held : T (fits f x)
  pub number : T (finite x)
  pub sign : negative x ≡ s
  pub near : (y : Float) → T (fits f y) → T (finite y) → gap s a c x * den y ≤ gap s a c y * den x
  pub even : (y : Float) → T (fits f y) → T (finite y) → gap s a c x * den y ≡ gap s a c y * den x
      → T (eq x y) ⊎ ((to_bits f x % 2 ≡ 0) × (to_bits f y % 2 ≡ 1))
