-- The four operations on floats that are fractions: each gives the exact fraction, rounded once, whatever the format. The
-- toolchain works the fraction out from the floats' own forms; equal fractions round alike, so any form will do.
-- `HasValue x s a c` says that x is finite, has the sign s (true: negative) and is a / c in size.
use Rattle.std.specs.Prelude.{ℕ, ◌-◌, ltb, Float}
use Rattle.std.proofs.Math.Bool.{true, false, cond}
use Rattle.std.specs.Float.Ieee.{round}
use Rattle.std.specs.Float.{Format}

-- a / c - b / c with its sign, rounded once; an exact 0 is +0
abbrev pub round_difference : Format → ℕ → ℕ → ℕ → Float
round_difference f a b c = cond (ltb a b) (round f true (b - a) c) (round f false (a - b) c)
