-- Whole numbers as f64. Up to 2 ^ 53 each is an f64 exactly, so their sums, products and differences that stay there lose
-- nothing: an operation gives the exact fraction rounded once, and the fraction is a whole number. Half of a whole number is
-- exact too, so that a number halved and then divided is rounded once.
use Rattle.std.specs.Prelude.{ℕ, ◌^◌, ◌≤◌}
use Rattle.std.proofs.Math.Bool.{false}
use Rattle.std.specs.Float.Ieee.{binary64}
use Rattle.std.specs.Float.Ieee.Exact.{HasValue}
use Rattle.std.specs.Float.Ieee.Back.{round_whole}
use Rattle.spec.specs.Rounding.{float_of}

pub exact : (n : ℕ) → n ≤ 2 ^ 53 → HasValue (float_of n) false n 1
unfolding float_of
exact n h = round_whole binary64 false n h
