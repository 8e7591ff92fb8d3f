-- The value of digits as they are read: one more makes it ten times as much and adds its own, so that n digits stay below
-- ten to the n, and 18 of them do not wrap.
-- Assumes nothing.
use Prim.Native.Nat.{ℕ, ◌+◌, ◌*◌, ◌^◌, ◌≤◌, ◌<◌}
use native.Mathlib.Nat.{pow-suc, pow-le-pow_right, lt_of_lt_of_le}
use native.Mathlib.Numerals.{add-one}
use native.Mathlib.Omega.{arith}
use lib.Dec.{lit<}

-- ten to the next power
pub grows : (v d n : ℕ) → v < 10 ^ n → d ≤ 9 → v * 10 + d < 10 ^ (n + 1)
grows v d n h g = rw (add-one n, pow-suc 10 n) (omega arith)

pub small : (v n : ℕ) → v < 10 ^ n → n ≤ 17 → v < 100000000000000000
small v n h g = lt_of_lt_of_le h (pow-le-pow_right (lit< tt) g)
