-- What the words of a row say of a place: something just where the row's set has the place, and never more than 16.
use Rattle.std.specs.Prelude.{ℕ, ◌+◌, ◌*◌, ◌≤◌, ◌<◌, ◌≡◌, Bool, List, get_or}
use Rattle.std.proofs.Math.Path.{ap}
use Rattle.std.proofs.Common.{◌∙◌}
use Rattle.std.proofs.Math.Decide.{dec_lt}
use native.Mathlib.Omega.{arith}
use Rattle.spec.specs.Lists.{as_count}
use Rattle.lists.specs.Laws.{one-le}
use Rattle.bit_sets.specs.Bits.{bit, bit-most}
use Rattle.arc_sets.specs.Sets.{row_count, digit_at, more_at, weight_at, arc_at, Within}

module _ (sets : List ℕ) (row p : ℕ) where
  more-most : more_at sets row p ≤ 15
  unfolding more_at digit_at
  more-most = omega arith

  pub weight-none : bit (get_or sets row 0) p ≡ 0 → weight_at sets row p ≡ 0
  unfolding weight_at
  weight-none e = ap (λ (b : ℕ). b * (1 + more_at sets row p)) e ∙ omega arith

  pub weight-some : bit (get_or sets row 0) p ≡ 1 → weight_at sets row p ≡ 1 + more_at sets row p
  unfolding weight_at
  weight-some e = ap (λ (b : ℕ). b * (1 + more_at sets row p)) e ∙ omega arith

  pub weight-most : weight_at sets row p ≤ 16
  weight-most = elim (dec_lt 0 (bit (get_or sets row 0) p)) [
    | yes h ↦ omega (arith, weight-some (omega (arith, bit-most (get_or sets row 0) p)), more-most)
    | no h ↦ omega (arith, weight-none (omega arith))
  ]

  -- a weight that is 1 at most is the bit itself
  pub weight-bit : weight_at sets row p ≤ 1 → bit (get_or sets row 0) p ≡ weight_at sets row p
  weight-bit h = elim (dec_lt 0 (bit (get_or sets row 0) p)) [
    | yes b ↦ let e : bit (get_or sets row 0) p ≡ 1 = omega (arith, bit-most (get_or sets row 0) p) in omega (arith, weight-some e)
    | no b ↦ let e : bit (get_or sets row 0) p ≡ 0 = omega arith in omega (arith, weight-none e)
  ]

  -- where a weight counts a test, so does the place
  pub weight-test : (b : Bool) → weight_at sets row p ≡ as_count b → bit (get_or sets row 0) p ≡ as_count b
  weight-test b e = weight-bit (omega (arith, e, one-le b)) ∙ e

-- no arc has a place from m on
pub arc-within : {m : ℕ} (sets : List ℕ) → Within m sets → (at t p : ℕ) → at + t < row_count → m ≤ p → arc_at sets at t p ≡ 0
unfolding arc_at
arc-within sets W at t p l h = weight-none sets (at + t) p (W (at + t) p l h)
