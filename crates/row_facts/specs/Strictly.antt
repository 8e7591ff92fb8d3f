-- Strict pairs as numbers, to be counted.
use Rattle.std.specs.Prelude.{◌≡◌, refl, ℕ, ◌≤◌, ◌<◌}
use Rattle.std.proofs.Math.Decide.{dec_le}
use Rattle.std.proofs.Common.{arith, le-leb}
use Rattle.std.proofs.lemmas.Bool.{lt-leb}
use Rattle.spec.specs.Lists.{as_count}
use Rattle.row_facts.specs.Pairs.{strict_in}

-- 1 if e is strictly before f, else 0
unfoldable pub strictly : (ℕ → ℕ → ℕ) → ℕ → ℕ → ℕ
strictly c e f = as_count (strict_in c e f)

pub strictly-yes : (c : ℕ → ℕ → ℕ) (e f : ℕ) → 2 ≤ c e f → strictly c e f ≡ 1
unfolding strictly strict_in as_count
strictly-yes c e f h = rw (le-leb 2 (c e f) h) refl

pub strictly-no : (c : ℕ → ℕ → ℕ) (e f : ℕ) → c e f < 2 → strictly c e f ≡ 0
unfolding strictly strict_in as_count
strictly-no c e f h = rw (lt-leb 2 (c e f) h) refl

pub strictly-only : (c : ℕ → ℕ → ℕ) (e f : ℕ) → strictly c e f ≡ 1 → 2 ≤ c e f
strictly-only c e f h = elim (dec_le 2 (c e f)) [
  | yes l ↦ l
  | no l ↦ absurd (omega (arith, strictly-no c e f (omega arith)))
]
