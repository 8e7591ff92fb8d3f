-- Searches among the numbers from p on, as a loop over them goes.
use Prim.Native.Nat.{ℕ, zero, suc, ◌+◌, ◌-◌, ◌<◌, ◌≤◌}
use Rattle.std.specs.Prelude.{◌≡◌, Bool, true, false, [], ◌∷◌}
use Rattle.std.proofs.Math.Path.{refl}
use Rattle.std.proofs.Math.Option.{none, some}
use Rattle.std.proofs.Common.{add-one}
use native.Mathlib.Omega.{arith}
use Rattle.spec.specs.Lists.{from, up_to, any, first, lowest}

pub from_next : (p n : ℕ) → p < n → from p (n - p) ≡ p ∷ from (p + 1) (n - (p + 1))
unfolding from
from_next p n h = let e : n - p ≡ suc (n - (p + 1)) = omega arith in rw (e, add-one p)

pub from-none : (p n : ℕ) → n ≤ p → from p (n - p) ≡ []
unfolding from
from-none p n h = let e : n - p ≡ 0 = omega arith in rw e

module _ (q : ℕ → Bool) (n : ℕ) where
  pub any-start : any q (from 0 (n - 0)) ≡ any q (up_to n)
  unfolding up_to
  any-start = let e : n - 0 ≡ n = omega arith in rw e

  pub lowest_start : first q (from 0 (n - 0)) ≡ lowest q n
  unfolding lowest up_to
  lowest_start = let e : n - 0 ≡ n = omega arith in rw e

module _ (q : ℕ → Bool) (p n : ℕ) where
  pub any-hit : p < n → q p ≡ true → any q (from p (n - p)) ≡ true
  unfolding any
  any-hit h e = rw (from_next p n h, e)

  pub any-on : p < n → q p ≡ false → any q (from (p + 1) (n - (p + 1))) ≡ any q (from p (n - p))
  unfolding any
  any-on h e = rw (from_next p n h, e)

  pub any-end : n ≤ p → any q (from p (n - p)) ≡ false
  unfolding any
  any-end h = rw (from-none p n h)

  pub first-hit : p < n → q p ≡ true → first q (from p (n - p)) ≡ some p
  unfolding first
  first-hit h e = rw (from_next p n h, e)

  pub first_on : p < n → q p ≡ false → first q (from (p + 1) (n - (p + 1))) ≡ first q (from p (n - p))
  unfolding first
  first_on h e = rw (from_next p n h, e)

  pub first-end : n ≤ p → first q (from p (n - p)) ≡ none
  unfolding first
  first-end h = rw (from-none p n h)

-- ---- two tests that agree on the numbers

module _ (f g : ℕ → Bool) where
  pub any_same : (a n : ℕ) → ((p : ℕ) → p < a + n → f p ≡ g p) → any f (from a n) ≡ any g (from a n)
  unfolding any from
  any_same a zero h = refl
  any_same a (suc n) h = rw (h a (omega arith), any_same (suc a) n (λ p u. h p (omega arith)))

  pub first-same : (a n : ℕ) → ((p : ℕ) → p < a + n → f p ≡ g p) → first f (from a n) ≡ first g (from a n)
  unfolding first from
  first-same a zero h = refl
  first-same a (suc n) h = rw (h a (omega arith), first-same (suc a) n (λ p u. h p (omega arith)))
