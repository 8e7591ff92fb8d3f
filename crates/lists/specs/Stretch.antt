-- An array of which a loop sets one entry after the other from a place on, each to what a function says.
use Rattle.std.specs.Prelude.{ℕ, ◌+◌, ◌≤◌, ◌<◌, ◌≡◌, refl, List, length, get_or, set}
use Rattle.std.proofs.Common.{◌∙◌, subst, not-suc-le-zero, arith, length-set, get_or-set_same, get_or-set_other}
use Rattle.std.proofs.Math.Decide.{ℕ_discrete}

-- the n entries from `at` on are those of f, the others are as they were
pub record MappedFrom (old : List ℕ) (at n : ℕ) (f : ℕ → ℕ) (new : List ℕ) : Type 0 where
  pub long : length new ≡ length old
  pub before : (i : ℕ) → i < at → get_or new i 0 ≡ get_or old i 0
  pub here : (i : ℕ) → i < n → get_or new (at + i) 0 ≡ f i
  pub beyond : (i : ℕ) → at + n ≤ i → get_or new i 0 ≡ get_or old i 0

pub from-none : (xs : List ℕ) (at : ℕ) (f : ℕ → ℕ) → MappedFrom xs at 0 f xs
from-none xs at f = record { long = refl; before = λ i h. refl; here = λ i h. absurd (not-suc-le-zero h); beyond = λ i h. refl }

pub from_more : {old new : List ℕ} {at n : ℕ} {f : ℕ → ℕ} (v : ℕ) → at + n < length old → v ≡ f n → MappedFrom old at n f new → MappedFrom old at (n + 1) f (set new (at + n) v)
from_more {old} {new} {at} {n} {f} v h e m = record {
  long = length-set new (at + n) v ∙ m.long;
  before = λ i l. get_or-set_other new (at + n) i v 0 (omega arith) ∙ m.before i l;
  here = λ i l. elim (ℕ_discrete i n) [
    | yes q ↦ rw q (get_or-set_same new (at + n) v 0 (omega (arith, m.long)) ∙ e)
    | no d ↦ get_or-set_other new (at + n) (at + i) v 0 (omega arith) ∙ m.here i (omega arith)
  ];
  beyond = λ i l. get_or-set_other new (at + n) i v 0 (omega arith) ∙ m.beyond i (omega arith);
}

pub from_end : {old new : List ℕ} {at i : ℕ} {f : ℕ → ℕ} (n : ℕ) → i ≡ n → MappedFrom old at i f new → MappedFrom old at n f new
from_end {old} {new} {at} {i} {f} n e m = subst (λ (k : ℕ). MappedFrom old at k f new) e m
