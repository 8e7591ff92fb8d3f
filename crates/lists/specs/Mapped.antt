-- An array of which a loop sets one entry after the other, each to what a function says.
use Rattle.std.specs.Prelude.{ℕ, ◌+◌, ◌≤◌, ◌<◌, ◌≡◌, refl, List, length, get_or, set}
use Rattle.std.proofs.Common.{◌∙◌, subst, not-suc-le-zero, arith, length-set, get_or-set_same, get_or-set_other}
use Rattle.std.proofs.Math.Decide.{ℕ_discrete}

-- the entries before n are those of f, the others are as they were
pub record Mapped (old : List ℕ) (n : ℕ) (f : ℕ → ℕ) (new : List ℕ) : Type 0 where
  pub long : length new ≡ length old
  pub here : (i : ℕ) → i < n → get_or new i 0 ≡ f i
  pub beyond : (i : ℕ) → n ≤ i → get_or new i 0 ≡ get_or old i 0

pub mapped-none : (xs : List ℕ) (f : ℕ → ℕ) → Mapped xs 0 f xs
mapped-none xs f = record { long = refl; here = λ i h. absurd (not-suc-le-zero h); beyond = λ i h. refl }

pub mapped-more : {old new : List ℕ} {n : ℕ} {f : ℕ → ℕ} (v : ℕ)
    → n < length old → v ≡ f n → Mapped old n f new → Mapped old (n + 1) f (set new n v)
mapped-more {old} {new} {n} {f} v h e m = record {
  long = length-set new n v ∙ m.long;
  here = λ i l. elim (ℕ_discrete i n) [
    | yes q ↦ rw q (get_or-set_same new n v 0 (omega (arith, m.long)) ∙ e)
    | no d ↦ get_or-set_other new n i v 0 d ∙ m.here i (omega arith)
  ];
  beyond = λ i l. get_or-set_other new n i v 0 (omega arith) ∙ m.beyond i (omega arith);
}

pub mapped_end : {old new : List ℕ} {i : ℕ} {f : ℕ → ℕ} (n : ℕ) → i ≡ n → Mapped old i f new → Mapped old n f new
mapped_end {old} {new} {i} {f} n e m = subst (λ (k : ℕ). Mapped old k f new) e m
