-- A numbering of the events that keeps a record's pairs keeps its closed order, and then no event is strictly before itself.
use Rattle.std.specs.Prelude.{◌≡◌, refl, ℕ, ◌≤◌, ◌<◌, Bool, true, false, ◌||◌, List, length}
use Rattle.std.proofs.Common.{ap, le_of_eq, arith}
use Rattle.std.proofs.Math.Decide.{ℕ_discrete}
use Rattle.spec.specs.Lists.{In}
use Rattle.spec.specs.Record.{RunRecord}
use Rattle.spec.specs.Order.{Pair, pairs, Path, single, then}
use Rattle.spec.specs.Arrangement.{Arrangement, index}
use Rattle.spec.specs.Runs.{KeepsOrder}
use Rattle.lists.specs.Laws.{clash}

-- ρ puts the source of each strict pair before its target, and that of each weak pair no later
pub record KeepsPairs (ps : List Pair) (ρ : ℕ → ℕ) : Type 0 where
  pub strict : (q : Pair) → In q ps → q.strict ≡ true → ρ q.source < ρ q.target
  pub weak : (q : Pair) → In q ps → ρ q.source ≤ ρ q.target

-- every pair stands between events below n
abbrev pub Bounded : List Pair → ℕ → Type 0
Bounded ps n = (q : Pair) → In q ps → (q.source < n) × (q.target < n)

module _ {ps : List Pair} where
  pub path-bounded : {n : ℕ} → Bounded ps n → {s : Bool} {e f : ℕ} → Path ps s e f → (e < n) × (f < n)
  path-bounded b (single q m) = b q m
  path-bounded b (then q m p) = ((b q m).0, (path-bounded b p).1)

  module _ {ρ : ℕ → ℕ} (k : KeepsPairs ps ρ) where
    pub along : {s : Bool} {e f : ℕ} → Path ps s e f → (ρ e ≤ ρ f) × (s ≡ true → ρ e < ρ f)
    along (single q m) = (k.weak q m, k.strict q m)
    along (then q {s} {f} m p) = go q.strict s refl (along p)
      where
        go : (x y : Bool) → q.strict ≡ x → (ρ q.target ≤ ρ f) × (y ≡ true → ρ q.target < ρ f) → (ρ q.source ≤ ρ f) × ((x || y) ≡ true → ρ q.source < ρ f)
        go true y h r = (omega (arith, k.weak q m), λ z. omega (arith, k.strict q m h))
        go false true h r = (omega (arith, k.weak q m), λ z. omega (arith, k.weak q m, r.1 refl))
        go false false h r = (omega (arith, k.weak q m), λ z. clash z refl)

    pub no-cycle : (e : ℕ) → ¬ Path ps true e e
    no-cycle e p = omega (arith, (along p).1 refl)

-- ---- arrangements: keeping the order is keeping the pairs

module _ (R : RunRecord) (b : Bounded (pairs R) (length R.events)) (lines : List (List ℕ)) where
  pub order-pairs : KeepsOrder R lines → KeepsPairs (pairs R) (λ e. index e lines)
  order-pairs k = record { strict = strict; weak = weak }
    where
      strict : (q : Pair) → In q (pairs R) → q.strict ≡ true → index q.source lines < index q.target lines
      strict q m h = k.strict q.source q.target (b q m).0 (b q m).1 (rw h at (single q m))

      weak : (q : Pair) → In q (pairs R) → index q.source lines ≤ index q.target lines
      weak q m = elim (ℕ_discrete q.source q.target) [
        | yes e ↦ le_of_eq (ap (λ (z : ℕ). index z lines) e)
        | no d ↦ k.weak q.source q.target (b q m).0 (b q m).1 (d, (q.strict, single q m))
      ]

  pub pairs-order : Arrangement (length R.events) lines → KeepsPairs (pairs R) (λ e. index e lines) → KeepsOrder R lines
  pairs-order a k = record {
    each-once = a;
    strict = λ e f l m p. (along k p).1 refl;
    weak = λ e f l m p. (along k p.1.1).0;
  }
