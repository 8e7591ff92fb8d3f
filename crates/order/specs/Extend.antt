-- Pairs added to a relation, however many at once: there is an arrangement that keeps both exactly when the two together have no strict
-- cycle (`extendable`), and so for pairs that a list has (`extension`); and which pairs may be added: one pair, and those that put events
-- into one step.
use Rattle.std.specs.Prelude.{ℕ, ◌≤◌, ◌<◌, max, ◌&&◌, cond, eqb}
use mathlib.Core.List.{List, map}
use Rattle.spec.specs.Lists.{In, flat, greatest}

unfoldable pub joint : (ℕ → ℕ → ℕ) → (ℕ → ℕ → ℕ) → ℕ → ℕ → ℕ
joint pair more e f = max (pair e f) (more e f)

-- ---- the pairs of a list

-- a pair from one event to another: weak for the value 1, strict for 2
pub record Added : Type 0 where
  pub source : ℕ
  pub target : ℕ
  pub value : ℕ

unfoldable pub added_at : ℕ → ℕ → Added → ℕ
added_at x y p = cond (eqb x p.source && eqb y p.target) p.value 0

unfoldable pub listed : List Added → ℕ → ℕ → ℕ
listed ps x y = greatest (map (added_at x y) ps)

-- they are pairs of the events below n
abbrev pub Within : ℕ → List Added → Type 0
Within n ps = (p : Added) → In p ps → (p.source < n) × (p.target < n)

-- a numbering keeps the pair
pub record KeepsPair (ρ : ℕ → ℕ) (p : Added) : Type 0 where
  pub weak : 0 < p.value → ρ p.source ≤ ρ p.target
  pub strict : 2 ≤ p.value → ρ p.source < ρ p.target

-- ---- which pairs may be added

abbrev pub weak_pair : ℕ → ℕ → Added
weak_pair f e = record { source = f; target = e; value = 1 }

abbrev pub strict_pair : ℕ → ℕ → Added
strict_pair f e = record { source = f; target = e; value = 2 }

-- those that put events into one step: a weak pair each way between each two of them
unfoldable pub in_one_step : List ℕ → List Added
in_one_step fs = flat (map (λ e. map (weak_pair e) fs) fs)
