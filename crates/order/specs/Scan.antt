-- Checking an arrangement line by line: each event's strict predecessors stand in the lines before its own, its weak ones there or in its own.
-- For an arrangement that is the same as keeping the order.
use Rattle.std.specs.Prelude.{ℕ, suc, ◌≤◌, ◌<◌, List, [], length, get_or, take, eqb}
use Rattle.spec.specs.Lists.{count}
use Rattle.spec.specs.Arrangement.{times}

pub record LineOk (n : ℕ) (c : ℕ → ℕ → ℕ) (ls : List (List ℕ)) (i f : ℕ) : Type 0 where
  pub strict : (e : ℕ) → e < n → 2 ≤ c e f → 0 < times e (take i ls)
  pub weak : (e : ℕ) → e < n → 0 < c e f → 0 < times e (take (suc i) ls)

abbrev pub Scan : ℕ → (ℕ → ℕ → ℕ) → List (List ℕ) → Type 0
Scan n c ls = (i f : ℕ) → i < length ls → 0 < count (eqb f) (get_or ls i []) → LineOk n c ls i f
