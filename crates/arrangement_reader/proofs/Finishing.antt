-- The lowest event that no line has.
use Prim.Native.Nat.{ℕ, ◌+◌, ◌-◌, ◌≤◌, ◌<◌}
use mathlib.Core.Path.{◌≡◌, ap, ◌∙◌}
use mathlib.Core.Bool.{not}
use mathlib.Core.List.{List}
use native.Mathlib.Omega.{arith}
use lib.ListN.{get_or}
use borrow.Author.Tests.{lt-ltb, le-ltb}
use Rattle.spec.specs.Lists.{from, first, lowest}
use Rattle.spec.specs.Answer.{gives, refuses, ◌>>◌, refuse◌at?◌}
use Rattle.lists.specs.Search.{lowest_start, first-hit, first_on, first-end}
use Rattle.arrangement_reader.specs.Arrangement.{missing_in, finished}

module _ (xs : List ℕ) (n : ℕ) where
  -- the lowest one from e on is the lowest of all
  abbrev pub MissingFrom : ℕ → Type 0
  MissingFrom e = first (missing_in xs) (from e (n - e)) ≡ lowest (missing_in xs) n

  pub missing-start : MissingFrom 0
  missing-start = lowest_start (missing_in xs) n

  module _ (e : ℕ) (g : MissingFrom e) where
    pub missing-hit : e < n → (lines : ℕ) → get_or xs e 0 ≡ 0 → refuses 45 e ≡ finished xs n lines
    unfolding finished ◌>>◌ refuse◌at?◌ missing_in
    missing-hit l lines h = rw (← g, first-hit (missing_in xs) e n l (ap not (le-ltb 0 (get_or xs e 0) (omega arith))))

    pub missing-on : e < n → (get_or xs e 0 ≡ 0 → ⊥) → MissingFrom (e + 1)
    unfolding missing_in
    missing-on l h = first_on (missing_in xs) e n l (ap not (lt-ltb 0 (get_or xs e 0) (omega arith))) ∙ g

    pub missing-end : n ≤ e → (lines : ℕ) → gives (lines, 0, 0) ≡ finished xs n lines
    unfolding finished ◌>>◌ refuse◌at?◌
    missing-end l lines = rw (← g, first-end (missing_in xs) e n l)
