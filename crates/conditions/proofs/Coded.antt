-- The list of conditions that arrays hold.
use Prim.Native.Nat.{ℕ, ◌<◌}
use mathlib.Core.Path.{◌≡◌}
use mathlib.Core.Logic.{inl, inr}
use mathlib.Core.Option.{some}
use mathlib.Core.List.{List}
use native.Mathlib.Omega.{arith}
use lib.Dec.{eqb}
use lib.ListN.{length, get_or}
use borrow.Author.Tests.{ne_eqb}
use Rattle.spec.specs.Record.{is_none, no_condition}
use Rattle.spec.specs.Building.{is_free}
use Rattle.lists.specs.Laws
use Rattle.lists.specs.Tables.{length-table}
use Rattle.conditions.specs.Conditions.{decoded, condition_in, conditions_in, free_at}

pub length-conditions : (n : ℕ) (ps gs fs : List ℕ) → length (conditions_in n ps gs fs) ≡ n
unfolding conditions_in
length-conditions n ps gs fs = length-table (condition_in ps gs fs) n

pub condition-at : (n : ℕ) (ps gs fs : List ℕ) (i : ℕ) → i < n → get_or (conditions_in n ps gs fs) i no_condition ≡ condition_in ps gs fs i
unfolding conditions_in
condition-at n ps gs fs i l = Laws.get_or-table (condition_in ps gs fs) n i no_condition l

pub none-coded : (v : ℕ) → is_none (decoded v) ≡ eqb v 128
unfolding decoded is_none
none-coded v = elim (Laws.true-or-false (eqb v 128)) [ inl e ↦ rw e | inr e ↦ rw e ]

pub event-coded : (e : ℕ) → e < 128 → decoded e ≡ some e
unfolding decoded
event-coded e l = rw (ne_eqb e 128 (λ z. omega arith))

pub free-is : (p : ℕ) (ps gs fs : List ℕ) (i : ℕ) → is_free p (condition_in ps gs fs i) ≡ free_at p ps fs i
unfolding is_free condition_in free_at
free-is p ps gs fs i = rw (none-coded (get_or fs i 0))
