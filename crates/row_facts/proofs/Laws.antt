-- Loops: an event is strictly before itself where the strict set of its row has it.
use mathlib.Core.Path.{◌≡◌, refl, sym}
use mathlib.Core.Bool.{Bool, true, false}
use mathlib.Core.List.{List}
use Prim.Native.Nat.{ℕ, ◌<◌}
use Rattle.bit_sets.specs.Sets.{has}
use Rattle.reach.specs.declared.Row.{Row}
use Rattle.reach.specs.Rows.{row_of, cell_of, Good}
use Rattle.row_facts.specs.Pairs.{on_cycle}
use Rattle.row_facts.specs.Counts.{in-strict, not-strict}

pub looped_is : (w : List ℕ) (e : ℕ) (r : Row) (b : Bool) → Good w → e < 128 → r ≡ row_of w e → (b ≡ true → has r.strict e ≡ 1) × (b ≡ false → has r.strict e ≡ 0) → b ≡ on_cycle (cell_of w) e
unfolding on_cycle
looped_is w e r true g l q h = sym (in-strict w g e l r q e (h.0 refl))
looped_is w e r false g l q h = sym (not-strict w g e l r q e (h.1 refl))
