-- The numbers of a set, one after the other.
use Rattle.std.specs.Prelude.{◌≡◌, ◌≢◌, ℕ, ◌<◌, Option, Some, None}
use Rattle.bit_sets.specs.Sets.{has}
use Rattle.bit_sets.specs.declared.SetMembers.{SetMembers}

-- none is left where the set is empty; else it is the lowest of the set, and the others stay
abbrev pub NextOfSet : SetMembers → Option ℕ → SetMembers → Type 0
NextOfSet s None t = (f : ℕ) → f < 128 → has s.left f ≡ 0
NextOfSet s (Some e) t = (e < 128) × (has s.left e ≡ 1) × (has t.left e ≡ 0) × ((f : ℕ) → f ≢ e → has t.left f ≡ has s.left f) × ((f : ℕ) → f < e → has s.left f ≡ 0)
