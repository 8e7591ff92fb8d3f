-- The whole numbers that the floats of a capacitor and of draws are.
use Rattle.std.specs.Prelude.{ℕ, ◌*◌, ◌≤◌, ◌<◌, ◌≡◌, List, length, get_or, Float}
use Rattle.std.specs.Float.{nan}
use Rattle.spec.specs.Rounding.{float_of}
use Rattle.spec.specs.Energy.{Ratings}
use Rattle.hold_up.specs.declared.Draw.{Draw}
use Rattle.hold_up.specs.declared.Draw.TheVariants.{Pulse, Load}
use Rattle.hold_up.specs.declared.Capacitor.{Capacitor}

-- a load of `power` mW for `time` ms, which takes n µJ
pub record LoadOf (x y : Float) (n : ℕ) : Type 0 where
  pub power : ℕ
  pub time : ℕ
  pub mW : x ≡ float_of power
  pub ms : y ≡ float_of time
  pub low : power ≤ 1000000
  pub short : time ≤ 1000000
  pub energy : n ≡ power * time

-- an event with this draw takes n µJ
abbrev pub Stands : Draw → ℕ → Type 0
Stands (Pulse x) n = (x ≡ float_of n) × (n ≤ 1000000)
Stands (Load x y) n = LoadOf x y n

-- beyond the last transition
abbrev pub no_draw : Draw
no_draw = Pulse nan

-- the draws of transitions stand for these numbers, one for each
abbrev pub Stand : List Draw → List ℕ → Type 0
Stand draws ns = (t : ℕ) → t < length ns → Stands (get_or draws t no_draw) (get_or ns t 0)

-- a capacitor with these figures, in their ranges
pub record Holds (c : Capacitor) (r : Ratings) : Type 0 where
  pub capacitance : c.capacitance ≡ float_of r.capacitance
  pub full : c.full ≡ float_of r.full
  pub cutoff : c.cutoff ≡ float_of r.cutoff
  pub small : r.capacitance ≤ 1000000
  pub low : r.full ≤ 60000
  pub above : r.cutoff ≤ r.full
