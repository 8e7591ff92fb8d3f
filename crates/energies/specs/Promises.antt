-- What the contracts of the energies say, for whatever whole numbers the floats are: code on floats is safe with any, so the
-- numbers stand in what is ensured, and a caller who has them learns what the floats are.
use Rattle.std.specs.Prelude.{ℕ, ◌≤◌, ◌<◌, ◌≡◌, false, List, length, get_or, Float}
use Rattle.std.specs.Float.Ieee.Exact.{HasValue}
use Rattle.std.specs.Float.Ieee.Positive.{num, den}
use Rattle.spec.specs.Lists.{sum_of}
use Rattle.spec.specs.Rounding.{float_of}
use Rattle.spec.specs.Record.{RunRecord}
use Rattle.spec.specs.Energy.{Ratings, draw_of, energies_of}
use Rattle.spec.specs.declared.Energies.{Energies}
use Rattle.hold_up.specs.declared.Capacitor.{Capacitor}
use Rattle.hold_up.specs.declared.Draw.{Draw}
use Rattle.hold_up.specs.Floats.{Stand, Holds}

-- each event's transition is below n
abbrev pub Below : ℕ → List ℕ → Type 0
Below n events = (i : ℕ) → i < length events → get_or events i 0 < n

-- the draws stand for ns, and at most 128 events are of transitions that have one
pub record Drawn (draws : List Draw) (ns events : List ℕ) : Type 0 where
  pub stand : Stand draws ns
  pub known : Below (length ns) events
  pub few : length events ≤ 128

-- r is exactly what the events draw
abbrev pub GivesDraw : List Draw → List ℕ → Float → Type 0
GivesDraw draws events r = (ns : List ℕ) → Drawn draws ns events → r ≡ float_of (sum_of (λ t. get_or ns t 0) events)

-- r is the three energies of a capacitor with the figures k and of a record R with these events
abbrev pub GivesEnergies : Capacitor → List Draw → List ℕ → Energies → Type 0
GivesEnergies c draws events r =
    (k : Ratings) (ns : List ℕ) (R : RunRecord) → Holds c k → Drawn draws ns events → R.events ≡ events → r ≡ energies_of k (draw_of ns R)

-- x is a number, +0 or above: its own fraction is its value
abbrev pub NotNegative : Float → Type 0
NotNegative x = HasValue x false (num x) (den x)
