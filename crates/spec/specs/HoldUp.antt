-- What the three energies are, in words that name no algorithm of rounding (02, 2026-05).
use Rattle.std.specs.Prelude.{ℕ, ◌-◌, ◌*◌, ◌≤◌, ◌<◌, ◌≡◌, true, false, List, Float}
use Rattle.std.specs.Float.{binary64}
use Rattle.std.specs.Float.Ieee.Exact.{HasValue}
use Rattle.std.specs.Float.Ieee.Positive.{num, den}
use Rattle.spec.specs.Answer.{gives}
use Rattle.spec.specs.Record.{bench}
use Rattle.spec.specs.Checking.{Accepted, accepts}
use Rattle.spec.specs.Rounding.{Rounded}
use Rattle.spec.specs.Energy.{Ratings, EnergyText, read_energy, draw_of}
use Rattle.spec.specs.declared.EnergyNumbers.{EnergyNumbers}

-- what three floats are, for a capacitor with these figures and events that draw so much
pub record Right (c : Ratings) (drawn : ℕ) (usable draw left : Float) : Type 0 where
  -- "must equal the whole-number sum": the draw is it exactly
  pub sum : HasValue draw false drawn 1
  -- usable is C (full² - cutoff²) / 2 / 1,000,000, rounded once
  pub half : Rounded binary64 false (c.capacitance * (c.full * c.full - c.cutoff * c.cutoff)) (2 * 1000000) usable
  -- left is usable - draw, rounded once: usable is num / den exactly
  pub enough : drawn * den usable ≤ num usable → Rounded binary64 false (num usable - drawn * den usable) (den usable) left
  pub lacking : num usable < drawn * den usable → Rounded binary64 true (drawn * den usable - num usable) (den usable) left

-- what a call returned is right: whatever net, record and energy text are accepted, it is an answer, and its energies are right
pub record RightEnergy (net text figures : List ℕ) (r : EnergyNumbers) : Type 0 where
  pub answered : (a : Accepted) (e : EnergyText) → accepts bench net text ≡ gives a → read_energy a.net figures ≡ gives e
      → (r.number ≡ 0) × Right e.capacitor (draw_of e.draws a.run) r.usable r.draw r.left
