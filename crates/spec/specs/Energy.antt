-- The energy of the hold-up capacitor, and what a record's events draw from it (02, 2026-05; refusals 52 and 53).
use Rattle.std.specs.Prelude.{ℕ, ◌+◌, ◌-◌, ◌*◌, Bool, not, ◌&&◌, ◌||◌, cond, List, [], ◌∷◌, ◌++◌, length, get_or, eqb, leb, Float}
use Prim.Native.Char.{Char}
use Rattle.std.specs.Float.Ieee.Positive.{num, den}
use Rattle.spec.specs.Lists.{every, sum_of}
use Rattle.spec.specs.Answer.{Answer, gives, refuses, ◌>>=◌, ◌>>◌, refuse◌at◌when◌}
use Rattle.spec.specs.Text.{Line, lines_of, is_number, number_in, by_lines}
use Rattle.spec.specs.Forms.{has_letter, fields_of, or_zero}
use Rattle.spec.specs.Net.{Net}
use Rattle.spec.specs.Record.{RunRecord, bench}
use Rattle.spec.specs.Checking.{accepts}
use Rattle.spec.specs.Rounding.{nearest, float_of, nearest_difference}
use Rattle.spec.specs.declared.Energies.{Energies}
use Rattle.spec.specs.declared.EnergyNumbers.{EnergyNumbers}

-- ---- "An energy text starts with `K,capacitance,full,cutoff` in µF, mV, mV .. Then each transition, in order, is either
-- a fixed pulse `J,µJ` or a steady load `W,mW,ms`."

-- "here a number may have seven digits"
abbrev pub energy_digits : ℕ
energy_digits = 7

-- the line is ended, and is the letter c and so many numbers
unfoldable pub is_figures : Char → ℕ → Line → Bool
is_figures c n l =
    l.ended && has_letter c l && eqb (length (fields_of l)) n && every (is_number energy_digits) (fields_of l)

-- the number in field i, counted from 0
unfoldable pub figure_at : Line → ℕ → ℕ
figure_at l i = or_zero (number_in energy_digits (get_or (fields_of l) i []))

-- "Capacitance is 1 to 1,000,000, voltages 0 to 60,000 with cutoff no higher than full": full is tested, and by it cutoff
unfoldable pub is_capacitor_line : Line → Bool
is_capacitor_line l =
    is_figures "K" 3 l && leb 1 (figure_at l 0) && leb (figure_at l 0) 1000000 && leb (figure_at l 1) 60000
    && leb (figure_at l 2) (figure_at l 1)

-- "other numbers 0 to 1,000,000"
unfoldable pub is_pulse_line : Line → Bool
is_pulse_line l = is_figures "J" 1 l && leb (figure_at l 0) 1000000

unfoldable pub is_load_line : Line → Bool
is_load_line l = is_figures "W" 2 l && leb (figure_at l 0) 1000000 && leb (figure_at l 1) 1000000

-- what an event of the transition draws, in µJ: 1 mW for 1 ms is 1 µJ
unfoldable pub draw_in : Line → ℕ
draw_in l = cond (is_pulse_line l) (figure_at l 0) (figure_at l 0 * figure_at l 1)

-- the capacitor's figures, in µF, mV and mV
pub record Ratings : Type 0 where
  pub capacitance : ℕ
  pub full : ℕ
  pub cutoff : ℕ

unfoldable pub ratings_in : Line → Ratings
ratings_in l = record { capacitance = figure_at l 0; full = figure_at l 1; cutoff = figure_at l 2 }

-- ---- the three energies, in µJ

-- "The draw is summed in f64 over the events, in their order, and must equal the whole-number sum."
unfoldable pub draw_of : List ℕ → RunRecord → ℕ
draw_of draws r = sum_of (λ t. get_or draws t 0) r.events

-- "Usable energy is capacitance times the difference of the voltage squares, halved, then divided by 1,000,000: µJ as an
-- f64, rounded once, by the division, to nearest, ties to even."
unfoldable pub usable_of : Ratings → Float
usable_of c = nearest (c.capacitance * (c.full * c.full - c.cutoff * c.cutoff)) (2 * 1000000)

-- "What is left is usable minus draw, rounded once the same way.": usable is the f64, num usable / den usable exactly
unfoldable pub left_of : Float → ℕ → Float
left_of usable draw = nearest_difference (num usable) (draw * den usable) (den usable)

-- "All three are returned."
unfoldable pub energies_of : Ratings → ℕ → Energies
energies_of c draw = record { usable = usable_of c; draw = float_of draw; left = left_of (usable_of c) draw }

-- ---- "52 malformed line, wrong letter (`K` on line 1, `J` or `W` on any other) or value out of range, at the line;
-- then 53 line count other than transitions plus one, spot 0."

-- what the lines so far say: the capacitor's figures, and what an event of each transition draws
pub record EnergyText : Type 0 where
  pub capacitor : Ratings
  pub draws : List ℕ

unfoldable pub no_energy : EnergyText
no_energy = record { capacitor = record { capacitance = 0; full = 0; cutoff = 0 }; draws = [] }

unfoldable pub capacitor_line : ℕ → Line → Answer EnergyText
capacitor_line k l = do
  refuse 52 at k when not (is_capacitor_line l)
  gives (record { capacitor = ratings_in l; draws = [] })

unfoldable pub draw_line : ℕ → Line → EnergyText → Answer EnergyText
draw_line k l e = do
  refuse 52 at k when not (is_pulse_line l || is_load_line l)
  gives (record { capacitor = e.capacitor; draws = e.draws ++ draw_in l ∷ [] })

unfoldable pub energy_line : ℕ → Line → EnergyText → Answer EnergyText
energy_line k l e = cond (eqb k 1) (capacitor_line k l) (draw_line k l e)

unfoldable pub read_energy : Net → List ℕ → Answer EnergyText
read_energy n text = do
  e ← by_lines energy_line 1 (lines_of text) no_energy
  refuse 53 at 0 when not (eqb (length (lines_of text)) (n.transitions + 1))
  gives e

-- "Errors: after net and record, 52 .., 53 ..": net's; check's but 30
unfoldable pub energy : List ℕ → List ℕ → List ℕ → Answer Energies
energy net text figures = do
  a ← accepts bench net text
  e ← read_energy a.net figures
  gives (energies_of e.capacitor (draw_of e.draws a.run))

-- ---- what a call returns: its energies are 0 where it is refused, and number and spot are 0 where it is accepted

unfoldable pub as_energy : Answer Energies → EnergyNumbers
as_energy (gives e) = record { number = 0; spot = 0; usable = e.usable; draw = e.draw; left = e.left }
as_energy (refuses n s) = record { number = n; spot = s; usable = float_of 0; draw = float_of 0; left = float_of 0 }

abbrev pub energy_returns : List ℕ → List ℕ → List ℕ → EnergyNumbers
energy_returns net text figures = as_energy (energy net text figures)
