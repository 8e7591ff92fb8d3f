-- What the functions of the reader promise.
use Rattle.std.specs.Prelude.{ℕ, ◌*◌, ◌≡◌, ◌&&◌, ◌||◌, cond, List, length, leb, Option as Maybe, Some, None, Result, Ok, Err}
use Rattle.std.proofs.Math.Option.{Option, none, some}
use Rattle.spec.specs.Answer.{Answer, gives}
use Rattle.spec.specs.Text.{Line}
use Rattle.spec.specs.Net.{Net}
use Rattle.spec.specs.Energy.{Ratings, EnergyText, energy_digits, is_pulse_line, is_load_line, draw_in, is_capacitor_line, ratings_in, read_energy}
use Rattle.spec.specs.declared.Class.TheVariants.{LetterK, LetterJ, LetterW, Foreign}
use Rattle.line_forms.specs.Rows.{a_number, value_of, row_of, is_one, is_two, is_three}
use Rattle.line_forms.specs.declared.Row.{Row}
use Rattle.line_forms.specs.declared.Slot.TheVariants.{Absent}
use Rattle.lines.specs.Agree.{Agrees, refused_as}
use Rattle.lines.specs.Lines.{LineTo}
use Rattle.hold_up.specs.Floats.{Stands, Stand, Holds}
use Rattle.hold_up.specs.declared.Draw.{Draw}
use Rattle.hold_up.specs.declared.Capacitor.{Capacitor}
use Rattle.energy_reader.specs.declared.EnergyRefusal.{EnergyRefusal}
use Rattle.energy_reader.specs.declared.EnergyRefusal.TheVariants.{WrongLine, LineCount}
use Rattle.energy_reader.specs.declared.RowAt.{RowAt}
use Rattle.energy_reader.specs.declared.CapacitorAt.{CapacitorAt}
use Rattle.energy_reader.specs.declared.DrawAt.{DrawAt}
use Rattle.energy_reader.specs.declared.EnergyText.{EnergyText as TextRead}

-- ---- what a line says

-- what an event of the transition of a line draws, if the line is of a transition
unfoldable pub line_draw : Line → Option ℕ
line_draw l = cond (is_pulse_line l || is_load_line l) (some (draw_in l)) none

-- the capacitor's figures, if the line is the capacitor's
unfoldable pub line_ratings : Line → Option Ratings
line_ratings l = cond (is_capacitor_line l) (some (ratings_in l)) none

-- the same by numbers
abbrev pub pulse_of : ℕ → Option ℕ
pulse_of energy = cond (leb energy 1000000) (some energy) none

abbrev pub load_of : ℕ → ℕ → Option ℕ
load_of power time = cond (leb power 1000000 && leb time 1000000) (some (power * time)) none

abbrev pub figures_of : ℕ → ℕ → ℕ → Option Ratings
figures_of capacitance full cutoff =
    cond (leb 1 capacitance && leb capacitance 1000000 && leb full 60000 && leb cutoff full)
    (some (record { capacitance = capacitance; full = full; cutoff = cutoff })) none

-- and by the row of a line
unfoldable pub row_draw : Row → Option ℕ
row_draw w =
    cond (is_one LetterJ w) (pulse_of (value_of w.first))
    (cond (is_two LetterW w) (load_of (value_of w.first) (value_of w.second)) none)

unfoldable pub row_ratings : Row → Option Ratings
row_ratings w =
    cond (a_number w.second && a_number w.third && is_three LetterK w)
    (figures_of (value_of w.first) (value_of w.second) (value_of w.third)) none

-- the row of a line; that of a line that is not ended has no letter
unfoldable pub row_in : Line → Row
row_in l =
    cond l.ended (row_of energy_digits l.bytes)
    (record { letter = Foreign; first = Absent; second = Absent; third = Absent; fourth = Absent })

-- ---- what is made of it

-- both are there, and P holds of them; or neither is
abbrev pub Both : {A B : Type 0} → (A → B → Type 0) → Option A → Option B → Type 0
Both P (some a) (some b) = P a b
Both P (some a) none = ⊥
Both P none (some b) = ⊥
Both P none none = Unit {0}

-- what was made of a line, if anything
abbrev pub made_of : {A : Type 0} → Maybe A → Option A
made_of (Some a) = some a
made_of None = none

-- a draw that stands for the number, if there is one
abbrev pub Draws : Maybe Draw → Option ℕ → Type 0
Draws v n = Both Stands (made_of v) n

-- a capacitor with the figures, if there are any
abbrev pub Rated : Maybe Capacitor → Option Ratings → Type 0
Rated v f = Both Holds (made_of v) f

-- ---- the line that starts at a position, where the next one starts at `next`

pub record ReadsRow (text : List ℕ) (at : ℕ) (r : RowAt) : Type 0 where
  pub found : LineTo text at r.next
  pub row : r.row ≡ row_in found.line

pub record ReadsCapacitor (text : List ℕ) (r : CapacitorAt) : Type 0 where
  pub found : LineTo text 0 r.next
  pub rated : Rated r.capacitor (line_ratings found.line)

pub record ReadsDraw (text : List ℕ) (at : ℕ) (r : DrawAt) : Type 0 where
  pub found : LineTo text at r.next
  pub draws : Draws r.draw (line_draw found.line)

-- ---- the text

-- the paper's number and spot of a refusal
abbrev pub refusal_of : EnergyRefusal → ℕ × ℕ
refusal_of (WrongLine k) = (52, k)
refusal_of LineCount = (53, 0)

abbrev pub answer_of : Result TextRead EnergyRefusal → Answer (Unit {0})
answer_of (Ok t) = gives tt
answer_of (Err x) = refused_as (refusal_of x)

-- nothing is returned of a text beside the capacitor and the draws
abbrev pub no_values : EnergyText → Unit {0}
no_values e = tt

-- the capacitor and the draws are those of the text, a draw for each transition
pub record HoldsText (transitions : ℕ) (c : Capacitor) (ds : List Draw) (e : EnergyText) : Type 0 where
  pub capacitor : Holds c e.capacitor
  pub draws : Stand ds e.draws
  pub count : length e.draws ≡ transitions

-- what was read is the text's
abbrev pub HoldsRead : ℕ → Result TextRead EnergyRefusal → EnergyText → Type 0
HoldsRead transitions (Ok t) e = HoldsText transitions t.capacitor t.draws e
HoldsRead transitions (Err x) e = ⊥

-- the answer is the paper's beside any net with so many transitions, and where a text was read, it is that text
abbrev pub ReadsEnergy : ℕ → List ℕ → Result TextRead EnergyRefusal → Type 0
ReadsEnergy transitions text r =
    (N : Net) → N.transitions ≡ transitions
    → Agrees no_values (answer_of r) (HoldsRead transitions r) (read_energy N text)
