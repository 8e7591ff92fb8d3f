-- The refusals that each operation can meet, in the paper's order, each with its least and its greatest spot (01,
-- "Refusals by operation"; 02, 2026-01, 2026-05, 2026-06); and the statement that an operation meets no other. The statement
-- is a type here; the crate `runs` has its proof.
use Rattle.std.specs.Prelude.{◌≡◌, ◌≢◌, ℕ, ◌≤◌, List, [], ◌∷◌, ◌++◌, length}
use Rattle.spec.specs.Lists.{In}
use Rattle.spec.specs.Answer.{Answer, refuses}
use Rattle.spec.specs.Text.{lines_of}
use Rattle.spec.specs.Net.{read_net}
use Rattle.spec.specs.Building.{build}
use Rattle.spec.specs.Checking.{check}
use Rattle.spec.specs.Arranging.{arrange}
use Rattle.spec.specs.Replaying.{replay}
use Rattle.spec.specs.Energy.{energy}
use Rattle.spec.specs.LineParts.{refused_line}
use Rattle.spec.specs.Printing.{input_of}

pub record NumberAndSpots : Type 0 where
  pub number : ℕ
  pub least : ℕ
  pub most : ℕ

abbrev pub refusal : ℕ → ℕ → ℕ → NumberAndSpots
refusal n a b = record { number = n; least = a; most = b }

-- "per line 11 malformed, 12 limit passed, 13 undeclared number, 14 arc repeated (spot: line); then 15 transition
-- lacking input or output (spot: lowest such)"; 2026-01: "51 .. at the line, after 14"; 2026-06: "54 .. at the line, after 13
-- and before 14". 32 places, 32 transitions and 3 × 32 × 32 arcs take 3,136 lines, as an input and a read arc exclude each
-- other; a weight is judged below a place and a transition, and an arc repeated, or of these two the second, stands below an
-- arc too
abbrev pub net_refusals : List NumberAndSpots
net_refusals =
    refusal 11 1 3137 ∷ refusal 12 1 3137 ∷ refusal 13 1 3137 ∷ refusal 54 3 3137 ∷ refusal 14 4 3137 ∷ refusal 51 4 3137
    ∷ refusal 15 0 31 ∷ []

-- "per line 21 malformed, 22 unknown transition, 23 over 128 events, 24 too few tokens, 25 inhibited, 26 over 512
-- conditions, 27 over 4,096 marks (spot: line)": each line has an event, and 128 are the most
abbrev pub log_refusals : List NumberAndSpots
log_refusals =
    refusal 21 1 129 ∷ refusal 22 1 129 ∷ refusal 23 1 129
    ∷ refusal 24 1 128 ∷ refusal 25 1 128 ∷ refusal 26 1 128 ∷ refusal 27 1 128 ∷ []

-- "per line 31 malformed or group out of order, 32 limit passed, 33 undeclared number, 34 condition and event marked
-- already (spot: line); then 35 initial count (lowest place), 36 inputs or outputs, 37 mark missing or undue, 38 B on
-- initial or A on unconsumed, 39 event strictly before itself (36 to 39: lowest event)": 128 events, 512 conditions
-- and 4,096 marks take 4,736 lines; no limit is passed before line 129, and a second mark stands below an event, a
-- condition and the first one
abbrev pub record_refusals : List NumberAndSpots
record_refusals =
    refusal 31 1 4737 ∷ refusal 32 129 4737 ∷ refusal 33 1 4736 ∷ refusal 34 4 4736
    ∷ refusal 35 0 31 ∷ refusal 36 0 127 ∷ refusal 37 0 127 ∷ refusal 38 0 127 ∷ refusal 39 0 127 ∷ []

-- "per line 41 malformed, 42 unknown event, 43 event repeated, 44 order broken (spot: line); then 45 event missing
-- (lowest)": each line has an event of its own; where the order is broken two are left
abbrev pub arrangement_refusals : List NumberAndSpots
arrangement_refusals = refusal 41 1 129 ∷ refusal 42 1 129 ∷ refusal 43 1 129 ∷ refusal 44 1 127 ∷ refusal 45 0 127 ∷ []

-- 2026-05: "52 malformed line, wrong letter .. or value out of range, at the line; then 53 line count other than
-- transitions plus one, spot 0.": lines beyond the last transition are judged too, so that the spot is any line of the text
abbrev pub figure_refusals : ℕ → List NumberAndSpots
figure_refusals lines = refusal 52 1 lines ∷ refusal 53 0 0 ∷ []

-- ---- by operation

-- "Build: 20 buffer under 48,256 bytes (spot 0); net's; per line .."
abbrev pub build_refusals : List NumberAndSpots
build_refusals = refusal 20 0 0 ∷ net_refusals ++ log_refusals

-- "Check: 30 buffer under 16,384 bytes (spot 0); net's; per line ..; then .."
abbrev pub check_refusals : List NumberAndSpots
check_refusals = refusal 30 0 0 ∷ net_refusals ++ record_refusals

-- "Replay: 40 under 4,128 counts (spot 0); net's; check's but 30; per line ..; then .."
abbrev pub replay_refusals : List NumberAndSpots
replay_refusals = refusal 40 0 0 ∷ net_refusals ++ (record_refusals ++ arrangement_refusals)

-- "Arrange: 50 buffer under 768 bytes (spot 0); net's; check's but 30."
abbrev pub arrange_refusals : List NumberAndSpots
arrange_refusals = refusal 50 0 0 ∷ net_refusals ++ record_refusals

-- 2026-05: "after net and record, 52 .., 53 ..", of an energy text with so many lines
abbrev pub energy_refusals : ℕ → List NumberAndSpots
energy_refusals lines = net_refusals ++ (record_refusals ++ figure_refusals lines)

-- "Refused line: 46 choice over 1 or no such line (spot: the line number asked)"
abbrev pub line_refusals : ℕ → List NumberAndSpots
line_refusals asked = refusal 46 asked asked ∷ []

-- "Program: 10 input over 65,536 bytes or no `=` line (spot 0).", and what it prints after `X`: that, net's or a log
-- line's
abbrev pub input_refusals : List NumberAndSpots
input_refusals = refusal 10 0 0 ∷ []

abbrev pub program_refusals : List NumberAndSpots
program_refusals = input_refusals ++ (net_refusals ++ log_refusals)

-- ---- no other is met

-- number n at spot s is among the refusals
pub record IsAmong (rs : List NumberAndSpots) (n s : ℕ) : Type 0 where
  pub which : NumberAndSpots
  pub listed : In which rs
  pub number : n ≡ which.number
  pub least : which.least ≤ s
  pub most : s ≤ which.most

-- every refusal that the answer can be is among them, and none has number 0: where that is returned, the input was
-- accepted
pub record RefusesOnly {A : Type 0} (rs : List NumberAndSpots) (x : Answer A) : Type 0 where
  pub among : (n s : ℕ) → x ≡ refuses n s → IsAmong rs n s
  pub nonzero : (s : ℕ) → x ≢ refuses 0 s

pub record Refusals : Type 0 where
  pub net : (text : List ℕ) → RefusesOnly net_refusals (read_net text)
  pub build : (net log : List ℕ) (room : ℕ) → RefusesOnly build_refusals (build net log room)
  pub check : (net text : List ℕ) (room : ℕ) → RefusesOnly check_refusals (check net text room)
  pub replay : (net text arrangement : List ℕ) (room : ℕ)
      → RefusesOnly replay_refusals (replay net text arrangement room)
  pub arrange : (net text : List ℕ) (room : ℕ) → RefusesOnly arrange_refusals (arrange net text room)
  pub energy : (net text figures : List ℕ)
      → RefusesOnly (energy_refusals (length (lines_of figures))) (energy net text figures)
  pub line : (net second : List ℕ) (choice asked : ℕ)
      → RefusesOnly (line_refusals asked) (refused_line net second choice asked)
  pub input : (input : List ℕ) → RefusesOnly input_refusals (input_of input)
