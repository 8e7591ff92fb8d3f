-- The third demand: its parts, and all of them as one record. They are types here; the crate `runs` has the proof.
use Rattle.std.specs.Prelude.{◌≡◌, ◌↔◌, ◌⊎◌, ℕ, ◌+◌, ◌*◌, ◌≤◌, ◌<◌, List, length, get_or}
use Rattle.spec.specs.Answer.{gives}
use Rattle.spec.specs.Net.{Net, read_net}
use Rattle.spec.specs.Step.{tokens_at}
use Rattle.spec.specs.Record.{RunRecord, bench}
use Rattle.spec.specs.Order.{StrictlyBefore, NotLater}
use Rattle.spec.specs.Building.{build}
use Rattle.spec.specs.Checking.{Checked, read_record, check}
use Rattle.spec.specs.Arranging.{arrange, arrangement_bytes}
use Rattle.spec.specs.Replaying.{replay}
use Rattle.spec.specs.Runs.{EnabledSequence, KeepsOrder, WithinLimits, marking_at, as_steps, event_lines, log_bytes}
use Rattle.spec.specs.Runs.{TwoEvents, StandsEarlier, InEvery, InNone}

-- Below, N is the net that a net text declares and R the record that a record text has; `room` is the size of the
-- buffer that is lent.

-- ---- "For every accepted net and record, the arrangement written puts each event into one of its steps, none of
-- them empty, and keeps the order. Every other arrangement that keeps it has at least the returned count of steps."

-- `written` is the arrangement that is written; the count returned is how many lines it has.
pub record WritesShortest (net text : List ℕ) (R : RunRecord) : Type 0 where
  pub written : List (List ℕ)
  pub writes : (room : ℕ) → 768 ≤ room
      → arrange net text room ≡ gives (record { lines = length written; bytes = arrangement_bytes written })
  pub keeps : KeepsOrder R written
  pub shortest : InEvery R (λ lines. length written ≤ length lines)

-- ---- "Every arrangement that keeps the order is, read as transitions, an enabled step sequence of the net; replay
-- writes that sequence's markings for its lines, and all such arrangements end in the same marking."

-- "An arrangement of n lines that keeps the order meets none of 41 to 45, and row k, for each k from 0 to n, is the
-- marking that the first k steps of its sequence leave.": count p of row k stands at 32 × k + p
pub record ReplaysMarkings (net text : List ℕ) (N : Net) (R : RunRecord) (lines : List (List ℕ)) : Type 0 where
  pub counts : List ℕ
  pub plays : (room : ℕ) → 4128 ≤ room
      → replay net text (arrangement_bytes lines) room ≡ gives (record { lines = length lines; counts = counts })
  pub full : length counts ≡ 4128
  pub rows : (k p : ℕ) → k ≤ length lines → p < 32
      → get_or counts (32 * k + p) 0 ≡ tokens_at (marking_at N (as_steps R lines) k) p

-- the marking in which an arrangement ends
abbrev pub last_marking : Net → RunRecord → List (List ℕ) → List ℕ
last_marking N R lines = marking_at N (as_steps R lines) (length lines)

pub record KeptAreRuns (net text : List ℕ) (N : Net) (R : RunRecord) : Type 0 where
  pub enabled : InEvery R (λ lines. EnabledSequence N (as_steps R lines))
  pub replays : InEvery R (λ lines. ReplaysMarkings net text N R lines)
  pub one_end : (lines others : List (List ℕ)) → KeepsOrder R lines → KeepsOrder R others
      → last_marking N R lines ≡ last_marking N R others

-- ---- "Of two different events, the order, and with it the check's table, has one strictly before the other exactly
-- when it stands in an earlier step in every such arrangement, and not later exactly when it stands in a later step
-- in none."

pub record OrderIsExact (R : RunRecord) : Type 0 where
  pub strict : (e f : ℕ) → TwoEvents R e f → StrictlyBefore R e f ↔ InEvery R (λ lines. StandsEarlier e f lines)
  pub weak : (e f : ℕ) → TwoEvents R e f → NotLater R e f ↔ InNone R (λ lines. StandsEarlier f e lines)

-- what the table says of e and f stands at 128 × e + f
abbrev pub entry_at : List ℕ → ℕ → ℕ → ℕ
entry_at table e f = get_or table (128 * e + f) 0

-- "Its order is the closed order; in the table 2 says strictly before, and 1 or 2 says not later."
pub record TableSays (net text : List ℕ) (R : RunRecord) : Type 0 where
  pub answer : Checked
  pub checks : (room : ℕ) → 16384 ≤ room → check net text room ≡ gives answer
  pub full : length answer.table ≡ 16384
  pub strict : (e f : ℕ) → TwoEvents R e f → (entry_at answer.table e f ≡ 2) ↔ StrictlyBefore R e f
  pub weak : (e f : ℕ) → TwoEvents R e f
      → ((entry_at answer.table e f ≡ 1) ⊎ (entry_at answer.table e f ≡ 2)) ↔ NotLater R e f

-- ---- all of this together, of an accepted record

pub record OrderOfRuns (net text : List ℕ) (N : Net) (R : RunRecord) : Type 0 where
  pub arranging : WritesShortest net text R
  pub kept : KeptAreRuns net text N R
  pub order : OrderIsExact R
  pub table : TableSays net text R

-- ---- "For every enabled step sequence within the limits, the record built from it is accepted, and that sequence is
-- among the arrangements that keep the record's order."

-- "a built record is the bytes that building wrote"
pub record RunIsRecorded (net : List ℕ) (N : Net) (steps : List (List ℕ)) : Type 0 where
  pub bytes : List ℕ
  pub builds : (room : ℕ) → 48256 ≤ room → build net (log_bytes steps) room ≡ gives bytes
  pub run : RunRecord
  pub accepts : read_record bench N bytes ≡ gives run
  pub among : KeepsOrder run (event_lines 0 steps)
  pub reads : as_steps run (event_lines 0 steps) ≡ steps

-- ---- the demand

-- "In the third demand, an accepted net meets none of the net's refusals, and an accepted record, under that net,
-- none of 31 to 39." "The demand is one claim about whole sequences and whole arrangements."
pub record Demand : Type 0 where
  pub order-of-runs : (net : List ℕ) (N : Net) → read_net net ≡ gives N
      → (text : List ℕ) (R : RunRecord) → read_record bench N text ≡ gives R
      → OrderOfRuns net text N R
  pub runs-recorded : (net : List ℕ) (N : Net) → read_net net ≡ gives N
      → (steps : List (List ℕ)) → EnabledSequence N steps → WithinLimits N steps
      → RunIsRecorded net N steps
