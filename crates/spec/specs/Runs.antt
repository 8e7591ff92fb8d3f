-- Enabled step sequences, and arrangements that keep a record's order (01, the paragraph on the third demand; 004,
-- section 3).
use Rattle.std.specs.Prelude.{◌≢◌, ℕ, ◌+◌, ◌≤◌, ◌<◌, List, [], ◌∷◌, map, length, get_or, take}
use Rattle.spec.specs.Lists.{In, from, flat}
use Rattle.spec.specs.Text.{line_with}
use Rattle.spec.specs.Net.{Net}
use Rattle.spec.specs.Step.{EnabledAt, marking_after}
use Rattle.spec.specs.Record.{RunRecord, transition_of}
use Rattle.spec.specs.Order.{StrictlyBefore, NotLater}
use Rattle.spec.specs.Building.{record_for}
use Rattle.spec.specs.Arrangement.{Arrangement, index}
use Rattle.spec.specs.declared.Field.TheVariants.{Number}

-- the marking that the first k steps of a sequence leave
unfoldable pub marking_at : Net → List (List ℕ) → ℕ → List ℕ
marking_at N steps k = marking_after N N.tokens (take k steps)

-- "An enabled step sequence starts at the initial marking, and each step is enabled at the marking that the steps
-- before it leave."  No step is empty, and each names transitions of the net.
pub record EnabledSequence (N : Net) (steps : List (List ℕ)) : Type 0 where
  pub full : (k : ℕ) → k < length steps → 0 < length (get_or steps k [])
  pub known : (k t : ℕ) → k < length steps → In t (get_or steps k []) → t < N.transitions
  pub enabled : (k : ℕ) → k < length steps → EnabledAt N (marking_at N steps k) (get_or steps k [])

-- "It keeps the order if strict predecessors stand in earlier lines and weak ones no later."
pub record KeepsOrder (R : RunRecord) (lines : List (List ℕ)) : Type 0 where
  pub each-once : Arrangement (length R.events) lines
  pub strict : (e f : ℕ) → e < length R.events → f < length R.events
      → StrictlyBefore R e f → index e lines < index f lines
  pub weak : (e f : ℕ) → e < length R.events → f < length R.events
      → NotLater R e f → index e lines ≤ index f lines

-- ---- two events over all arrangements that keep the order

-- "two different events"
pub record TwoEvents (R : RunRecord) (e f : ℕ) : Type 0 where
  pub one : e < length R.events
  pub other : f < length R.events
  pub differ : e ≢ f

-- e stands in an earlier step than f
abbrev pub StandsEarlier : ℕ → ℕ → List (List ℕ) → Type 0
StandsEarlier e f lines = index e lines < index f lines

-- "in every such arrangement", "in none", and in some: such are those that keep the order
abbrev pub InEvery : RunRecord → (List (List ℕ) → Type 0) → Type 0
InEvery R P = (lines : List (List ℕ)) → KeepsOrder R lines → P lines

abbrev pub InNone : RunRecord → (List (List ℕ) → Type 0) → Type 0
InNone R P = (lines : List (List ℕ)) → KeepsOrder R lines → ¬ P lines

abbrev pub InSome : RunRecord → (List (List ℕ) → Type 0) → Type 0
InSome R P = (lines : List (List ℕ)) × KeepsOrder R lines × P lines

-- ---- arrangements read as sequences, and sequences as arrangements

-- "Read as transitions, each line becomes a log line with its events' transitions."
unfoldable pub as_steps : RunRecord → List (List ℕ) → List (List ℕ)
as_steps R lines = map (map (transition_of R)) lines

-- "As an arrangement of that record, the sequence has on each line the events of the log line with that number.": from
-- event e on
unfoldable pub event_lines : ℕ → List (List ℕ) → List (List ℕ)
event_lines e [] = []
event_lines e (step ∷ steps) = from e (length step) ∷ event_lines (e + length step) steps

-- "Within the limits means at most 128 events in the whole sequence, and at most 512 conditions and 4,096 marks in the
-- record that Building names for it."
pub record WithinLimits (N : Net) (steps : List (List ℕ)) : Type 0 where
  pub events : length (flat steps) ≤ 128
  pub conditions : length (record_for N steps).conditions ≤ 512
  pub marks : length (record_for N steps).marks ≤ 4096

-- the text of a sequence: "`S` and one or more transitions" on each line
unfoldable pub step_line : List ℕ → List ℕ
step_line step = line_with "S" (map Number step)

unfoldable pub log_bytes : List (List ℕ) → List ℕ
log_bytes steps = flat (map step_line steps)
