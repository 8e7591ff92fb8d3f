-- The lines of events and conditions, by the bytes of a record.
use Rattle.std.specs.Prelude.{ℕ, ◌≤◌, ◌<◌, List, map, length, get_or}
use Rattle.record_columns.specs.Layout.{events_most, conditions_most, record_bytes}
use Rattle.record_columns.specs.declared.Counts.{Counts}
use Rattle.spec.specs.Lists.{up_to, flat}
use Rattle.spec.specs.Record.{event_line}
use Rattle.line_writer.specs.Lines.{coded_line}
use Rattle.held_conditions.specs.Held.{place_in, producer_in, consumer_in, Coded}

-- what f gives for each number below n, one after the other
unfoldable pub joined_to : (ℕ → List ℕ) → ℕ → List ℕ
joined_to f n = flat (map f (up_to n))

-- the line of event e, and that of condition c
abbrev pub event_bytes : List ℕ → ℕ → List ℕ
event_bytes rec e = event_line (get_or rec e 0)

abbrev pub condition_bytes : List ℕ → ℕ → List ℕ
condition_bytes rec c = coded_line (place_in rec c) (producer_in rec c) (consumer_in rec c)

-- the lines of the first n events, and of the first n conditions
abbrev pub event_lines : List ℕ → ℕ → List ℕ
event_lines rec n = joined_to (event_bytes rec) n

abbrev pub condition_lines : List ℕ → ℕ → List ℕ
condition_lines rec n = joined_to (condition_bytes rec) n

-- a run whose numbers can be written, and whose events follow its steps
pub record Writable (s : Counts) (rec ks : List ℕ) : Type 0 where
  pub events : s.events ≤ events_most
  pub conditions : s.conditions ≤ conditions_most
  pub long : record_bytes ≤ length rec
  pub low : (e : ℕ) → e < s.events → get_or rec e 0 < 32
  pub place : (c : ℕ) → c < s.conditions → place_in rec c < 32
  pub coded : Coded rec s.conditions
  pub ascend : (e f : ℕ) → e ≤ f → f < s.events → get_or ks e 0 ≤ get_or ks f 0
