-- What ties the history of a run, held by arrays, to the events and conditions of the definitions.
use Rattle.std.specs.Prelude.{ℕ, ◌+◌, ◌≤◌, ◌<◌, ◌≡◌, List, [], ◌++◌, map, length, get_or}
use Rattle.spec.specs.Lists.{up_to}
use Rattle.spec.specs.Record.{Condition}
use Rattle.spec.specs.Building.{Event, initial_of, in_step}
use Rattle.arc_sets.specs.Sets.{made_at, arc_at}
use Rattle.run_counts.specs.Tally.{counts_long, counts_of_kind}
use Rattle.conditions.specs.declared.Extent.{Extent}
use Rattle.runs.specs.Flows.{flows}
use Rattle.runs.specs.Consume.{taking, made_of}
use Rattle.conditions.specs.Conditions.{conditions_in, Sized, Cursors, place_column, producer_column, consumer_column}
use Rattle.conditions.specs.Conditions.{next_at, next_column}
use Rattle.columns.specs.Columns.{column}
use Rattle.record_columns.specs.Layout.{record_bytes}

-- ---- events

-- the event with number i, by the arrays of transitions and steps
unfoldable pub event_in : List ℕ → List ℕ → ℕ → Event
event_in ts ks i = record { transition = get_or ts i 0; step = get_or ks i 0 }

-- the first n of them
unfoldable pub events_in : ℕ → List ℕ → List ℕ → List Event
events_in n ts ks = map (event_in ts ks) (up_to n)

-- the events of step k, of these transitions, were put behind the first n
pub record Added (k : ℕ) (new : List ℕ) (n : ℕ) (ts ks : List ℕ) (r : ℕ) (ts' ks' : List ℕ) : Type 0 where
  pub transitions : length ts' ≡ 128
  pub steps : length ks' ≡ 128
  pub events : events_in r ts' ks' ≡ events_in n ts ks ++ map (in_step k) new

-- the transitions of the events, as a column of a record's bytes
abbrev pub transition_column : List ℕ → List ℕ
transition_column rec = column 0 128 rec

-- by that column; nothing behind it changed
pub record AddedAt (k : ℕ) (new : List ℕ) (n : ℕ) (rec ks : List ℕ) (r : ℕ) (rec' ks' : List ℕ) : Type 0 where
  pub added : Added k new n (transition_column rec) ks r (transition_column rec') ks'
  pub long : length rec' ≡ length rec
  pub kept : (at j : ℕ) → 128 ≤ at → column at j rec' ≡ column at j rec

-- ---- histories

-- its events, with their transitions and their steps, and its conditions, with their places, producers and consumers,
-- where 128 stands for no event; of each place, no condition with a number below `next` is free
pub record History : Type 0 where
  pub events : ℕ
  pub transitions : List ℕ
  pub steps : List ℕ
  pub conditions : ℕ
  pub places : List ℕ
  pub producers : List ℕ
  pub consumers : List ℕ
  pub next : List ℕ

-- the history that columns of a record's bytes hold, with the steps of its events and the cursors of its places beside
-- them
abbrev pub history_at : (events conditions : ℕ) (rec steps next : List ℕ) → History
history_at events conditions rec steps next = record {
  events = events;
  transitions = transition_column rec;
  steps = steps;
  conditions = conditions;
  places = place_column rec;
  producers = producer_column rec;
  consumers = consumer_column rec;
  next = next;
}

unfoldable pub events_of : History → List Event
events_of h = events_in h.events h.transitions h.steps

unfoldable pub conditions_of : History → List Condition
conditions_of h = conditions_in h.conditions h.places h.producers h.consumers

-- the arrays are whole, the counts are within the limits, and the cursors are right
pub record Whole (h : History) : Type 0 where
  pub events : h.events ≤ 128
  pub conditions : h.conditions ≤ 512
  pub transitions : length h.transitions ≡ 128
  pub steps : length h.steps ≡ 128
  pub sized : Sized h.places h.producers h.consumers
  pub wide : length h.next ≡ counts_of_kind
  pub cursors : Cursors h.conditions h.places h.consumers h.next

-- the history after step k, whose transitions are ts: its events, and what they took and made by the sets of arcs
pub record Grown (k : ℕ) (ts sets : List ℕ) (h h' : History) : Type 0 where
  pub whole : Whole h'
  pub events : events_of h' ≡ events_of h ++ map (in_step k) ts
  pub conditions : conditions_of h'
      ≡ taking (flows (arc_at sets 0) 64 h.events ts) (conditions_of h)
      ++ map made_of (flows (arc_at sets made_at) 64 h.events ts)

-- the history before the first step, where the places have these tokens
pub record Starts (tokens : List ℕ) (h : History) : Type 0 where
  pub whole : Whole h
  pub events : events_of h ≡ []
  pub conditions : conditions_of h ≡ initial_of 0 tokens

-- ---- by lent arrays

-- the history of a run that has come so far
abbrev pub history_of : Extent → (rec steps counts : List ℕ) → History
history_of x rec steps counts = history_at x.events x.conditions rec steps (next_column counts)

-- what a step of so many events, which make so many conditions, relies on
pub record Growable (count made : ℕ) (x : Extent) (rec steps counts : List ℕ) : Type 0 where
  pub line : x.line < 256
  pub events : x.events + count ≤ 128
  pub conditions : x.conditions + made ≤ 512
  pub long : record_bytes ≤ length rec
  pub wide : length counts ≡ counts_long
  pub whole : Whole (history_of x rec steps counts)

-- the history grew, and of the counts by place only the cursors changed
pub record GrownAt
    (ts : List ℕ) (count : ℕ) (sets : List ℕ) (x : Extent) (rec steps counts : List ℕ)
    (r : ℕ) (rec' steps' counts' : List ℕ)
    : Type 0 where
  pub grown : Grown x.line ts sets (history_of x rec steps counts)
      (history_at (x.events + count) r rec' steps' (next_column counts'))
  pub long : length rec' ≡ length rec
  pub wide : length counts' ≡ length counts
  pub counted : (at k : ℕ) → at + k ≤ next_at → column at k counts' ≡ column at k counts
