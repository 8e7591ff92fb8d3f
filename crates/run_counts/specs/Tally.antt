-- What is counted of a run, so that its conditions and its marks are known without building them.
use Rattle.std.specs.Prelude.{ℕ, ◌+◌, ◌*◌, ◌≤◌, ◌<◌, ◌≡◌, Bool, List, eqb, length, get_or}
use Rattle.spec.specs.Lists.{up_to, count, sum_of, as_count}
use Rattle.spec.specs.Net.{Net, places, makes, inhibits}
use Rattle.spec.specs.Record.{Condition}
use Rattle.spec.specs.Building.{Event, Run}
use Rattle.columns.specs.Columns.{column}
use Rattle.bit_sets.specs.Bits.{bit}
use Rattle.arc_sets.specs.Sets.{made_at, guards_at, read_at, more_at, arc_at}
use Rattle.steps.specs.StepArrays.{step_long, over}
use Rattle.runs.specs.MarkCounts.{reads_of}

-- the condition is one of place p
unfoldable pub in_place : ℕ → Condition → Bool
in_place p c = eqb c.place p

-- place p inhibits the event
unfoldable pub watched_from : Net → ℕ → Event → Bool
watched_from N p v = inhibits N p v.transition

-- how many tokens transition t makes in places that inhibit it
unfoldable pub own_of : Net → ℕ → ℕ
own_of N t = sum_of (λ p. as_count (inhibits N p t) * makes N t p) (up_to (places N))

unfoldable pub own_all : Net → List Event → ℕ
own_all N es = sum_of (λ v. own_of N v.transition) es

-- how many places the transitions of the events read: the marks R of the run (02, 2026-01)
unfoldable pub reads_all : Net → List Event → ℕ
reads_all N es = sum_of (λ v. reads_of N v.transition) es

-- ---- by sets and arrays

-- the transitions of a step's events: as many as a step can have, each of them one of a net's
pub record StepEvents (ts : List ℕ) : Type 0 where
  pub few : length ts ≤ step_long
  pub known : (i : ℕ) → i < length ts → get_or ts i 0 < 32

-- the counts by place, of all kinds and of one kind, and where those of the events that a place inhibits start
abbrev pub counts_long : ℕ
counts_long = 96

abbrev pub counts_of_kind : ℕ
counts_of_kind = 32

abbrev pub watched_at : ℕ
watched_at = 32

-- the conditions of each place, and the events that it inhibits
abbrev pub held_column : List ℕ → List ℕ
held_column counts = column 0 counts_of_kind counts

abbrev pub watched_column : List ℕ → List ℕ
watched_column counts = column watched_at counts_of_kind counts

-- the weight of a row's arc at place p, where a set has p
unfoldable pub weighed : List ℕ → ℕ → ℕ → ℕ → ℕ
weighed sets row set p = bit set p * (1 + more_at sets row p)

-- how many tokens the arcs of transition t stand for, by the rows that start at `at`
unfoldable pub size_of : List ℕ → ℕ → ℕ → ℕ
size_of sets at t = sum_of (arc_at sets at t) (up_to 64)

-- how many tokens it makes in places that inhibit it
unfoldable pub both_of : List ℕ → ℕ → ℕ
both_of sets t = sum_of (λ p. bit (get_or sets (guards_at + t) 0) p * arc_at sets made_at t p) (up_to 64)

-- what is counted of a run: of each place its conditions and the events that it inhibits; how often an event made a
-- condition in a place that inhibits it, and how many places the events read
pub record Tally : Type 0 where
  pub held : List ℕ
  pub watched : List ℕ
  pub own : ℕ
  pub reads : ℕ

-- by columns of the counts
abbrev pub tally_at : (own reads : ℕ) → List ℕ → Tally
tally_at own reads counts = record { held = held_column counts; watched = watched_column counts; own = own; reads = reads }

-- the entries of two arrays at p, multiplied
unfoldable pub times_at : List ℕ → List ℕ → ℕ → ℕ
times_at xs ys p = get_or xs p 0 * get_or ys p 0

-- each of the first n entries is at most b
abbrev pub AtMost : ℕ → ℕ → List ℕ → Type 0
AtMost b n xs = (p : ℕ) → p < n → get_or xs p 0 ≤ b

-- Of each of the first m places, the conditions and the events that it inhibits are few enough to be multiplied: at most 512
-- of a run, and what a step adds to one place, 128 · 16, before it is refused for too many.
abbrev pub Countable : ℕ → List ℕ → Type 0
Countable m counts = (m ≤ 32) × AtMost 2560 m (held_column counts) × AtMost 2560 m (watched_column counts)

-- in the first m places, the conditions times the events that the place inhibits
abbrev pub products_of : List ℕ → ℕ → ℕ
products_of counts m = sum_of (times_at (held_column counts) (watched_column counts)) (up_to m)

-- What adding to a tally relies on, so that its counts stay below 2 ^ 32. A run has at most 512 conditions and 128 events,
-- each of which reads at most 32 places; and what its events made in places that inhibit them is part of what the places
-- have of marks, 32 · 512 · 128, with the marks R. A step adds at most 128 · 16 to a place's conditions, and 128 · 32 · 16
-- to a number of all places.
pub record Small (m : ℕ) (t : Tally) : Type 0 where
  pub few : m ≤ 32
  pub long_held : length t.held ≡ counts_of_kind
  pub long_watched : length t.watched ≡ counts_of_kind
  pub held : AtMost 512 m t.held
  pub watched : AtMost 128 m t.watched
  pub own : t.own ≤ 2101248
  pub reads : t.reads ≤ 4096

-- the tally after a step whose transitions are ts
pub record Tallies (sets : List ℕ) (m : ℕ) (ts : List ℕ) (t t' : Tally) : Type 0 where
  pub long_held : length t'.held ≡ counts_of_kind
  pub long_watched : length t'.watched ≡ counts_of_kind
  pub held : (p : ℕ) → p < m → get_or t'.held p 0 ≡ get_or t.held p 0 + over (arc_at sets made_at) ts p
  pub watched : (p : ℕ) → p < m → get_or t'.watched p 0 ≡ get_or t.watched p 0 + over (arc_at sets guards_at) ts p
  pub own : t'.own ≡ t.own + sum_of (both_of sets) ts
  pub reads : t'.reads ≡ t.reads + sum_of (size_of sets read_at) ts

-- ---- the tally of a run

pub record Tallied (N : Net) (r : Run) (t : Tally) : Type 0 where
  pub long_held : length t.held ≡ counts_of_kind
  pub long_watched : length t.watched ≡ counts_of_kind
  pub held : (p : ℕ) → p < places N → get_or t.held p 0 ≡ count (in_place p) r.conditions
  pub watched : (p : ℕ) → p < places N → get_or t.watched p 0 ≡ count (watched_from N p) r.events
  pub own : t.own ≡ own_all N r.events
  pub reads : t.reads ≡ reads_all N r.events
