-- Conditions held by arrays, and what it is to take and to make some of them.
use Rattle.std.specs.Prelude.{ℕ, ◌+◌, ◌≤◌, ◌<◌, ◌≡◌, Bool, true, false, ◌&&◌, cond, List, ◌++◌, map, eqb, length, get_or}
use Rattle.std.proofs.Math.Option.{Option, none, some}
use Rattle.spec.specs.Lists.{up_to}
use Rattle.spec.specs.Record.{Condition}
use Rattle.columns.specs.Columns.{column}
use Rattle.arc_sets.specs.Sets.{made_at, weight_at, arc_at}
use Rattle.run_counts.specs.Tally.{counts_long, counts_of_kind}
use Rattle.runs.specs.Flows.{Flow, flow, flows, spread}
use Rattle.runs.specs.Consume.{taking}
use Rattle.conditions.specs.declared.Extent.{Extent}
use Rattle.record_columns.specs.Layout.{record_bytes, places_at, producers_at, consumers_at, conditions_most}

-- the tokens that event e moves in the first n places, as many in each as the arc of a row weighs there
unfoldable pub tokens_of : List ℕ → ℕ → ℕ → ℕ → List Flow
tokens_of sets row e n = map (flow e) (spread (weight_at sets row) n)

-- the tokens that the next step of a run takes, and those that it makes: each with its event and its place
abbrev pub taken_next : (sets step : List ℕ) → Extent → List Flow
taken_next sets step x = flows (arc_at sets 0) 64 x.events step

abbrev pub made_next : (sets step : List ℕ) → Extent → List Flow
made_next sets step x = flows (arc_at sets made_at) 64 x.events step

-- an event's number, or 128 for none
unfoldable pub decoded : ℕ → Option ℕ
decoded v = cond (eqb v 128) none (some v)

-- the condition with number i, by the arrays of places, producers and consumers
unfoldable pub condition_in : List ℕ → List ℕ → List ℕ → ℕ → Condition
condition_in ps gs fs i = record {
  place = get_or ps i 0;
  producer = decoded (get_or gs i 0);
  consumer = decoded (get_or fs i 0);
}

-- the first n of them
unfoldable pub conditions_in : ℕ → List ℕ → List ℕ → List ℕ → List Condition
conditions_in n ps gs fs = map (condition_in ps gs fs) (up_to n)

-- condition i is one of place p that no event has taken
unfoldable pub free_at : ℕ → List ℕ → List ℕ → ℕ → Bool
free_at p ps fs i = eqb (get_or ps i 0) p && eqb (get_or fs i 0) 128

-- r is the first free condition of place p from a number on, or the end
pub record FirstFree (p start end : ℕ) (ps fs : List ℕ) (r : ℕ) : Type 0 where
  pub low : start ≤ r
  pub high : r ≤ end
  pub passed : (j : ℕ) → start ≤ j → j < r → free_at p ps fs j ≡ false
  pub free : r < end → free_at p ps fs r ≡ true

-- of each place, no condition in front of its cursor is free
pub record Cursors (n : ℕ) (ps fs nx : List ℕ) : Type 0 where
  pub within : (p : ℕ) → get_or nx p 0 ≤ n
  pub passed : (p j : ℕ) → j < get_or nx p 0 → free_at p ps fs j ≡ false

-- what a function that takes some of the first n conditions relies on
pub record Ready (n : ℕ) (ps fs nx : List ℕ) : Type 0 where
  pub few : n ≤ 512
  pub long : length fs ≡ 512
  pub wide : length nx ≡ counts_of_kind
  pub cursors : Cursors n ps fs nx

-- the tokens were taken from the first n conditions, one after the other
pub record Took (xs : List Flow) (n : ℕ) (ps fs nx fs' nx' : List ℕ) : Type 0 where
  pub ready : Ready n ps fs' nx'
  pub conditions : (gs : List ℕ) → conditions_in n ps gs fs' ≡ taking xs (conditions_in n ps gs fs)

-- a new condition of place p, with the code of its producer
unfoldable pub fresh : ℕ → ℕ → Condition
fresh v p = record { place = p; producer = decoded v; consumer = none }

-- the arrays of places, producers and consumers are whole
pub record Sized (ps gs fs : List ℕ) : Type 0 where
  pub places : length ps ≡ 512
  pub producers : length gs ≡ 512
  pub consumers : length fs ≡ 512

-- the conditions were put behind the first n, which now are r
pub record Made (cs : List Condition) (n : ℕ) (ps gs fs : List ℕ) (r : ℕ) (ps' gs' fs' : List ℕ) : Type 0 where
  pub next : r ≡ n + length cs
  pub sized : Sized ps' gs' fs'
  pub conditions : conditions_in r ps' gs' fs' ≡ conditions_in n ps gs fs ++ cs

-- ---- by columns of a record's bytes, and of the counts by place

-- the places, producers and consumers of the conditions
abbrev pub place_column : List ℕ → List ℕ
place_column rec = column places_at conditions_most rec

abbrev pub producer_column : List ℕ → List ℕ
producer_column rec = column producers_at conditions_most rec

abbrev pub consumer_column : List ℕ → List ℕ
consumer_column rec = column consumers_at conditions_most rec

-- where the cursors of the places start among the counts, and the cursors
abbrev pub next_at : ℕ
next_at = 64

abbrev pub next_column : List ℕ → List ℕ
next_column counts = column next_at counts_of_kind counts

-- what a function that takes some of the first n conditions relies on
pub record ReadyAt (n : ℕ) (rec counts : List ℕ) : Type 0 where
  pub long : record_bytes ≤ length rec
  pub wide : length counts ≡ counts_long
  pub ready : Ready n (place_column rec) (consumer_column rec) (next_column counts)

-- the tokens were taken, and nothing in front of the consumers and of the cursors changed
pub record TookAt (xs : List Flow) (n : ℕ) (rec counts rec' counts' : List ℕ) : Type 0 where
  pub took : Took xs n (place_column rec) (consumer_column rec) (next_column counts)
      (consumer_column rec') (next_column counts')
  pub long : length rec' ≡ length rec
  pub wide : length counts' ≡ length counts
  pub kept : (at k : ℕ) → at + k ≤ consumers_at → column at k rec' ≡ column at k rec
  pub counted : (at k : ℕ) → at + k ≤ next_at → column at k counts' ≡ column at k counts

-- the conditions were made, and nothing in front of their places changed
pub record MadeAt (cs : List Condition) (n : ℕ) (rec : List ℕ) (r : ℕ) (rec' : List ℕ) : Type 0 where
  pub made : Made cs n (place_column rec) (producer_column rec) (consumer_column rec) r
      (place_column rec') (producer_column rec') (consumer_column rec')
  pub long : length rec' ≡ length rec
  pub kept : (at k : ℕ) → at + k ≤ 128 → column at k rec' ≡ column at k rec
