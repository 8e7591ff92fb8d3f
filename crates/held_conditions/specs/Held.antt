-- When a condition held, by the bytes of a record and the steps of its events; and the conditions that an event reads.
use Rattle.std.specs.Prelude.{ℕ, ◌+◌, ◌≤◌, ◌<◌, max, ◌≡◌, Bool, true, false, not, ◌&&◌, ◌||◌, List, eqb, ltb, length, get_or}
use Rattle.std.proofs.Math.Option.{Option}
use Rattle.spec.specs.Lists.{lowest, as_count}
use Rattle.spec.specs.Record.{names}
use Rattle.bit_sets.specs.Bits.{bit}
use Rattle.record_columns.specs.Layout.{conditions_most, record_bytes, places_at, producers_at, consumers_at, no_event}
use Rattle.condition_sets.specs.Sets.{set_words, bit_at}

-- ---- by the bytes of a record

abbrev pub place_in : List ℕ → ℕ → ℕ
place_in rec c = get_or rec (places_at + c) 0

abbrev pub producer_in : List ℕ → ℕ → ℕ
producer_in rec c = get_or rec (producers_at + c) 0

abbrev pub consumer_in : List ℕ → ℕ → ℕ
consumer_in rec c = get_or rec (consumers_at + c) 0

-- the producers and the consumers of the first n conditions are events, or none
pub record Coded (rec : List ℕ) (n : ℕ) : Type 0 where
  pub producer : (c : ℕ) → c < n → producer_in rec c ≤ no_event
  pub consumer : (c : ℕ) → c < n → consumer_in rec c ≤ no_event

-- the producer or consumer f is an event of an earlier step than e
unfoldable pub earlier_at : List ℕ → ℕ → ℕ → Bool
earlier_at ks e f = not (eqb f no_event) && ltb (get_or ks f 0) (get_or ks e 0)

-- condition c is of place p and was not consumed in an earlier step than that of event e
unfoldable pub left_at : List ℕ → List ℕ → ℕ → ℕ → ℕ → Bool
left_at rec ks p e c = eqb (place_in rec c) p && not (earlier_at ks e (consumer_in rec c))

-- it held when that step began
unfoldable pub held_at : List ℕ → List ℕ → ℕ → ℕ → ℕ → Bool
held_at rec ks p e c = (eqb (producer_in rec c) no_event || earlier_at ks e (producer_in rec c)) && left_at rec ks p e c

-- the lowest-numbered one of the first n
unfoldable pub lowest_at : List ℕ → List ℕ → ℕ → ℕ → ℕ → Option ℕ
lowest_at rec ks p e n = lowest (held_at rec ks p e) n

-- event e reads condition c, one of the first n, where its transition reads the places of a set
unfoldable pub reads_condition : List ℕ → List ℕ → ℕ → ℕ → ℕ → ℕ → Bool
reads_condition rec ks places e n c = eqb (bit places (place_in rec c)) 1 && names (lowest_at rec ks (place_in rec c) e n) c

-- ---- what the functions promise

-- r is the first number from `start` on that passes the test, or n
pub record FirstOf (q : ℕ → Bool) (start n r : ℕ) : Type 0 where
  pub from : start ≤ r
  pub to : r ≤ n
  pub none : (c : ℕ) → start ≤ c → c < r → q c ≡ false
  pub found : r < n → q r ≡ true

-- of each place, no condition before a number is left
pub record Passed (rec ks : List ℕ) (e n : ℕ) (nexts : List ℕ) : Type 0 where
  pub wide : length nexts ≡ 32
  pub low : (p : ℕ) → p < 32 → get_or nexts p 0 ≤ n
  pub past : (p c : ℕ) → p < 32 → c < get_or nexts p 0 → left_at rec ks p e c ≡ false

-- what reading relies on
pub record Readable (rec : List ℕ) (e n : ℕ) : Type 0 where
  pub event : e < 128
  pub few : n ≤ conditions_most
  pub long : record_bytes ≤ length rec
  pub coded : Coded rec n

-- a condition joined a set
pub record Joins (c : ℕ) (old new : List ℕ) : Type 0 where
  pub long : length new ≡ length old
  pub here : bit_at new 0 c ≡ 1
  pub other : (d : ℕ) → (d ≡ c → ⊥) → d < conditions_most → bit_at new 0 d ≡ bit_at old 0 d

-- the condition of place p that event e reads, if there is one, joined a set
pub record ReadsPlace (rec ks : List ℕ) (p e n : ℕ) (old new : List ℕ) : Type 0 where
  pub long : length new ≡ length old
  pub bits : (c : ℕ) → c < conditions_most → bit_at new 0 c ≡ max (bit_at old 0 c) (as_count (names (lowest_at rec ks p e n) c))

-- the set of the conditions that event e reads
pub record ReadsOf (rec ks : List ℕ) (places e n : ℕ) (reads : List ℕ) : Type 0 where
  pub long : length reads ≡ set_words
  pub bits : (c : ℕ) → c < conditions_most → bit_at reads 0 c ≡ as_count (reads_condition rec ks places e n c)
