-- What ties the arrays of a step and of a marking to those of the definitions.
use Rattle.std.specs.Prelude.{ℕ, ◌+◌, ◌-◌, ◌≤◌, ◌<◌, ◌≡◌, Bool, true, false, not, List, length, get_or, take, ltb}
use Rattle.spec.specs.Lists.{any, sum_of, up_to}
use Rattle.bit_sets.specs.Bits.{bit}
use Rattle.arc_sets.specs.Sets.{made_at, read_at, arc_at, Within}

-- the events that the array of a step has room for, and the places of the array of a marking
abbrev pub step_long : ℕ
step_long = 128

abbrev pub marking_long : ℕ
marking_long = 32

-- ---- a step

-- A step is an array of transitions, of which the first `count` are its events'.
pub record IsStep (xs : List ℕ) (count : ℕ) : Type 0 where
  pub long : length xs ≡ step_long
  pub few : count ≤ step_long
  pub known : (i : ℕ) → i < count → get_or xs i 0 < 32

-- the events' transitions are those of a step of the definitions
pub record HoldsStep (xs : List ℕ) (count : ℕ) (ts : List ℕ) : Type 0 where
  pub step : IsStep xs count
  pub events : take count xs ≡ ts

-- over a step's events, the sum of what f says of each event's transition and place p
abbrev pub over : (ℕ → ℕ → ℕ) → List ℕ → ℕ → ℕ
over f ts p = sum_of (λ t. f t p) ts

-- ---- by the places of a row of arcs, of which w says how many tokens each stands for

-- what an entry is below before the events of a step are added to it: there are 128 of them at most, each adds 16 tokens at
-- most, and an entry is below 2 ^ 32
abbrev pub roomy_count : ℕ
roomy_count = 4294965248

-- each place that weighs something is one of the array, and its entry can grow by as much
abbrev pub Addable : ℕ → (ℕ → ℕ) → List ℕ → Type 0
Addable from w xs =
    (p : ℕ) → 0 < w p → (p < marking_long) × (from + p < length xs) × (get_or xs (from + p) 0 + w p ≤ 4294967295)

-- what the first n places weigh is added to the entries from a position on
pub record AddedTo (from : ℕ) (w : ℕ → ℕ) (n : ℕ) (old new : List ℕ) : Type 0 where
  pub long : length new ≡ length old
  pub before : (i : ℕ) → i < from → get_or new i 0 ≡ get_or old i 0
  pub here : (i : ℕ) → i < n → get_or new (from + i) 0 ≡ get_or old (from + i) 0 + w i
  pub beyond : (i : ℕ) → n ≤ i → get_or new (from + i) 0 ≡ get_or old (from + i) 0

-- what all weigh is
pub record AddedRow (from : ℕ) (w : ℕ → ℕ) (old new : List ℕ) : Type 0 where
  pub long : length new ≡ length old
  pub before : (i : ℕ) → i < from → get_or new i 0 ≡ get_or old i 0
  pub here : (i : ℕ) → get_or new (from + i) 0 ≡ get_or old (from + i) 0 + w i

-- what summing the rows of a step's events relies on
pub record Summable (at from : ℕ) (sets xs : List ℕ) : Type 0 where
  pub kind : at ≤ read_at
  pub places : ℕ
  pub few : places ≤ 32
  pub within : Within places sets
  pub long : from + marking_long ≤ length xs
  pub low : (p : ℕ) → p < places → get_or xs (from + p) 0 < roomy_count

-- by place, what f says of the step's events is added to the entries from a position on
pub record Summed (f : ℕ → ℕ → ℕ) (ts : List ℕ) (from : ℕ) (old new : List ℕ) : Type 0 where
  pub long : length new ≡ length old
  pub before : (i : ℕ) → i < from → get_or new i 0 ≡ get_or old i 0
  pub here : (p : ℕ) → p < marking_long → get_or new (from + p) 0 ≡ get_or old (from + p) 0 + over f ts p
  pub beyond : (i : ℕ) → from + marking_long ≤ i → get_or new i 0 ≡ get_or old i 0

-- each place that weighs something has an entry that can be lessened by as much
abbrev pub Payable : (ℕ → ℕ) → List ℕ → Type 0
Payable w xs = (p : ℕ) → 0 < w p → (p < marking_long) × (w p ≤ get_or xs p 0)

-- what the places weigh is taken
pub record TakenRow (w : ℕ → ℕ) (old new : List ℕ) : Type 0 where
  pub long : length new ≡ length old
  pub here : (i : ℕ) → get_or new i 0 ≡ get_or old i 0 - w i

-- the step's events are paid
pub record Paid (f : ℕ → ℕ → ℕ) (ts old new : List ℕ) : Type 0 where
  pub long : length new ≡ length old
  pub here : (p : ℕ) → get_or new p 0 ≡ get_or old p 0 - over f ts p

-- a set has no place that is none
abbrev pub Within32 : ℕ → Type 0
Within32 set = (p : ℕ) → 32 ≤ p → bit set p ≡ 0

-- a set has the places of which f says something of some event
pub record Joined (f : ℕ → ℕ → ℕ) (ts : List ℕ) (set : ℕ) : Type 0 where
  pub none : (p : ℕ) → bit set p ≡ 0 → over f ts p ≡ 0
  pub some : (p : ℕ) → bit set p ≡ 1 → 0 < over f ts p

-- ---- a marking

-- an array has the token counts of a marking of n places, and 0 beyond
pub record HoldsMarking (n : ℕ) (xs m : List ℕ) : Type 0 where
  pub long : length xs ≡ marking_long
  pub few : n ≤ 32
  pub places : length m ≡ n
  pub tokens : (p : ℕ) → get_or xs p 0 ≡ get_or m p 0

-- some place has fewer tokens than are taken from it
unfoldable pub falls : List ℕ → List ℕ → ℕ → Bool
falls xs taken places = any (λ p. ltb (get_or xs p 0) (get_or taken p 0)) (up_to places)

-- there are tokens, or there is none, as is asked
unfoldable pub is_filled : Bool → ℕ → Bool
is_filled true v = ltb 0 v
is_filled false v = not (ltb 0 v)

-- whether some place of a set is so
pub record SomePlace (xs : List ℕ) (set : ℕ) (filled r : Bool) : Type 0 where
  pub none : r ≡ false → (p : ℕ) → bit set p ≡ 1 → is_filled filled (get_or xs p 0) ≡ false
  pub found : r ≡ true → (p : ℕ) × (bit set p ≡ 1) × (is_filled filled (get_or xs p 0) ≡ true)

-- what playing a step relies on: enough tokens are there, and those made fit
pub record Playable (sets ts xs : List ℕ) : Type 0 where
  pub long : length xs ≡ marking_long
  pub within : Within 32 sets
  pub enough : (p : ℕ) → over (arc_at sets 0) ts p ≤ get_or xs p 0
  pub fits : (p : ℕ) → p < marking_long → get_or xs p 0 < roomy_count

-- the tokens of each place, once those taken are gone and those made are there
pub record MovedBy (sets ts old new : List ℕ) : Type 0 where
  pub long : length new ≡ length old
  pub here : (p : ℕ) → p < marking_long
      → get_or new p 0 ≡ get_or old p 0 - over (arc_at sets 0) ts p + over (arc_at sets made_at) ts p
