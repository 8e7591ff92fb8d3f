-- The markings after each line, in rows of 32 counts, as the code's arrays have them.
use Rattle.std.specs.Prelude.{ℕ, ◌+◌, ◌-◌, ◌*◌, ◌≤◌, ◌<◌, ◌≡◌, cond, List, map, length, get_or, replicate, take, ltb}
use Rattle.spec.specs.Lists.{In, sum_of, flat}
use Rattle.lists.specs.Mapped.{Mapped}
use Rattle.arrangement_reader.specs.Lined.{Ordered}
use Rattle.net.specs.NetArrays.{arc_count, outputs_at}
use Rattle.marking_rows.specs.declared.PlaceSums.{PlaceSums}

-- the counts of a row and of all rows; the array of lines
abbrev pub row_size : ℕ
row_size = 32

abbrev pub row_counts : ℕ
row_counts = 4128

abbrev pub lined_size : ℕ
lined_size = 257

-- the transitions of events
unfoldable pub transitions_of : List ℕ → List ℕ → List ℕ
transitions_of trans es = map (λ e. get_or trans e 0) es

-- what an array of arcs has for transition t and place p, where those of one kind start at a place of it
unfoldable pub arc_at : List ℕ → ℕ → ℕ → ℕ → ℕ
arc_at arcs kind t p = get_or arcs (kind + row_size * t + p) 0

-- the count of a place after events with these transitions, and 0 beyond the places
unfoldable pub row_in : ℕ → List ℕ → List ℕ → List ℕ → ℕ → ℕ
row_in places tokens arcs ts p =
    cond (ltb p places)
    (get_or tokens p 0 + sum_of (λ t. arc_at arcs outputs_at t p) ts - sum_of (λ t. arc_at arcs 0 t p) ts) 0

-- ---- sums by place

-- So small are those of m events, since an arc stands in a byte: 33,152 of 128 events, which 16 bits hold. An arc weighs 16 at
-- most (02, 2026-06), so that no sum is more than 2,560; and what is left in a place is at most the 512 conditions of a record.
abbrev pub Small : List ℕ → ℕ → Type 0
Small xs m = (p : ℕ) → p < row_size → get_or xs p 0 ≤ 512 + 255 * m

pub record Room (sums : PlaceSums) (m : ℕ) : Type 0 where
  pub had : Small sums.had m
  pub taken : Small sums.taken m

-- what stands in the array of arcs from a place on is added to the sums
unfoldable pub added : List ℕ → List ℕ → ℕ → ℕ → ℕ
added sums arcs start p = get_or sums p 0 + get_or arcs (start + p) 0

-- what adding arcs relies on: they are inside their array and of places of a row, and each sum has room for a byte
pub record Addable (sums : List ℕ) (start places : ℕ) : Type 0 where
  pub sums-inside : places ≤ row_size
  pub arcs-inside : start + places ≤ arc_count
  pub low : (p : ℕ) → p < row_size → get_or sums p 0 ≤ 65280

pub record AddsArcs (old arcs : List ℕ) (start places : ℕ) (new : List ℕ) : Type 0 where
  pub mapped : Mapped old places (added old arcs start) new
  pub bytes : (p : ℕ) → p < places → get_or arcs (start + p) 0 ≤ 255

-- what the places had before the first event, and nothing was taken
pub record Begun (tokens : List ℕ) (places : ℕ) (sums : PlaceSums) : Type 0 where
  pub had : Mapped (replicate row_size 0) places (λ p. get_or tokens p 0) sums.had
  pub taken : sums.taken ≡ replicate row_size 0

-- the sums of events with these transitions
pub record Played (places : ℕ) (tokens arcs ts : List ℕ) (sums : PlaceSums) : Type 0 where
  pub had : (p : ℕ) → p < places → get_or sums.had p 0 ≡ get_or tokens p 0 + sum_of (λ t. arc_at arcs outputs_at t p) ts
  pub none : (p : ℕ) → places ≤ p → p < row_size → get_or sums.had p 0 ≡ 0
  pub taken : (p : ℕ) → p < places → get_or sums.taken p 0 ≡ sum_of (λ t. arc_at arcs 0 t p) ts

-- what playing the events from one place of an array up to another relies on: the sums have room for all before them,
-- and their transitions are rows of the array of arcs
pub record Playing (sums : PlaceSums) (places : ℕ) (trans lined : List ℕ) (from to : ℕ) : Type 0 where
  pub few : places ≤ row_size
  pub order : from ≤ to
  pub most : to ≤ 128
  pub room : Room sums from
  pub events-long : length lined ≡ lined_size
  pub known : (i : ℕ) → i < to → (get_or lined i 0 < 128) × (get_or trans (get_or lined i 0) 0 < 32)

-- the events from one place of an array up to another have been played
pub record Plays (places : ℕ) (arcs trans lined : List ℕ) (from to : ℕ) (old new : PlaceSums) : Type 0 where
  pub room : Room new to
  pub played : (tokens : List ℕ) → Played places tokens arcs (transitions_of trans (take from lined)) old
      → Played places tokens arcs (transitions_of trans (take to lined)) new

-- ---- the rows

-- what is left where so much was had and so much was taken
unfoldable pub left_of : PlaceSums → ℕ → ℕ
left_of sums p = get_or sums.had p 0 - get_or sums.taken p 0

-- what the code relies on: lines of few events in an array, whose transitions are rows of the array of arcs
pub record Playable (ps : ℕ) (ks trans lined : List ℕ) (m : ℕ) : Type 0 where
  pub places : ps ≤ row_size
  pub tokens : (p : ℕ) → get_or ks p 0 ≤ 512
  pub groups : List (List ℕ)
  pub ordered : Ordered groups lined
  pub lines : m ≡ length groups
  pub few : length groups ≤ 128
  pub events : length (flat groups) ≤ 128
  pub known : (e : ℕ) → In e (flat groups) → (e < 128) × (get_or trans e 0 < 32)

-- row k is the marking after k of the lines; what is beyond is 0, and what is behind the rows is as it was
pub record Rows (places : ℕ) (tokens arcs trans : List ℕ) (gs : List (List ℕ)) (old new : List ℕ) : Type 0 where
  pub long : length new ≡ length old
  pub row : (k p : ℕ) → k ≤ length gs → p < row_size
      → get_or new (row_size * k + p) 0 ≡ row_in places tokens arcs (transitions_of trans (flat (take k gs))) p
  pub zero : (i : ℕ) → row_size * length gs + row_size ≤ i → i < row_counts → get_or new i 0 ≡ 0
  pub beyond : (i : ℕ) → row_counts ≤ i → get_or new i 0 ≡ get_or old i 0

abbrev pub PutsRows : ℕ → List ℕ → List ℕ → List ℕ → List ℕ → ℕ → List ℕ → List ℕ → Type 0
PutsRows places tokens arcs trans lined lines old new =
    (gs : List (List ℕ)) → Ordered gs lined → lines ≡ length gs → Rows places tokens arcs trans gs old new
