-- The arcs of a net as sets of places with their weights, and what ties them to the arcs of the definitions.
use Rattle.std.specs.Prelude.{ℕ, ◌+◌, ◌-◌, ◌*◌, ◌/◌, ◌%◌, ◌^◌, ◌≤◌, ◌<◌, ◌≡◌, List, ltb, length, get_or}
use Rattle.spec.specs.Lists.{as_count}
use Rattle.spec.specs.Net.{Net, places, takes, makes, inhibits, reads}
use Rattle.spec.specs.NetText.{Weighed}
use Rattle.net.specs.NetArrays.{row_size, inputs_in, outputs_in, inhibitors_in, reads_in, Cells}
use Rattle.bit_sets.specs.Bits.{bit}

-- all words; the rows of arcs, each of one kind and one transition, and those of one kind; where the sets of the outputs, of
-- the inhibitors and of the read places start, and where the weights of all rows do
abbrev pub set_count : ℕ
set_count = 384

abbrev pub row_count : ℕ
row_count = 128

abbrev pub sets_of_kind : ℕ
sets_of_kind = 32

abbrev pub made_at : ℕ
made_at = 32

abbrev pub guards_at : ℕ
guards_at = 64

abbrev pub read_at : ℕ
read_at = 96

abbrev pub weights_at : ℕ
weights_at = 128

-- ---- weights (02, 2026-06): two words for each row, with four bits for each place. They have by how much an arc weighs more
-- than 1, so that a net without weights has only zeros there.

-- the d-th of the sixteen digits of a word, four bits each
unfoldable pub digit_at : ℕ → ℕ → ℕ
digit_at word d = (word / 2 ^ (4 * d)) % 16

-- by how much the arc of a row at place p weighs more than 1
unfoldable pub more_at : List ℕ → ℕ → ℕ → ℕ
more_at sets row p = digit_at (get_or sets (weights_at + 2 * row + p / 16) 0) (p % 16)

-- how many tokens the arc of a row at place p stands for: none where the row's set has no such place
unfoldable pub weight_at : List ℕ → ℕ → ℕ → ℕ
weight_at sets row p = bit (get_or sets row 0) p * (1 + more_at sets row p)

-- ---- the words of an array of arcs

-- the places p below m of which the array has something at row + p
pub record RowSet (arcs : List ℕ) (row m r : ℕ) : Type 0 where
  pub here : (p : ℕ) → p < m → bit r p ≡ as_count (ltb 0 (get_or arcs (row + p) 0))
  pub beyond : (p : ℕ) → m ≤ p → bit r p ≡ 0

-- no set has a place from m on
abbrev pub Within : ℕ → List ℕ → Type 0
Within m sets = (i p : ℕ) → i < row_count → m ≤ p → bit (get_or sets i 0) p ≡ 0

-- a row of arcs in words: the set of its places below m, and by how much each of them weighs more than 1
pub record RowOf (arcs : List ℕ) (m row : ℕ) (sets : List ℕ) : Type 0 where
  pub set : RowSet arcs (row_size * row) m (get_or sets row 0)
  pub weights : (p : ℕ) → p < m → 0 < get_or arcs (row_size * row + p) 0
      → more_at sets row p ≡ (get_or arcs (row_size * row + p) 0 - 1) % 16

-- nothing stands in a row
pub record BlankRow (row : ℕ) (sets : List ℕ) : Type 0 where
  pub set : get_or sets row 0 ≡ 0
  pub weights : (p : ℕ) → p < 32 → more_at sets row p ≡ 0

-- what putting a row among m places relies on
pub record Puttable (m row : ℕ) (sets : List ℕ) : Type 0 where
  pub few : m ≤ 32
  pub low : row < row_count
  pub long : length sets ≡ set_count
  pub blank : BlankRow row sets

-- a row stands as it did
pub record SameRow (row : ℕ) (old new : List ℕ) : Type 0 where
  pub set : get_or new row 0 ≡ get_or old row 0
  pub weights : (p : ℕ) → p < 32 → more_at new row p ≡ more_at old row p

-- one row is put, and every other stands as it did
pub record RowPut (arcs : List ℕ) (m row : ℕ) (old new : List ℕ) : Type 0 where
  pub long : length new ≡ length old
  pub here : RowOf arcs m row new
  pub others : (i : ℕ) → i < row_count → (i ≡ row → ⊥) → SameRow i old new

-- the rows of the first n transitions, of each kind, are those of the array
pub record SetsOf (arcs : List ℕ) (m n : ℕ) (sets : List ℕ) : Type 0 where
  pub long : length sets ≡ set_count
  pub rows : (i : ℕ) → i < row_count → i % sets_of_kind < n → RowOf arcs m i sets
  pub within : Within m sets

-- how many tokens the arc of transition t and place p stands for, among those whose sets start at `at`, else 0
unfoldable pub arc_at : List ℕ → ℕ → ℕ → ℕ → ℕ
arc_at sets at t p = weight_at sets (at + t) p

-- ---- a net

-- arrays hold the arcs of a net that has m places
pub record Arcs (N : Net) (is os hs rs : List ℕ) (m : ℕ) : Type 0 where
  pub places : m ≡ places N
  pub few : m ≤ 32
  pub weighed : Weighed N
  pub inputs : Cells is (takes N)
  pub outputs : Cells os (makes N)
  pub inhibitors : Cells hs (λ t p. as_count (inhibits N p t))
  pub reads : Cells rs (λ t p. as_count (reads N p t))

-- one array holds them all: its inputs, its outputs, its inhibitors and its read arcs, kind after kind
abbrev pub ArcsAt : Net → List ℕ → ℕ → Type 0
ArcsAt N arcs m = Arcs N (inputs_in arcs) (outputs_in arcs) (inhibitors_in arcs) (reads_in arcs) m

-- the sets that start at `at` say what f says of the net's transitions and places
abbrev pub Says : Net → ℕ → List ℕ → ℕ → (ℕ → ℕ → ℕ) → Type 0
Says N m sets at f = (t p : ℕ) → t < N.transitions → p < m → arc_at sets at t p ≡ f t p

-- the sets are those of the net's arcs
pub record HoldsArcs (N : Net) (sets : List ℕ) (m : ℕ) : Type 0 where
  pub places : m ≡ places N
  pub few : m ≤ 32
  pub long : length sets ≡ set_count
  pub inputs : Says N m sets 0 (takes N)
  pub outputs : Says N m sets made_at (makes N)
  pub inhibitors : Says N m sets guards_at (λ t p. as_count (inhibits N p t))
  pub reads : Says N m sets read_at (λ t p. as_count (reads N p t))
  pub within : Within m sets
