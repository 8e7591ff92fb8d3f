-- Sets of conditions in rows of eight words.
use Rattle.std.specs.Prelude.{ℕ, ◌+◌, ◌*◌, ◌/◌, ◌%◌, ◌≤◌, ◌<◌, ◌≡◌, List, length, get_or}
use Rattle.std.specs.Int.Bits.{bit_or}
use Rattle.lists.specs.Stretch.{MappedFrom}
use Rattle.bit_sets.specs.Bits.{bit}
use Rattle.arc_sets.specs.Sets.{guards_at}
use Rattle.record_columns.specs.Layout.{conditions_most, record_bytes, places_at}

-- the words of the sets by place or by transition; those of one set, and the conditions of a word; and the transitions
-- whose sets can be known
abbrev pub sets_size : ℕ
sets_size = 256

abbrev pub set_words : ℕ
set_words = 8

abbrev pub word_bits : ℕ
word_bits = 64

abbrev pub known_size : ℕ
known_size = 32

-- 1 if condition c is in the set of row r, else 0
unfoldable pub bit_at : List ℕ → ℕ → ℕ → ℕ
bit_at sets r c = bit (get_or sets (set_words * r + c / word_bits) 0) (c % word_bits)

-- row r has no condition
abbrev pub EmptyRow : List ℕ → ℕ → Type 0
EmptyRow sets r = (c : ℕ) → c < conditions_most → bit_at sets r c ≡ 0

-- what row p of some sets has joins row t of others
abbrev pub JoinsRow : List ℕ → ℕ → List ℕ → ℕ → List ℕ → Type 0
JoinsRow old t sets p new =
    MappedFrom old (set_words * t) set_words
    (λ w. bit_or (get_or old (set_words * t + w) 0) (get_or sets (set_words * p + w) 0)) new

-- b is 1 exactly where P holds
pub record Tells (b : ℕ) (P : Type 0) : Type 0 where
  pub holds : P → b ≡ 1
  pub says : b ≡ 1 → P

-- what entering the first n conditions relies on: they stand in places of the net, and the sets are empty
pub record Placeable (rec : List ℕ) (n : ℕ) (sets : List ℕ) : Type 0 where
  pub few : n ≤ conditions_most
  pub long : record_bytes ≤ length rec
  pub place : (c : ℕ) → c < n → get_or rec (places_at + c) 0 < 32
  pub sets-long : length sets ≡ sets_size
  pub zero : (i : ℕ) → get_or sets i 0 ≡ 0

-- the set of each place is those of the first n conditions that stand in it
pub record Placed (rec : List ℕ) (n : ℕ) (sets : List ℕ) : Type 0 where
  pub tells : (p c : ℕ) → p < 32 → c < conditions_most
      → Tells (bit_at sets p c) ((c < n) × (get_or rec (places_at + c) 0 ≡ p))

-- the bits of a word that has a bit for each place; and only places of a net have one in it
abbrev pub whole_word : ℕ
whole_word = 64

abbrev pub InPlaces : ℕ → Type 0
InPlaces set = (p : ℕ) → 32 ≤ p → bit set p ≡ 0

-- condition c is in the set of one of the first n places of those that inhibit a transition
abbrev pub Watched : ℕ → List ℕ → ℕ → ℕ → Type 0
Watched guards sets n c = (p : ℕ) × (p < n) × (bit guards p ≡ 1) × (bit_at sets p c ≡ 1)

-- the set of transition t is the conditions of the first n places of those that inhibit it
pub record WatchedBy (guards : ℕ) (sets : List ℕ) (t n : ℕ) (watched : List ℕ) : Type 0 where
  pub tells : (c : ℕ) → c < conditions_most → Tells (bit_at watched t c) (Watched guards sets n c)

-- the sets of the other rows are as they were
pub record OthersKept (t : ℕ) (old new : List ℕ) : Type 0 where
  pub long : length new ≡ length old
  pub kept : (r c : ℕ) → (r ≡ t → ⊥) → c < conditions_most → bit_at new r c ≡ bit_at old r c

-- the set of transition t is as the first n places make it, and the sets of the other rows are as they were
abbrev pub Watches : ℕ → List ℕ → ℕ → ℕ → List ℕ → List ℕ → Type 0
Watches guards sets t n old new = WatchedBy guards sets t n new × OthersKept t old new

-- the places that inhibit transition t, among the sets of a net's arcs
abbrev pub guards_of : List ℕ → ℕ → ℕ
guards_of arcs t = get_or arcs (guards_at + t) 0

-- each row that is known is the set of its transition, and the others are empty
pub record Ready (arcs sets known watched : List ℕ) : Type 0 where
  pub wide : length known ≡ known_size
  pub long : length watched ≡ sets_size
  pub tells : (t c : ℕ) → t < known_size → c < conditions_most
      → Tells (bit_at watched t c) ((get_or known t 0 ≡ 0 → ⊥) × Watched (guards_of arcs t) sets whole_word c)
