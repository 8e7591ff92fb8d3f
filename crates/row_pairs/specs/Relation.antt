-- The pairs of a record as a relation with the values 0, 1, 2, from its bytes and words, and what raising entries of
-- the rows leaves behind.
use Rattle.std.specs.Prelude.{◌≡◌, ℕ, ◌+◌, ◌-◌, ◌*◌, ◌<◌, min, max, ◌&&◌, cond, List, length, get_or, eqb}
use Rattle.order.specs.Below.{max_below}
use Rattle.reach.specs.Rows.{cell_of, Good}
use Rattle.spec.specs.Record.{guard_slot, read_slot}
use Rattle.record_columns.specs.Layout.{events_most, producers_at, consumers_at, mark_row}
use Rattle.record_columns.specs.declared.Counts.{Counts}

-- v for e and f, else 0
unfoldable pub pair_in : ℕ → ℕ → ℕ → ℕ → ℕ → ℕ
pair_in e f v i j = cond (eqb e i && eqb f j) v 0

-- condition c: producer to consumer is strict
unfoldable pub condition_pair_in : List ℕ → ℕ → ℕ → ℕ → ℕ
condition_pair_in rec c i j = pair_in (get_or rec (producers_at + c) 0) (get_or rec (consumers_at + c) 0) 2 i j

-- a weak pair of each event of a set and f, and a strict pair of f and each event of a set
unfoldable pub befores_in : ℕ → (ℕ → ℕ) → ℕ → ℕ → ℕ
befores_in f b i j = cond (eqb f j) (b i) 0

unfoldable pub afters_in : ℕ → (ℕ → ℕ) → ℕ → ℕ → ℕ
afters_in f a i j = cond (eqb f i) (2 * a j) 0

-- both
unfoldable pub sides_in : ℕ → (ℕ → ℕ) → ℕ → (ℕ → ℕ) → ℕ → ℕ → ℕ
sides_in f a g b i j = max (afters_in f a i j) (befores_in g b i j)

-- what a mark's number says: A is 2 and B is 1, in the one slot, and R is 1 in the other
abbrev pub after : ℕ → ℕ
after v = v - 1

abbrev pub before : ℕ → ℕ
before v = min v (2 - v)

abbrev pub reader : ℕ → ℕ
reader v = min v 1

-- the marks B and A at condition c: under B the event to the producer is weak, under A the consumer to the event is
-- strict
unfoldable pub guard_pair_in : List ℕ → List ℕ → ℕ → ℕ → ℕ → ℕ
guard_pair_in rec words c =
    sides_in (get_or rec (consumers_at + c) 0) (λ e. after (cell_of words (mark_row c guard_slot) e))
    (get_or rec (producers_at + c) 0) (λ e. before (cell_of words (mark_row c guard_slot) e))

-- the marks R at condition c: the producer to the event is strict, the event to the consumer is weak (2026-01)
unfoldable pub read_pair_in : List ℕ → List ℕ → ℕ → ℕ → ℕ → ℕ
read_pair_in rec words c =
    sides_in (get_or rec (producers_at + c) 0) (λ e. reader (cell_of words (mark_row c read_slot) e))
    (get_or rec (consumers_at + c) 0) (λ e. reader (cell_of words (mark_row c read_slot) e))

-- all marks at condition c
unfoldable pub mark_pair_in : List ℕ → List ℕ → ℕ → ℕ → ℕ → ℕ
mark_pair_in rec words c i j = max (guard_pair_in rec words c i j) (read_pair_in rec words c i j)

-- the greatest that the first n say
unfoldable pub overall : (ℕ → ℕ → ℕ → ℕ) → ℕ → ℕ → ℕ → ℕ
overall v n i j = max_below n (λ k. v k i j)

-- all pairs
unfoldable pub relation_in : Counts → List ℕ → List ℕ → ℕ → ℕ → ℕ
relation_in s rec words i j =
    max (overall (condition_pair_in rec) s.conditions i j) (overall (mark_pair_in rec words) s.conditions i j)

-- ---- the rows

-- each entry is at least what v says of it
pub record Raised (old : List ℕ) (v : ℕ → ℕ → ℕ) (new : List ℕ) : Type 0 where
  pub long : length new ≡ length old
  pub good : Good old → Good new
  pub cell : (i j : ℕ) → i < events_most → j < events_most → cell_of new i j ≡ max (cell_of old i j) (v i j)

-- the rows are the relation
pub record Filled (old : List ℕ) (v : ℕ → ℕ → ℕ) (new : List ℕ) : Type 0 where
  pub long : length new ≡ length old
  pub good : Good old → Good new
  pub cell : (i j : ℕ) → i < events_most → j < events_most → cell_of new i j ≡ v i j
