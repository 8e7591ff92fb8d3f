-- The lines of an arrangement so far, as the code keeps them, and a record's closed order in rows of bits.
use Rattle.std.specs.Prelude.{ℕ, suc, ◌+◌, ◌≤◌, ◌<◌, max, ◌≡◌, ◌≢◌, Bool, true, false, ◌&&◌, cond, List, [], ◌∷◌, ◌++◌, length, get_or, take, ltb, leb, Option, Some, None, IfSome}
use Rattle.spec.specs.Lists.{In, flat, is_in}
use Rattle.spec.specs.Record.{RunRecord}
use Rattle.spec.specs.Order.{is_strictly_before, is_not_later}
use Rattle.spec.specs.Replaying.{repeats, breaks}
use Rattle.bit_sets.specs.Sets.{has}
use Rattle.bit_sets.specs.declared.Set.{Set}
use Rattle.reach.specs.Rows.{cell_of, row_of}
use Rattle.arrangement_reader.specs.declared.Group.{Group}

-- the events that there can be: so many have a line in an array, and so many numbers of a line are kept
abbrev pub event_count : ℕ
event_count = 128

-- the array of lines; where it starts to say how many events the first lines have, and where it does so one line back
abbrev pub lined_size : ℕ
lined_size = 257

abbrev pub ends_at : ℕ
ends_at = 128

abbrev pub ends_before : ℕ
ends_before = 127

-- ---- the closed order

-- the rows have at least 2 where an event is strictly before another, and 1 where it is only not later
pub record TellsOrder (n : ℕ) (t : List ℕ) (R : RunRecord) : Type 0 where
  pub events : n ≡ length R.events
  pub strict : (d e : ℕ) → d < n → e < n → leb 2 (cell_of t d e) ≡ is_strictly_before R d e
  pub weak : (d e : ℕ) → d < n → e < n → d ≢ e → ltb 0 (cell_of t d e) ≡ is_not_later R d e

-- ---- the lines

-- An array has of each event the number, from 1, of its line, and 0 where it has not come: those in the lines before
-- line k are `done`, those in line k so far are `now`.
pub record Stands (k : ℕ) (xs done now : List ℕ) : Type 0 where
  pub long : length xs ≡ event_count
  pub most : (e : ℕ) → e < event_count → get_or xs e 0 ≤ k
  pub earlier : (e : ℕ) → e < event_count → is_in e done ≡ (ltb 0 (get_or xs e 0) && ltb (get_or xs e 0) k)
  pub come : (e : ℕ) → e < event_count → is_in e (done ++ now) ≡ ltb 0 (get_or xs e 0)

-- the lines gs have been taken, and k is the number of the next
pub record Lined (n k : ℕ) (xs : List ℕ) (gs : List (List ℕ)) : Type 0 where
  pub lines : k ≡ length gs + 1
  pub full : length gs ≤ length (flat gs)
  pub known : (e : ℕ) → In e (flat gs) → e < n
  pub once : repeats (flat gs) ≡ false
  pub stands : Stands k xs (flat gs) []

-- the lines in an array: their events one after the other, and at ends_at + j how many the first j lines have
pub record Ordered (gs : List (List ℕ)) (lined : List ℕ) : Type 0 where
  pub long : length lined ≡ lined_size
  pub events : take (length (flat gs)) lined ≡ flat gs
  pub ends : (j : ℕ) → j ≤ length gs → get_or lined (ends_at + j) 0 ≡ length (flat (take j gs))

-- m lines of events below n that have been taken, and the arrays; an event of a line that was refused may have been
-- entered
pub record Taken (n m : ℕ) (xs lined : List ℕ) (gs : List (List ℕ)) : Type 0 where
  pub lines : m ≡ length gs
  pub full : length gs ≤ length (flat gs)
  pub known : (e : ℕ) → In e (flat gs) → e < n
  pub once : repeats (flat gs) ≡ false
  pub ordered : Ordered gs lined
  pub earlier : (e : ℕ) → e < event_count → is_in e (flat gs) ≡ (ltb 0 (get_or xs e 0) && ltb (get_or xs e 0) (m + 1))

pub record AnyTaken (n m : ℕ) (xs lined : List ℕ) : Type 0 where
  pub groups : List (List ℕ)
  pub taken : Taken n m xs lined groups

-- ---- 43: the events of line k, entered

-- these are numbers of events
abbrev pub AllEvents : List ℕ → Type 0
AllEvents es = (i : ℕ) → i < length es → get_or es i 0 < event_count

-- what entering them relies on: an array of its size, and numbers of events
pub record Enterable (k : ℕ) (xs es : List ℕ) : Type 0 where
  pub line : 0 < k
  pub long : length xs ≡ event_count
  pub known : AllEvents es

pub record Entered (k : ℕ) (done es : List ℕ) (again : Bool) (xs : List ℕ) : Type 0 where
  pub repeated : again ≡ repeats (done ++ es)
  pub earlier : (e : ℕ) → e < event_count → is_in e done ≡ (ltb 0 (get_or xs e 0) && ltb (get_or xs e 0) k)
  pub stands : again ≡ false → Stands k xs done es

abbrev pub Enters : ℕ → List ℕ → List ℕ → Bool → List ℕ → Type 0
Enters k xs es again xs' = (done : List ℕ) → Stands k xs done [] → repeats done ≡ false → Entered k done es again xs'

-- what putting line k behind the lines before it relies on: it has a place of its own, and there is room for its events
pub record Addable (lined es : List ℕ) (k : ℕ) : Type 0 where
  pub long : length lined ≡ lined_size
  pub some : 0 < k
  pub few : k ≤ event_count
  pub room : get_or lined (ends_before + k) 0 + length es ≤ event_count

-- line k is put behind the lines before it
pub record AddsLine (old es : List ℕ) (k : ℕ) (new : List ℕ) : Type 0 where
  pub long : length new ≡ lined_size
  pub behind : take (get_or old (ends_before + k) 0 + length es) new ≡ take (get_or old (ends_before + k) 0) old ++ es
  pub end : get_or new (ends_at + k) 0 ≡ get_or old (ends_before + k) 0 + length es
  pub other : (j : ℕ) → ends_at ≤ j → j ≢ ends_at + k → get_or new j 0 ≡ get_or old j 0

-- ---- 44: predecessors that are late

-- the set of the events of a line
pub record IsSet (es : List ℕ) (s : Set) : Type 0 where
  pub low : (e : ℕ) → In e es → e < event_count
  pub has_all : (e : ℕ) → In e es → has s e ≡ 1
  pub no_more : (e : ℕ) → has s e ≡ 1 → In e es

-- a number is in both sets
pub record Meets (a b : Set) (r : Bool) : Type 0 where
  pub both : r ≡ true → (f : ℕ) × (has a f ≡ 1) × (has b f ≡ 1)
  pub none : r ≡ false → (f : ℕ) → f < event_count → has b f ≡ 1 → has a f ≡ 0

-- a set has what the sets of some events have
pub record Unites (sets : ℕ → Set) (P : ℕ → Type 0) (s : Set) : Type 0 where
  pub some : (f : ℕ) → has s f ≡ 1 → (d : ℕ) × P d × (has (sets d) f ≡ 1)
  pub all : (d f : ℕ) → P d → has (sets d) f ≡ 1 → has s f ≡ 1

-- what event d is not later than, and what it is strictly before
abbrev pub path_of : List ℕ → ℕ → Set
path_of t d = (row_of t d).path

abbrev pub strict_of : List ℕ → ℕ → Set
strict_of t d = (row_of t d).strict

-- event d below n has none of the first m lines
abbrev pub Lacks : ℕ → ℕ → List ℕ → ℕ → Type 0
Lacks n m xs d = (d < n) × ((ltb 0 (get_or xs d 0) && ltb (get_or xs d 0) (m + 1)) ≡ false)

-- a set with that of an event, if the event stands in none of the first m lines
pub record WithLacking (r more : Set) (m x : ℕ) (s : Set) : Type 0 where
  pub has-line : (ltb 0 x && ltb x (m + 1)) ≡ true → s ≡ r
  pub lacking : (ltb 0 x && ltb x (m + 1)) ≡ false → (f : ℕ) → has s f ≡ max (has r f) (has more f)

-- from one place of the array of lines up to another stand events
pub record EventsIn (lined : List ℕ) (from to : ℕ) : Type 0 where
  pub order : from ≤ to
  pub most : to ≤ event_count
  pub long : length lined ≡ lined_size
  pub known : (i : ℕ) → i < to → get_or lined i 0 < event_count

-- the set of some events, and what their rows have
pub record Grouped (t es : List ℕ) (g : Group) : Type 0 where
  pub line : IsSet es g.line
  pub path : Unites (path_of t) (λ d. In d es) g.path
  pub strict : Unites (strict_of t) (λ d. In d es) g.strict

-- the number, from k on, of the first line that breaks the order behind those before, or 0
unfoldable pub broken_from : RunRecord → ℕ → List ℕ → List (List ℕ) → ℕ
broken_from R k done [] = 0
broken_from R k done (g ∷ gs) = cond (breaks R done g) k (broken_from R (suc k) (done ++ g) gs)

-- the number of a line that was found, or 0
abbrev pub or_zero : Option ℕ → ℕ
or_zero (Some k) = k
or_zero None = 0

pub record FindsBroken (n m : ℕ) (t xs lined : List ℕ) (r : Option ℕ) : Type 0 where
  pub some : IfSome r (λ k. 0 < k)
  pub by : (R : RunRecord) (gs : List (List ℕ)) → TellsOrder n t R → Taken n m xs lined gs → or_zero r ≡ broken_from R 1 [] gs
