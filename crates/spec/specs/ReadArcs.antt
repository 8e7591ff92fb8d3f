-- Request 2026-01, computed: each case fails under a reading of the request that the others would let pass.
use Rattle.std.specs.Prelude.{◌≡◌, refl, ℕ, ◌+◌, ◌*◌, Bool, true, ◌&&◌, List, [], ◌∷◌, ◌++◌, take, eqb}
use Rattle.spec.specs.Net.{places, read_net}
use Rattle.spec.specs.Building.{build}
use Rattle.spec.specs.Checking.{check_within, check}
use Rattle.spec.specs.Replaying.{replay}
use Rattle.spec.specs.Printing.{program}
use Rattle.spec.specs.Quoted.{as_text, unended, same, refused, given, passes, at_most, zeros_but}
use Rattle.spec.specs.Cases.{open_all}
use Rattle.spec.specs.RefusalOrder.{build_within}

builds : List ℕ → List ℕ → List ℕ → Bool
builds net log bytes = given (same bytes) (build net log 48256)

declares : List ℕ → ℕ → ℕ → Bool
declares net p t = given (λ n. eqb (places n) p && eqb n.transitions t) (read_net net)

in_net : ℕ → ℕ → List ℕ → Bool
in_net n s net = refused n s (read_net net)

in_log : ℕ → ℕ → List ℕ → List ℕ → Bool
in_log n s net log = refused n s (build net log 48256)

in_record : ℕ → ℕ → List ℕ → List ℕ → Bool
in_record n s net run = refused n s (check net run 16384)

-- the check accepts, and says this of the first two events, by 128 × e + f
orders : List (ℕ × ℕ) → List ℕ → List ℕ → Bool
orders es net run = given (λ c. same (take 256 c.table) (zeros_but 256 es)) (check net run 16384)

-- ---- "A net line `R,place,transition`"; "51 where one place is both read and consumed by one transition, at the line,
-- after 14."

pub of_nets : Bool
of_nets =
    -- beside an output and an inhibitor, in any order
    declares (as_text "P,1 P,1 T I,1,0 R,0,0 H,0,0 O,0,0") 2 1
    && declares (as_text "P,1 P,1 T H,0,0 O,0,0 I,1,0 R,0,0") 2 1
    -- at whichever of the two comes second; of other places and transitions neither is met
    && in_net 51 4 (as_text "P,1 T I,0,0 R,0,0")
    && in_net 51 4 (as_text "P,1 T R,0,0 I,0,0")
    && in_net 51 4 (as_text "P,1 T R,0,0 I,0,0 I,0,0 R,0,0 x")
    && declares (as_text "P,1 P,1 T T I,0,0 R,0,1 R,1,0 I,1,1 O,0,0 O,1,0") 2 2
    -- the other refusals of an arc
    && in_net 11 4 (unended "P,1 T I,0,0 R,0,0")
    && in_net 11 3 (as_text "P,1 T R,0")
    && in_net 11 3 (as_text "P,1 T R,0,0,1")
    && in_net 11 3 (as_text "P,1 T R,0,-")
    && in_net 13 4 (as_text "P,1 P,1 T R,0,1")
    && in_net 13 4 (as_text "P,1 T T R,1,0")
    && in_net 14 4 (as_text "P,1 T R,0,0 R,0,0")
    -- 51 before 15; what is read is no input
    && in_net 51 5 (as_text "P,1 T T I,0,0 R,0,0")
    && in_net 15 0 (as_text "P,1 T R,0,0 O,0,0")

-- ---- ".. asks for a token before the step"; "reading takes nothing"; "24 covers a read token lacking"

-- transition 0 reads place 1, from which transition 1 takes
warm : List ℕ
warm = as_text "P,1 P,1 P,0 P,0 T T I,0,0 O,0,2 R,1,0 I,1,1 O,1,3"

warm_record : List ℕ
warm_record = as_text "E,0 E,1 C,0,-,0 C,1,-,1 C,2,0,- C,3,1,- R,1,0"

-- two tokens to be moved, one to be read
shared : List ℕ
shared = as_text "P,2 P,1 P,0 T I,0,0 O,0,2 R,1,0"

pub of_steps : Bool
of_steps =
    -- a token read and taken in one step by two events, and read before it is taken
    builds warm (as_text "S,0,1") warm_record
    && builds warm (as_text "S,0 S,1") warm_record
    && in_log 24 2 warm (as_text "S,1 S,0")
    -- one token serves two readers, of one step and of two
    && builds shared (as_text "S,0,0") (as_text "E,0 E,0 C,0,-,0 C,0,-,1 C,1,-,- C,2,0,- C,2,1,- R,2,0 R,2,1")
    && builds shared (as_text "S,0 S,0") (as_text "E,0 E,0 C,0,-,0 C,0,-,1 C,1,-,- C,2,0,- C,2,1,- R,2,0 R,2,1")
    -- each place that is read has to have one, before the step
    && in_log 24 1 (as_text "P,1 P,0 P,0 T I,0,0 O,0,2 R,1,0") (as_text "S,0")
    && in_log 24 1 (as_text "P,1 P,1 P,0 P,0 T I,0,0 O,0,2 R,1,0 R,3,0") (as_text "S,0")
    && in_log 24 1 (as_text "P,1 P,1 P,0 P,0 T T I,0,0 O,0,2 I,1,1 O,1,3 R,2,1") (as_text "S,0,1")
    -- 24 before 25, over the whole step
    && in_log 24 1 (as_text "P,1 P,1 P,1 P,0 T T I,0,0 O,0,3 H,1,0 I,2,1 O,1,3 R,3,1") (as_text "S,0,1")
    -- of one transition that reads a place and is inhibited by it no step is enabled
    && in_log 25 1 (as_text "P,1 P,1 P,0 T I,0,0 O,0,2 R,1,0 H,1,0") (as_text "S,0")
    && in_log 24 1 (as_text "P,1 P,0 P,0 T I,0,0 O,0,2 R,1,0 H,1,0") (as_text "S,0")

-- ---- "The builder marks the lowest-numbered condition that held when the reader's step began, taken in that step or
-- not"; "R stands with the other marks by event, then condition."

-- transition 0 takes from place 0, which transition 1 reads, and transition 2 fills it
filled : List ℕ
filled = as_text "P,2 P,2 P,1 P,0 T T T I,0,0 O,0,3 I,1,1 O,1,3 R,0,1 I,2,2 O,2,0"

-- place 3 is read and place 0 inhibits, both by transition 0; transition 1 fills both
both : List ℕ
both = as_text "P,0 P,1 P,1 P,1 P,0 T T I,1,0 O,0,4 H,0,0 R,3,0 I,2,1 O,1,0 O,1,3"

pub of_buildings : Bool
of_buildings =
    -- the lowest, though it is taken in the step; the next, when it was
    builds filled (as_text "S,0,1 S,1") (as_text "E,0 E,1 E,1 C,0,-,0 C,0,-,- C,1,-,1 C,1,-,2 C,2,-,- C,3,0,- C,3,1,- C,3,2,- R,0,1 R,1,2")
    -- none that is made in the step, nor one that was taken before it
    && builds filled (as_text "S,0 S,0 S,2 S,1") (as_text "E,0 E,0 E,2 E,1 C,0,-,0 C,0,-,1 C,1,-,3 C,1,-,- C,2,-,2 C,3,0,- C,3,1,- C,0,2,- C,3,3,- R,7,3")
    && in_log 24 3 filled (as_text "S,0 S,0 S,1,2")
    && builds filled (as_text "S,0 S,2 S,1,0") (as_text "E,0 E,2 E,1 E,0 C,0,-,0 C,0,-,3 C,1,-,2 C,1,-,- C,2,-,1 C,3,0,- C,0,1,- C,3,2,- C,3,3,- R,1,2")
    -- one of each place that is read
    && builds (as_text "P,1 P,1 P,1 P,0 T I,0,0 O,0,3 R,2,0 R,1,0") (as_text "S,0") (as_text "E,0 C,0,-,0 C,1,-,- C,2,-,- C,3,0,- R,1,0 R,2,0")
    -- beside a mark of the other kind, by condition
    && builds both (as_text "S,0 S,1") (as_text "E,0 E,1 C,1,-,0 C,2,-,1 C,3,-,- C,4,0,- C,0,1,- C,3,1,- R,2,0 B,4,0")
    && builds (as_text "P,1 P,1 P,1 P,1 P,0 P,0 T T I,0,0 O,0,4 H,1,0 R,2,0 I,1,1 O,1,5") (as_text "S,1 S,0") (as_text "E,1 E,0 C,0,-,1 C,1,-,0 C,2,-,- C,3,-,- C,5,0,- C,4,1,- A,1,1 R,2,1")

-- ---- "a record line `R,condition,event` stands among the marks and counts in the 4,096"; "34 lets R stand beside B or A
-- but not twice"

-- transition 1 reads place 1 and is inhibited by it
never : List ℕ
never = as_text "P,1 P,0 P,0 P,1 T T I,0,0 O,0,1 I,3,1 O,1,2 R,1,1 H,1,1"

pub of_record_lines : Bool
of_record_lines =
    in_record 31 1 warm (as_text "R,0")
    && in_record 31 4 warm (as_text "E,0 C,0,-,0 R,0,0 C,1,-,-")
    && in_record 31 4 warm (as_text "E,0 C,0,-,0 R,0,0 E,0")
    && in_record 33 1 warm (as_text "R,0,0")
    && in_record 33 3 warm (as_text "E,0 C,0,-,0 R,1,0")
    && in_record 33 3 warm (as_text "E,0 C,0,-,0 R,0,1")
    && in_record 34 4 warm (as_text "E,0 C,0,-,0 R,0,0 R,0,0")
    && in_record 34 5 never (as_text "E,1 C,1,-,0 B,0,0 R,0,0 A,0,0")
    && in_record 34 5 never (as_text "E,1 C,1,-,0 R,0,0 A,0,0 R,0,0")
    -- "counts in the 4,096": 27 and 32
    && passes (build_within (at_most 2 5 2) shared (as_text "S,0 S,0"))
    && refused 27 2 (build_within (at_most 2 5 1) shared (as_text "S,0 S,0"))
    && refused 27 1 (build_within (at_most 2 5 0) shared (as_text "S,0 S,0"))
    && passes (check_within (at_most 2 4 1) warm warm_record 16384)
    && refused 32 7 (check_within (at_most 2 4 0) warm warm_record 16384)

-- ---- "Each event has exactly one R mark, on a condition of that place, per read arc, and no other."; "37 a wrong R mark"

pub of_rules : Bool
of_rules =
    -- none, two, of another place, and of an event that reads nothing
    in_record 37 0 warm (as_text "E,0 E,1 C,0,-,0 C,1,-,1 C,2,0,- C,3,1,-")
    && in_record 37 0 filled (as_text "E,1 C,0,-,- C,0,-,- C,1,-,0 C,1,-,- C,2,-,- C,3,0,- R,0,0 R,1,0")
    && in_record 37 0 warm (as_text "E,0 E,1 C,0,-,0 C,1,-,1 C,2,0,- C,3,1,- R,0,0")
    && in_record 37 0 warm (as_text "E,0 E,1 C,0,-,0 C,1,-,1 C,2,0,- C,3,1,- R,1,0 R,0,0")
    && in_record 37 1 warm (as_text "E,0 E,1 C,0,-,0 C,1,-,1 C,2,0,- C,3,1,- R,1,0 R,1,1")
    -- another condition of the place than the builder's
    && builds filled (as_text "S,1") (as_text "E,1 C,0,-,- C,0,-,- C,1,-,0 C,1,-,- C,2,-,- C,3,0,- R,0,0")
    && orders [] filled (as_text "E,1 C,0,-,- C,0,-,- C,1,-,0 C,1,-,- C,2,-,- C,3,0,- R,1,0")
    -- an R mark stands for no B or A, nor one of these for it
    && in_record 37 0 both (as_text "E,0 C,1,-,0 C,2,-,- C,3,-,- C,4,0,- B,2,0")
    && in_record 37 0 both (as_text "E,0 E,1 C,1,-,0 C,2,-,1 C,3,-,- C,4,0,- C,0,1,- C,3,1,- R,2,0 R,4,0")
    -- the lowest event over B, A and R together
    && in_record 37 0 both (as_text "E,0 E,1 C,1,-,0 C,2,-,1 C,3,-,- C,4,0,- C,0,1,- C,3,1,- B,4,0 R,2,1")
    && in_record 37 0 both (as_text "E,0 E,1 C,1,-,0 C,2,-,1 C,3,-,- C,4,0,- C,0,1,- C,3,1,- R,2,0 R,2,1")
    && in_record 37 0 both (as_text "E,1 E,0 C,1,-,1 C,2,-,0 C,3,-,- C,4,1,- C,0,0,- C,3,0,- B,2,0 B,4,1")
    -- 38 does not speak of R; where a place is read and inhibits, no record is accepted
    && orders ((128 * 0 + 1, 1) ∷ []) warm warm_record
    && in_record 38 0 (as_text "P,1 P,1 P,0 T I,0,0 O,0,2 R,1,0 H,1,0") (as_text "E,0 C,0,-,0 C,1,-,- C,2,0,- B,1,0 R,1,0")
    && in_record 38 0 (as_text "P,1 P,1 P,0 T I,0,0 O,0,2 R,1,0 H,1,0") (as_text "E,0 C,0,-,0 C,1,-,- C,2,0,- A,1,0 R,1,0")
    && in_record 39 0 never (as_text "E,0 E,1 C,0,-,0 C,3,-,1 C,1,0,- C,2,1,- B,2,1 R,2,1")

-- ---- "The condition's producer is strictly before the reader, the reader not later than its consumer."

-- transition 0 makes the token, transition 1 reads it, transition 2 takes it
lent : List ℕ
lent = as_text "P,1 P,0 P,1 P,0 T T T I,0,0 O,0,1 I,2,1 O,1,3 R,1,1 I,1,2 O,2,0"

pub of_orders : Bool
of_orders =
    orders ((128 * 0 + 1, 2) ∷ []) lent (as_text "E,0 E,1 C,0,-,0 C,2,-,1 C,1,0,- C,3,1,- R,2,1")
    && builds lent (as_text "S,0 S,1,2") (as_text "E,0 E,1 E,2 C,0,-,0 C,2,-,1 C,1,0,2 C,3,1,- C,0,2,- R,2,1")
    && given (λ c. same (take 384 c.table) (zeros_but 384 ((128 * 0 + 1, 2) ∷ (128 * 0 + 2, 2) ∷ (128 * 1 + 2, 1) ∷ []))) (check lent (as_text "E,0 E,1 E,2 C,0,-,0 C,2,-,1 C,1,0,2 C,3,1,- C,0,2,- R,2,1") 16384)
    -- so one step takes reader and taker, and none has the taker first
    && passes (replay lent (as_text "E,0 E,1 E,2 C,0,-,0 C,2,-,1 C,1,0,2 C,3,1,- C,0,2,- R,2,1") (as_text "G,0 G,1,2") 4128)
    && refused 44 2 (replay lent (as_text "E,0 E,1 E,2 C,0,-,0 C,2,-,1 C,1,0,2 C,3,1,- C,0,2,- R,2,1") (as_text "G,0 G,2 G,1") 4128)
    && same (program (lent ++ as_text "=" ++ as_text "S,0 S,1,2")) (as_text "E,0 E,1 E,2 C,0,-,0 C,2,-,1 C,1,0,2 C,3,1,- C,0,2,- R,2,1 Z,3,5,0,2")
    -- one's own product is read by nobody
    && in_record 39 0 (as_text "P,1 P,1 T I,0,0 O,0,1 R,1,0") (as_text "E,0 C,0,-,0 C,1,-,- C,1,0,- R,2,0")

pub reads-hold : (of_nets ≡ true) × (of_steps ≡ true) × (of_buildings ≡ true) × (of_record_lines ≡ true) × (of_rules ≡ true) × (of_orders ≡ true)
unfolding open_all builds declares in_net in_log in_record orders build_within of_nets warm warm_record shared of_steps filled both of_buildings never of_record_lines of_rules lent of_orders
reads-hold = (refl, refl, refl, refl, refl, refl)
