-- Request 2026-04, computed: each case fails under a reading of the request that the others would let pass. Cases b and f
-- of document 01 stand in `Cases`.
use Rattle.std.specs.Prelude.{◌≡◌, refl, ℕ, Bool, true, ◌&&◌, List, ◌++◌, eqb}
use Rattle.spec.specs.Checking.{check}
use Rattle.spec.specs.Printing.{program}
use Rattle.spec.specs.Quoted.{as_text, same, given}
use Rattle.spec.specs.Cases.{drive, open_all}

-- the check counts so many pairs
counts : ℕ → List ℕ → List ℕ → Bool
counts k net run = given (λ c. eqb c.independents k) (check net run 16384)

prints : List ℕ → List ℕ → List ℕ → Bool
prints net log out = same (program (net ++ as_text "=" ++ log)) out

-- two transitions on places of their own, three times the tokens for the first
apart : List ℕ
apart = as_text "P,3 P,1 P,0 P,0 T T I,0,0 O,0,2 I,1,1 O,1,3"

-- each of three transitions fills the place that inhibits the one before it
row : List ℕ
row = as_text "P,1 P,1 P,1 P,0 P,0 P,0 T T T I,0,0 O,0,3 H,4,0 I,1,1 O,1,4 H,5,1 I,2,2 O,2,5"

-- twice two transitions that fill each other's inhibiting place
loops : List ℕ
loops = as_text "P,1 P,1 P,1 P,1 P,0 P,0 P,0 P,0 T T T T I,0,0 O,0,4 H,5,0 I,1,1 O,1,5 H,4,1 I,2,2 O,2,6 H,7,2 I,3,3 O,3,7 H,6,3"

-- "neither event is strictly before, or not later than, the other in the closed order"
pub of_pairs : Bool
of_pairs =
    -- in no relation: the pair counts, each pair once
    counts 1 apart (as_text "E,0 E,1 C,0,-,0 C,0,-,- C,0,-,- C,1,-,1 C,2,0,- C,3,1,-")
    && prints apart (as_text "S,0,1,0,0") (as_text "E,0 E,1 E,0 E,0 C,0,-,0 C,0,-,2 C,0,-,3 C,1,-,1 C,2,0,- C,3,1,- C,2,2,- C,2,3,- Z,4,8,6,1")
    -- the event with the lower number not later than the other; in case b it is the one with the higher
    && counts 0 drive (as_text "E,2 E,0 C,0,-,1 C,2,-,0 C,1,1,- C,3,0,- B,2,0")
    -- by a path through a third event
    && prints row (as_text "S,0,1,2") (as_text "E,0 E,1 E,2 C,0,-,0 C,1,-,1 C,2,-,2 C,3,0,- C,4,1,- C,5,2,- B,4,0 B,5,1 Z,3,6,0,1")
    -- each not later than the other: no pair within a loop counts, and each pair across two of them does
    && prints loops (as_text "S,0,1") (as_text "E,0 E,1 C,0,-,0 C,1,-,1 C,2,-,- C,3,-,- C,4,0,- C,5,1,- B,5,0 B,4,1 Z,2,6,0,1")
    && prints loops (as_text "S,0,2,1,3") (as_text "E,0 E,2 E,1 E,3 C,0,-,0 C,1,-,2 C,2,-,1 C,3,-,3 C,4,0,- C,6,1,- C,5,2,- C,7,3,- B,6,0 B,7,1 B,4,2 B,5,3 Z,4,8,4,1")

pub swaps-hold : of_pairs ≡ true
unfolding open_all counts prints apart row loops of_pairs
swaps-hold = refl
