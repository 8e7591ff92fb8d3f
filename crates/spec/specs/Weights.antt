-- Request 2026-06, computed: each case fails under a reading of the request that the others would let pass.
use Rattle.std.specs.Prelude.{◌≡◌, refl, ℕ, ◌+◌, ◌*◌, Bool, true, ◌&&◌, List, [], ◌∷◌, ◌++◌, map, take, replicate, eqb}
use Rattle.spec.specs.Lists.{flat}
use Rattle.spec.specs.Text.{lines_of, line_with}
use Rattle.spec.specs.Net.{takes, makes, read_net}
use Rattle.spec.specs.Building.{build}
use Rattle.spec.specs.Checking.{check}
use Rattle.spec.specs.WithoutWeights.{with_one, with_ones}
use Rattle.spec.specs.Quoted.{as_text, unended, same, refused, given, passes, at_most, zeros_but}
use Rattle.spec.specs.Cases.{open_all}
use Rattle.spec.specs.RefusalOrder.{build_within}
use Rattle.spec.specs.declared.Field.TheVariants.{Number}

builds : List ℕ → List ℕ → List ℕ → Bool
builds net log bytes = given (same bytes) (build net log 48256)

-- transition t of the net takes so many tokens from place p, and makes so many there
weighs : List ℕ → ℕ → ℕ → ℕ → ℕ → Bool
weighs net t p i o = given (λ n. eqb (takes n t p) i && eqb (makes n t p) o) (read_net net)

in_net : ℕ → ℕ → List ℕ → Bool
in_net n s net = refused n s (read_net net)

in_log : ℕ → ℕ → List ℕ → List ℕ → Bool
in_log n s net log = refused n s (build net log 48256)

in_record : ℕ → ℕ → List ℕ → List ℕ → Bool
in_record n s net run = refused n s (check net run 16384)

-- ---- "`I` and `O` may carry a third field, the weight, 1 to 16; without it the weight is 1."

pub of_nets : Bool
of_nets =
    weighs (as_text "P,1 T I,0,0 O,0,0") 0 0 1 1
    && weighs (as_text "P,1 T I,0,0,1 O,0,0,1") 0 0 1 1
    && weighs (as_text "P,1 T I,0,0,16 O,0,0") 0 0 16 1
    && weighs (as_text "P,1 T I,0,0 O,0,0,16") 0 0 1 16
    -- an output names its transition first, and each arc has a weight of its own
    && weighs (as_text "P,1 P,1 T T I,1,0,2 O,0,1,3 I,0,1 O,1,0") 0 1 2 3
    && weighs (as_text "P,1 P,1 T T I,1,0,2 O,0,1,3 I,0,1 O,1,0") 1 0 1 1
    && weighs (as_text "P,1 P,1 T T I,1,0,2 O,0,1,3 I,0,1 O,1,0") 1 1 0 0
    -- "54 weight outside 1 to 16, at the line": 0 too
    && in_net 54 3 (as_text "P,1 T I,0,0,0 O,0,0")
    && in_net 54 3 (as_text "P,1 T I,0,0,17 O,0,0")
    && in_net 54 4 (as_text "P,1 T I,0,0 O,0,0,0")
    && in_net 54 4 (as_text "P,1 T I,0,0 O,0,0,17")
    && in_net 54 3 (as_text "P,1 T I,0,0,9999")
    -- no other line has a weight, and it is one number
    && in_net 11 4 (as_text "P,1 T I,0,0 H,0,0,1 O,0,0")
    && in_net 11 3 (as_text "P,1 T R,0,0,1")
    && in_net 11 2 (as_text "P,1 T,1")
    && in_net 11 1 (as_text "P,1,1")
    && in_net 11 3 (as_text "P,1 T I,0,0,-")
    && in_net 11 3 (as_text "P,1 T I,0,0,")
    && in_net 11 3 (as_text "P,1 T I,0,0,1,1")
    && in_net 11 3 (as_text "P,1 T O,0,0,1,1")

-- ---- "after 13 and before 14, which holds whatever the weights": on a line 11, 13, 54, 14, 51

pub of_order : Bool
of_order =
    in_net 11 3 (as_text "P,1 T I,0,0,00017")
    && in_net 11 3 (as_text "P,1 T O,0,0,017")
    && in_net 11 3 (unended "P,1 T I,0,0,17")
    && in_net 13 3 (as_text "P,1 T I,1,0,0")
    && in_net 13 3 (as_text "P,1 T O,1,0,17")
    && in_net 54 4 (as_text "P,1 T I,0,0 I,0,0,17")
    && in_net 54 4 (as_text "P,1 T O,0,0,2 O,0,0,0")
    && in_net 54 4 (as_text "P,1 T R,0,0 I,0,0,17")
    && in_net 14 4 (as_text "P,1 T I,0,0 I,0,0,2")
    && in_net 14 4 (as_text "P,1 T I,0,0,2 I,0,0")
    && in_net 14 4 (as_text "P,1 T O,0,0,2 O,0,0,2")
    && in_net 51 4 (as_text "P,1 T R,0,0 I,0,0,2")
    && in_net 51 4 (as_text "P,1 T I,0,0,2 R,0,0")
    -- at the first of several lines, whatever a later line meets, and before 15
    && in_net 54 3 (as_text "P,1 T I,0,0,0 I,9,9 x")
    && in_net 15 0 (as_text "P,1 T I,0,0,2")

-- ---- "24 and 36 count by weight."

-- transition 0 takes three tokens of place 0 and makes two in place 1
four : List ℕ
four = as_text "P,7 P,0 T I,0,0,3 O,0,1,2"

pub of_steps : Bool
of_steps =
    in_log 24 1 (as_text "P,3 P,0 T I,0,0,4 O,0,1") (as_text "S,0")
    && passes (build (as_text "P,4 P,0 T I,0,0,4 O,0,1") (as_text "S,0") 48256)
    -- over the events of a step, and from step to step
    && passes (build four (as_text "S,0,0") 48256)
    && in_log 24 1 four (as_text "S,0,0,0")
    && in_log 24 3 four (as_text "S,0 S,0 S,0")
    -- what is made counts by weight too
    && passes (build (as_text "P,1 P,0 T T I,0,0 O,0,1,2 I,1,1,2 O,1,0") (as_text "S,0 S,1") 48256)
    && in_log 24 2 (as_text "P,1 P,0 T T I,0,0 O,0,1,2 I,1,1,3 O,1,0") (as_text "S,0 S,1")
    -- one token is enough for a reader, and one too many for an inhibitor
    && passes (build (as_text "P,4 P,1 P,0 T T I,0,0,4 O,0,2 R,1,0 I,1,1,2 O,1,2") (as_text "S,0") 48256)
    && in_log 25 2 (as_text "P,2 P,0 P,1 T T I,0,0,2 O,0,1,2 I,2,1 O,1,0 H,1,1") (as_text "S,0 S,1")

-- ---- "An event consumes and makes that many conditions of the place, lowest numbers first, outputs of a place standing
-- together."

pub of_buildings : Bool
of_buildings =
    builds four (as_text "S,0,0") (as_text "E,0 E,0 C,0,-,0 C,0,-,0 C,0,-,0 C,0,-,1 C,0,-,1 C,0,-,1 C,0,-,- C,1,0,- C,1,0,- C,1,1,- C,1,1,-")
    && builds four (as_text "S,0 S,0") (as_text "E,0 E,0 C,0,-,0 C,0,-,0 C,0,-,0 C,0,-,1 C,0,-,1 C,0,-,1 C,0,-,- C,1,0,- C,1,0,- C,1,1,- C,1,1,-")
    -- outputs by place, and none that is made in the step is taken in it
    && builds (as_text "P,1 P,0 P,0 T I,0,0 O,0,2,2 O,0,1,2") (as_text "S,0") (as_text "E,0 C,0,-,0 C,1,0,- C,1,0,- C,2,0,- C,2,0,-")
    && builds (as_text "P,4 T I,0,0,2 O,0,0,2") (as_text "S,0,0 S,0") (as_text "E,0 E,0 E,0 C,0,-,0 C,0,-,0 C,0,-,1 C,0,-,1 C,0,0,2 C,0,0,2 C,0,1,- C,0,1,- C,0,2,- C,0,2,-")
    -- inputs of several places
    && builds (as_text "P,2 P,3 P,0 T I,1,0,2 I,0,0 O,0,2") (as_text "S,0") (as_text "E,0 C,0,-,0 C,0,-,- C,1,-,0 C,1,-,0 C,1,-,- C,2,0,-")
    -- an event has no mark at what it made itself, all of it; another event has one at each
    && builds (as_text "P,2 P,0 T I,0,0 O,0,1,2 H,1,0") (as_text "S,0") (as_text "E,0 C,0,-,0 C,0,-,- C,1,0,- C,1,0,-")
    && builds (as_text "P,2 P,0 T I,0,0 O,0,1,2 H,1,0") (as_text "S,0,0") (as_text "E,0 E,0 C,0,-,0 C,0,-,1 C,1,0,- C,1,0,- C,1,1,- C,1,1,- B,4,0 B,5,0 B,2,1 B,3,1")
    && builds (as_text "P,1 P,0 P,1 T T T I,0,0 O,0,1,2 I,1,1,2 O,1,0 I,2,2 O,2,2 H,1,2") (as_text "S,0 S,1 S,2") (as_text "E,0 E,1 E,2 C,0,-,0 C,2,-,2 C,1,0,1 C,1,0,1 C,0,1,- C,2,2,- A,2,2 A,3,2")

-- ---- 26 and 27 count conditions and marks

pub of_limits : Bool
of_limits =
    passes (build_within (at_most 1 5 0) (as_text "P,2 P,0 T I,0,0,2 O,0,1,3") (as_text "S,0"))
    && refused 26 1 (build_within (at_most 1 4 0) (as_text "P,2 P,0 T I,0,0,2 O,0,1,3") (as_text "S,0"))
    && passes (build_within (at_most 2 6 4) (as_text "P,2 P,0 T I,0,0 O,0,1,2 H,1,0") (as_text "S,0,0"))
    && refused 27 1 (build_within (at_most 2 6 3) (as_text "P,2 P,0 T I,0,0 O,0,1,2 H,1,0") (as_text "S,0,0"))
    -- from both sides of 512, and of a step whose events make sixteen each
    && passes (build (as_text "P,496 P,0 T I,0,0 O,0,1,16") (as_text "S,0") 48256)
    && refused 26 1 (build (as_text "P,497 P,0 T I,0,0 O,0,1,16") (as_text "S,0") 48256)
    && refused 26 1 (build (as_text "P,128 P,0 T I,0,0 O,0,1,16") (line_with "S" (replicate 128 (Number 0))) 48256)

-- ---- 36, and the order that a record then has

-- a record of `four` with one step, where some conditions are left out or are too many
ran : List ℕ → List ℕ → List ℕ
ran taken made = as_text "E,0" ++ taken ++ made

pub of_records : Bool
of_records =
    passes (check four (ran (as_text "C,0,-,0 C,0,-,0 C,0,-,0 C,0,-,- C,0,-,- C,0,-,- C,0,-,-") (as_text "C,1,0,- C,1,0,-")) 16384)
    -- not only the lowest are a process
    && passes (check four (ran (as_text "C,0,-,- C,0,-,0 C,0,-,- C,0,-,0 C,0,-,- C,0,-,0 C,0,-,-") (as_text "C,1,0,- C,1,0,-")) 16384)
    && in_record 36 0 four (ran (as_text "C,0,-,0 C,0,-,0 C,0,-,- C,0,-,- C,0,-,- C,0,-,- C,0,-,-") (as_text "C,1,0,- C,1,0,-"))
    && in_record 36 0 four (ran (as_text "C,0,-,0 C,0,-,- C,0,-,- C,0,-,- C,0,-,- C,0,-,- C,0,-,-") (as_text "C,1,0,- C,1,0,-"))
    && in_record 36 0 four (ran (as_text "C,0,-,0 C,0,-,0 C,0,-,0 C,0,-,0 C,0,-,- C,0,-,- C,0,-,-") (as_text "C,1,0,- C,1,0,-"))
    && in_record 36 0 four (ran (as_text "C,0,-,0 C,0,-,0 C,0,-,0 C,0,-,- C,0,-,- C,0,-,- C,0,-,-") (as_text "C,1,0,-"))
    && in_record 36 0 four (ran (as_text "C,0,-,0 C,0,-,0 C,0,-,0 C,0,-,- C,0,-,- C,0,-,- C,0,-,-") (as_text "C,1,0,- C,1,0,- C,1,0,-"))
    && in_record 35 0 four (ran (as_text "C,0,-,0 C,0,-,0 C,0,-,0 C,0,-,-") (as_text "C,1,0,- C,1,0,-"))
    -- one event that takes what two made stands behind both
    && given (λ c. same (take 384 c.table) (zeros_but 384 ((128 * 0 + 2, 2) ∷ (128 * 1 + 2, 2) ∷ [])))
    (check (as_text "P,2 P,0 T T I,0,0 O,0,1,2 I,1,1,4 O,1,0") (as_text "E,0 E,0 E,1 C,0,-,0 C,0,-,1 C,1,0,2 C,1,0,2 C,1,1,2 C,1,1,2 C,0,2,-") 16384)

-- ---- a weight of 1 written out

spelled : List ℕ → List (List ℕ)
spelled text = map (λ l. l.bytes) (with_ones (λ k. true) 1 (lines_of text))

pub of_ones : Bool
of_ones =
    same (flat (spelled (as_text "P,1 T I,0,0 O,0,0 H,0,0 R,0,0 O,0,0,2 I,0"))) (flat (map (λ l. l.bytes) (lines_of (as_text "P,1 T I,0,0,1 O,0,0,1 H,0,0 R,0,0 O,0,0,2 I,0"))))

pub weights-hold : (of_nets ≡ true) × (of_order ≡ true) × (of_steps ≡ true) × (of_buildings ≡ true) × (of_limits ≡ true) × (of_records ≡ true) × (of_ones ≡ true)
unfolding open_all builds weighs in_net in_log in_record build_within of_nets of_order four of_steps of_buildings of_limits ran of_records with_one with_ones spelled of_ones
weights-hold = (refl, refl, refl, refl, refl, refl, refl)
