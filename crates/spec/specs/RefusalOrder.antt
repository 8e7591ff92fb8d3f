-- The order of the refusals and their spots, computed: each refusal of document 01 comes after those that are named
-- before it and before those that are named after it, and its spot is the lowest of several. Each input below meets
-- two refusals or more, or one in several places.
use Rattle.std.specs.Prelude.{◌≡◌, refl, ℕ, Bool, true, ◌&&◌, List, [], ◌∷◌, ◌++◌, replicate}
use Rattle.spec.specs.Answer.{Answer, ◌>>=◌}
use Rattle.spec.specs.Text.{lines_of, line_with}
use Rattle.spec.specs.Net.{read_net}
use Rattle.spec.specs.Record.{RunRecord}
use Rattle.spec.specs.Building.{built, build}
use Rattle.spec.specs.Checking.{check_within, check}
use Rattle.spec.specs.Arranging.{arrange}
use Rattle.spec.specs.Replaying.{replay}
use Rattle.spec.specs.LineParts.{refused_line}
use Rattle.spec.specs.Printing.{program}
use Rattle.spec.specs.Quoted.{as_text, unended, same, refused, at_most}
use Rattle.spec.specs.Cases.{drive, record_a, record_b, net_k, record_k, open_all}
use Rattle.spec.specs.Traps.{crossed, in_its_way}
use Rattle.spec.specs.declared.Field.TheVariants.{Number}
use Rattle.spec.specs.declared.Limits.{Limits}

-- ---- the refusal with a number at a spot, by each operation; its buffer has the stated size

in_net : ℕ → ℕ → List ℕ → Bool
in_net n s net = refused n s (read_net net)

in_log : ℕ → ℕ → List ℕ → List ℕ → Bool
in_log n s net log = refused n s (build net log 48256)

in_record : ℕ → ℕ → List ℕ → List ℕ → Bool
in_record n s net run = refused n s (check net run 16384)

in_arrangement : ℕ → ℕ → List ℕ → List ℕ → List ℕ → Bool
in_arrangement n s net run arrangement = refused n s (replay net run arrangement 4128)

-- the same under other limits
unfoldable pub build_within : Limits → List ℕ → List ℕ → Answer RunRecord
build_within lim net log = read_net net >>= λ n. built lim n (lines_of log)

in_log_of : Limits → ℕ → ℕ → List ℕ → List ℕ → Bool
in_log_of lim n s net log = refused n s (build_within lim net log)

in_record_of : Limits → ℕ → ℕ → List ℕ → List ℕ → Bool
in_record_of lim n s net run = refused n s (check_within lim net run 16384)

-- ---- "Net: per line 11 malformed, 12 limit passed, 13 undeclared number, 14 arc repeated (spot: line); then 15
-- transition lacking input or output (spot: lowest such)."

pub of_net : Bool
of_net =
    -- 11 before 12, 13 and 14 on a line. No line meets two of these: a place or a transition names nothing, an arc
    -- passes no limit, and the arc that it repeats was declared.
    in_net 11 1 (unended "P,513")
    && in_net 11 1 (unended "I,0,0")
    && in_net 11 4 (unended "P,1 T I,0,0 I,0,0")
    -- at the first of several lines, and whatever a later line meets
    && in_net 11 2 (as_text "P,1 x x P,513")
    && in_net 12 2 (as_text "P,1 P,512 P,512 x")
    && in_net 13 2 (as_text "P,1 I,0,0 I,0,0 P,512 x")
    && in_net 14 4 (as_text "P,1 T I,0,0 I,0,0 I,0,0 I,9,9 P,512 x")
    -- 15 after every line
    && in_net 11 2 (as_text "T x")
    && in_net 12 2 (as_text "T P,513")
    && in_net 13 2 (as_text "T I,0,0")
    && in_net 14 4 (as_text "P,1 T I,0,0 I,0,0")
    -- 15 at the lowest transition, over inputs and outputs together
    && in_net 15 1 (as_text "P,1 T T T I,0,0 O,0,0")
    && in_net 15 0 (as_text "P,1 T T I,0,0 O,1,0")
    && in_net 15 0 (as_text "P,1 T T O,0,0 I,0,1")

-- ---- "Build: 20 buffer under 48,256 bytes (spot 0); net's; per line 21 malformed, 22 unknown transition, 23 over
-- 128 events, 24 too few tokens, 25 inhibited, 26 over 512 conditions, 27 over 4,096 marks (spot: line)."

pub of_build : Bool
of_build =
    -- 20 before the net's and the log's
    refused 20 0 (build (as_text "x") [] 48255)
    && refused 20 0 (build drive (as_text "x") 48255)
    -- the net's, the last of them too, before the log's
    && in_log 11 2 (as_text "P,1 x") (as_text "x")
    && in_log 15 0 (as_text "T") (as_text "x")
    -- on one line 21 before 22,
    && in_log 21 1 drive (unended "S,3")
    && in_log 21 1 drive (as_text "S,3,x")
    -- 22 before 23, over the whole line,
    && in_log_of (at_most 2 9 9) 22 1 drive (as_text "S,0,2,3")
    && in_log 22 1 drive (line_with "S" (replicate 128 (Number 0) ++ Number 3 ∷ []))
    -- 23 before 24,
    && in_log_of (at_most 1 9 9) 23 1 drive (as_text "S,0,0")
    -- 24 before 25, also where the place that inhibits (1) is lower than the one that is short (2),
    && in_log 24 2 drive (as_text "S,0 S,2,0")
    && in_log 24 2 drive (as_text "S,0 S,2,2")
    -- 25 before 26,
    && in_log_of (at_most 9 3 9) 25 2 drive (as_text "S,0 S,2")
    -- 26 before 27
    && in_log_of (at_most 9 3 0) 26 1 drive (as_text "S,0,2")
    -- at the first of several lines, and whatever a later line meets
    && in_log 21 2 drive (as_text "S,0 x x S,3")
    && in_log 22 2 drive (as_text "S,0 S,3 S,3 x")
    && in_log_of (at_most 1 9 9) 23 2 drive (as_text "S,0 S,1 S,1 S,3 x")
    && in_log_of (at_most 3 9 9) 24 2 drive (as_text "S,0 S,0 S,0 S,1,1,1 S,3 x")
    && in_log_of (at_most 3 9 9) 25 2 drive (as_text "S,0 S,2 S,2 S,0 S,1,1,1 S,3 x")
    && in_log_of (at_most 3 3 9) 26 2 drive (as_text "S,0 S,1 S,2 S,0 S,1,1,1 S,3 x")
    && in_log_of (at_most 3 4 0) 27 2 drive (as_text "S,2 S,0 S,1 S,0 S,1,1,1 S,3 x")

-- ---- "Check: 30 buffer under 16,384 bytes (spot 0); net's; per line 31 malformed or group out of order, 32 limit
-- passed, 33 undeclared number, 34 condition and event marked already (spot: line);"

pub of_record_lines : Bool
of_record_lines =
    -- 30 before the net's and the record's
    refused 30 0 (check (as_text "x") [] 16383)
    && refused 30 0 (check drive (as_text "x") 16383)
    -- the net's, the last of them too, before the record's
    && in_record 11 2 (as_text "P,1 x") (as_text "x")
    && in_record 15 0 (as_text "T") (as_text "x")
    -- on one line 31 before 32: malformed, and a group out of order,
    && in_record_of (at_most 0 9 9) 31 1 drive (unended "E,0")
    && in_record_of (at_most 9 0 9) 31 1 drive (unended "C,0,-,-")
    && in_record_of (at_most 9 9 0) 31 1 drive (unended "B,0,0")
    && in_record_of (at_most 1 9 9) 31 3 drive (as_text "E,0 C,0,-,0 E,0")
    && in_record_of (at_most 9 1 9) 31 4 drive (as_text "E,0 C,0,-,0 B,0,0 C,0,-,-")
    -- 31 before 33,
    && in_record 31 1 drive (unended "E,3")
    && in_record 31 3 drive (as_text "E,0 C,0,-,0 E,3")
    && in_record 31 4 drive (as_text "E,0 C,0,-,0 B,0,0 E,3")
    && in_record 31 4 drive (as_text "E,0 C,0,-,0 B,0,0 C,5,-,-")
    -- 31 before 34,
    && in_record 31 4 drive (unended "E,0 C,0,-,0 B,0,0 B,0,0")
    -- 32 before 33, of events, of conditions and of marks,
    && in_record_of (at_most 0 9 9) 32 1 drive (as_text "E,3")
    && in_record_of (at_most 9 0 9) 32 1 drive (as_text "C,5,-,-")
    && in_record_of (at_most 9 9 0) 32 1 drive (as_text "B,0,0")
    && in_record_of (at_most 9 9 0) 32 1 drive (as_text "A,0,0")
    -- 32 before 34. No line meets 33 and 34: a mark that stands already names what is declared.
    && in_record_of (at_most 9 9 1) 32 4 drive (as_text "E,0 C,0,-,0 B,0,0 A,0,0")
    -- at the first of several lines, and whatever a later line meets
    && in_record 31 2 drive (as_text "E,0 x x E,3")
    && in_record_of (at_most 1 9 9) 32 2 drive (as_text "E,0 E,0 E,0 E,3 x")
    && in_record_of (at_most 9 1 9) 32 2 drive (as_text "C,0,-,- C,0,-,- C,0,-,- C,5,-,- E,0")
    && in_record_of (at_most 9 9 1) 32 5 drive (as_text "E,0 E,0 C,0,-,0 B,0,0 B,0,1 B,0,1 B,9,9 C,0,-,-")
    && in_record_of (at_most 2 9 9) 33 2 drive (as_text "E,0 E,3 E,3 E,0 E,0 x")
    && in_record_of (at_most 9 1 9) 33 1 drive (as_text "C,5,-,- C,5,-,- C,0,-,- C,0,-,- E,0")
    && in_record_of (at_most 9 9 1) 33 3 drive (as_text "E,0 C,0,-,0 B,1,0 B,0,1 B,0,0 B,0,0 C,0,-,-")
    && in_record_of (at_most 9 9 2) 34 4 drive (as_text "E,0 C,0,-,0 B,0,0 B,0,0 A,0,0 B,9,9 C,0,-,-")

-- ---- "then 35 initial count (lowest place), 36 inputs or outputs, 37 mark missing or undue, 38 B on initial or A on
-- unconsumed, 39 event strictly before itself (36 to 39: lowest event), each rule over the whole record before the
-- next."

-- a transition that only its own output can enable, and one that its own input place inhibits
own_ways : List ℕ
own_ways = as_text "P,0 P,1 P,0 T T I,0,0 O,0,0 I,1,1 O,1,2 H,1,1"

-- a transition that its own input place inhibits, and one that the first's output place inhibits
emptied : List ℕ
emptied = as_text "P,1 P,1 P,0 P,0 T T I,0,0 O,0,2 H,0,0 I,1,1 O,1,3 H,2,1"

pub of_rules : Bool
of_rules =
    -- every line before the rules: 34 where place 2 has no initial condition
    in_record 34 4 drive (as_text "E,0 C,0,-,0 B,0,0 B,0,0")
    && in_record 31 2 drive (as_text "E,0 x")
    -- 35 before 36, 37, 38 and 39, here of event 0
    && in_record 35 2 drive (as_text "E,0 C,0,-,- C,1,0,-")
    && in_record 35 2 drive (as_text "E,0 C,0,-,0 C,1,0,- A,0,0")
    && in_record 35 3 crossed (as_text "E,0 E,1 C,0,-,0 C,1,-,1 C,2,0,- C,3,1,- C,3,-,- A,3,0 B,2,1 B,4,0")
    && in_record 35 1 own_ways (as_text "E,0 C,0,0,0")
    -- 36 of event 1 before 37, 38 and 39 of event 0
    && in_record 36 1 drive (as_text "E,2 E,0 C,0,-,1 C,2,-,0 C,3,0,- A,0,0")
    && in_record 36 1 crossed (as_text "E,0 E,1 C,0,-,0 C,1,-,1 C,2,0,- C,3,1,- C,3,1,- A,3,0 A,4,0 B,2,1")
    && in_record 36 1 own_ways (as_text "E,0 E,1 C,0,0,0 C,1,-,1 A,1,1")
    -- 37 of event 1 before 38 and 39 of event 0
    && in_record 37 1 crossed (as_text "E,0 E,1 C,0,-,0 C,1,-,1 C,2,0,- C,3,1,- A,3,0")
    && in_record 37 1 own_ways (as_text "E,0 E,1 C,0,0,0 C,1,-,1 C,2,1,-")
    -- 38 of event 1 before 39 of event 0
    && in_record 38 1 own_ways (as_text "E,0 E,1 C,0,0,0 C,1,-,1 C,2,1,- B,1,1")

-- "35 initial count (lowest place) .. (36 to 39: lowest event)"
pub of_rule_spots : Bool
of_rule_spots =
    -- 35 over too many and too few together
    in_record 35 1 drive (as_text "C,0,-,- C,1,-,- C,4,-,-")
    && in_record 35 0 drive (as_text "C,2,-,- C,3,-,-")
    -- 36 over inputs and outputs together
    && in_record 36 1 drive (as_text "E,0 E,1 E,2 C,0,-,0 C,2,-,- C,1,0,-")
    && in_record 36 0 drive (as_text "E,0 E,2 C,0,-,0 C,2,-,- C,3,1,-")
    && in_record 36 0 drive (as_text "E,0 E,2 C,0,-,- C,2,-,1 C,1,0,-")
    -- 37 over missing and undue together, whatever the marks' order
    && in_record 37 1 in_its_way (as_text "E,0 E,0 E,0 C,0,-,0 C,0,-,1 C,0,-,2 C,1,0,- C,1,1,- C,1,2,- B,4,0 B,5,0")
    && in_record 37 0 crossed (as_text "E,0 E,1 C,0,-,0 C,1,-,1 C,2,0,- C,3,1,- B,3,1 B,2,1")
    && in_record 37 0 crossed (as_text "E,0 E,1 C,0,-,0 C,1,-,1 C,2,0,- C,3,1,- B,3,0 B,2,0")
    -- 38 over B and A together, whatever the marks' order
    && in_record 38 0 crossed (as_text "E,0 E,1 C,0,-,0 C,1,-,1 C,2,0,- C,3,1,- A,2,1 A,3,0")
    && in_record 38 0 emptied (as_text "E,0 E,1 C,0,-,0 C,1,-,1 C,2,0,- C,3,1,- A,2,1 B,0,0")
    && in_record 38 0 emptied (as_text "E,1 E,0 C,0,-,1 C,1,-,0 C,2,1,- C,3,0,- B,0,1 A,2,0")
    && in_record 38 1 in_its_way (as_text "E,0 E,0 E,0 C,0,-,0 C,0,-,1 C,0,-,2 C,1,0,- C,1,1,- C,1,2,- A,4,2 A,3,2 A,5,1 A,3,1 B,5,0 B,4,0")
    -- 39
    && in_record 39 1 (as_text "P,0 P,1 P,0 T T I,0,0 O,0,0 I,1,1 O,1,2") (as_text "E,1 E,0 E,0 C,1,-,0 C,2,0,- C,0,1,1 C,0,2,2")

-- ---- "Replay: 40 under 4,128 counts (spot 0); net's; check's but 30; per line 41 malformed, 42 unknown event, 43
-- event repeated, 44 order broken (spot: line); then 45 event missing (lowest)."

-- in the record of case a each event is strictly before the next
pub of_replay : Bool
of_replay =
    -- 40 before the net's, the record's and the arrangement's
    refused 40 0 (replay (as_text "x") [] [] 4127)
    && refused 40 0 (replay drive (as_text "x") [] 4127)
    && refused 40 0 (replay drive record_b (as_text "x") 4127)
    -- the net's before the record's, and these, the last of them too, before the arrangement's
    && in_arrangement 15 0 (as_text "T") (as_text "x") (as_text "x")
    && in_arrangement 31 2 drive (as_text "E,0 x") (as_text "x")
    && in_arrangement 39 0 net_k record_k (as_text "x")
    -- on one line 41 before 42,
    && in_arrangement 41 1 drive record_b (unended "G,2")
    && in_arrangement 41 1 drive record_b (as_text "G,2,x")
    -- 42 before 43,
    && in_arrangement 42 1 drive record_b (as_text "G,1,1,2")
    && in_arrangement 42 1 drive record_b (as_text "G,2,2")
    -- 43 before 44
    && in_arrangement 43 1 drive record_b (as_text "G,0,0")
    && in_arrangement 43 2 drive record_a (as_text "G,0 G,2,0")
    -- at the first of several lines, and whatever a later line meets
    && in_arrangement 41 2 drive record_a (as_text "G,0 x x G,3")
    && in_arrangement 42 2 drive record_a (as_text "G,0 G,3 G,3 x")
    && in_arrangement 43 2 drive record_a (as_text "G,0 G,0 G,0 G,3 x")
    && in_arrangement 44 2 drive record_a (as_text "G,0 G,2 G,2 G,3 x")
    && in_arrangement 44 1 drive record_a (as_text "G,2 G,1 G,0")
    -- 45 after every line
    && in_arrangement 41 2 drive record_a (as_text "G,0 x")
    && in_arrangement 42 2 drive record_a (as_text "G,0 G,3")
    && in_arrangement 43 2 drive record_a (as_text "G,0 G,0")
    && in_arrangement 44 2 drive record_a (as_text "G,0 G,2")
    -- 45 at the lowest event
    && in_arrangement 45 1 drive record_a (as_text "G,0")
    && in_arrangement 45 0 drive record_a []

-- ---- "Arrange: 50 buffer under 768 bytes (spot 0); net's; check's but 30."

pub of_arrange : Bool
of_arrange =
    -- 50 before the net's and the record's
    refused 50 0 (arrange (as_text "x") [] 767)
    && refused 50 0 (arrange drive (as_text "x") 767)
    && refused 50 0 (arrange net_k record_k 767)
    -- the net's before the record's, of which the last is judged too
    && refused 15 0 (arrange (as_text "T") (as_text "x") 768)
    && refused 39 0 (arrange net_k record_k 768)

-- ---- "Refused line: 46 choice over 1 or no such line (spot: the line number asked)"

pub of_line : Bool
of_line =
    -- a line of the other text is none, and no line stands in a third
    refused 46 2 (refused_line (as_text "P,1 T") (as_text "S,0") 1 2)
    && refused 46 2 (refused_line (as_text "P,1") (as_text "S,0 S,1") 0 2)
    && refused 46 1 (refused_line (as_text "P,1 T") (as_text "S,0") 2 1)
    && refused 46 9 (refused_line (as_text "P,1 T") (as_text "S,0") 2 9)
    && refused 46 0 (refused_line (as_text "P,1 T") (as_text "S,0") 255 0)

-- ---- "Program: 10 input over 65,536 bytes or no `=` line (spot 0)."

pub of_program : Bool
of_program =
    -- 10 before the net's, and these, the last of them too, before the log's
    same (program (as_text "x")) (as_text "X,10,0")
    && same (program (as_text "P,1 x = x")) (as_text "X,11,2")
    && same (program (as_text "T = x")) (as_text "X,15,0")

pub refusals-hold : (of_net ≡ true) × (of_build ≡ true) × (of_record_lines ≡ true) × (of_rules ≡ true) × (of_rule_spots ≡ true) × (of_replay ≡ true) × (of_arrange ≡ true) × (of_line ≡ true) × (of_program ≡ true)
unfolding open_all in_net in_log in_record in_arrangement build_within in_log_of in_record_of of_net of_build of_record_lines crossed own_ways in_its_way emptied of_rules of_rule_spots of_replay of_arrange of_line of_program
refusals-hold = (refl, refl, refl, refl, refl, refl, refl, refl, refl)
