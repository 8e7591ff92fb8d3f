-- What a to k leave open, computed too: each case fails under a reading of document 01 that a to k would let pass.
-- The order of the refusals and their spots stand in `RefusalOrder`, the limits and sizes in `Bounds`.
use Rattle.std.specs.Prelude.{◌≡◌, refl, ℕ, ◌+◌, ◌*◌, Bool, true, ◌&&◌, List, [], ◌∷◌, ◌++◌, map, take, drop, replicate, eqb}
use Rattle.spec.specs.Lists.{up_to, count}
use Rattle.spec.specs.Classes.{class_code}
use Rattle.spec.specs.Text.{class_of, digit_of, is_a, line_with}
use Rattle.spec.specs.Net.{places, read_net}
use Rattle.spec.specs.Building.{build}
use Rattle.spec.specs.Checking.{check}
use Rattle.spec.specs.Arranging.{arrange}
use Rattle.spec.specs.Replaying.{replay}
use Rattle.spec.specs.LineParts.{refused_line, part_of}
use Rattle.spec.specs.Printing.{program}
use Rattle.spec.specs.Buffer.{build_leaves, check_leaves, replay_leaves, arrange_leaves}
use Rattle.spec.specs.Values.{net_returns, build_returns, check_returns, replay_returns, arrange_returns, line_returns, program_returns}
use Rattle.spec.specs.Quoted.{as_text, unended, ascii, same, refused, given, passes, zeros_but}
use Rattle.spec.specs.Cases.{drive, record_a, record_b, net_k, open_all}
use Rattle.spec.specs.declared.Class.TheVariants.{Foreign}
use Rattle.spec.specs.declared.Field.TheVariants.{Number, Dash}
use Rattle.spec.specs.declared.Numbers.{Numbers}

builds : List ℕ → List ℕ → List ℕ → Bool
builds net log bytes = given (same bytes) (build net log 48256)

passes_check : List ℕ → List ℕ → Bool
passes_check net run = passes (check net run 16384)

declares : List ℕ → ℕ → ℕ → Bool
declares net p t = given (λ n. eqb (places n) p && eqb n.transitions t) (read_net net)

-- ---- "Each byte is a digit, a comma, a dash, a line end, a letter in use or foreign."

pub byte_classes : Bool
byte_classes =
    same (map (λ b. class_code (class_of b)) (ascii "09,-PTIOHSECBAGRKJW")) (0 ∷ 0 ∷ 1 ∷ 2 ∷ 4 ∷ 5 ∷ 6 ∷ 7 ∷ 8 ∷ 9 ∷ 10 ∷ 11 ∷ 12 ∷ 13 ∷ 14 ∷ 15 ∷ 16 ∷ 17 ∷ 18 ∷ [])
    && eqb (class_code (class_of 10)) 3
    -- Z and X are only printed, `=` parts the program's input
    && same (map (λ b. class_code (class_of b)) (ascii "ZX=pt/: ")) (replicate 8 20)
    -- of the 256 bytes all are foreign but ten digits, fifteen letters, the comma, the dash, the line end and the return
    && eqb (count (is_a Foreign) (up_to 256)) 227
    -- the value of a byte that is no digit is 0
    && same (map digit_of (ascii "0189A,")) (0 ∷ 1 ∷ 8 ∷ 9 ∷ 0 ∷ 0 ∷ [])

-- ---- "A number is one to four digits in base ten without needless leading zeros"; "a last piece without it is
-- malformed"

pub texts : Bool
texts =
    declares (as_text "P,0") 1 0
    && refused 11 1 (read_net (as_text "P,00"))
    && refused 11 1 (read_net (as_text "P,01"))
    && refused 11 1 (read_net (as_text "P,0032"))
    && refused 21 1 (build drive (as_text "S,00") 48256)
    && refused 31 1 (check drive (as_text "E,00") 16384)
    && refused 41 1 (replay drive record_b (as_text "G,00") 4128)
    -- five digits are malformed, four that are too large are over a limit or undeclared
    && refused 11 1 (read_net (as_text "P,10000"))
    && refused 12 1 (read_net (as_text "P,9999"))
    && refused 21 1 (build drive (as_text "S,10000") 48256)
    && refused 22 1 (build drive (as_text "S,9999") 48256)
    -- "one capital letter and its fields in fixed order": a field too many, one too few, two letters
    && refused 11 1 (read_net (as_text "P,1,1"))
    && refused 11 1 (read_net (as_text "T,0"))
    && refused 11 3 (read_net (as_text "P,1 T H,0,0,0"))
    && refused 11 1 (read_net (as_text "P"))
    && refused 11 3 (read_net (as_text "P,1 T I,0"))
    && refused 11 1 (read_net (as_text "PP,1"))
    -- a last piece without a line end, an empty line, an empty field
    && refused 11 1 (read_net (unended "P,1"))
    && refused 11 2 (read_net (as_text "P,1  T"))
    && refused 11 1 (read_net (as_text "P,"))
    && refused 11 1 (read_net (as_text "T,"))
    -- a dash, a lower letter, a space, a sign, a letter of another text
    && refused 11 1 (read_net (as_text "P,-"))
    && refused 11 1 (read_net (as_text "p,1"))
    && refused 11 1 (read_net (ascii "P, 1" ++ 10 ∷ []))
    && refused 11 1 (read_net (as_text "P,+1"))
    && refused 11 1 (read_net (as_text "S,0"))
    -- "Empty text has no lines."
    && declares [] 0 0
    -- how numbers are written
    && same (line_with "C" (Number 0 ∷ Dash ∷ Number 10 ∷ [])) (as_text "C,0,-,10")
    && same (line_with "Z" (Number 128 ∷ Number 512 ∷ Number 8128 ∷ Number 1 ∷ [])) (as_text "Z,128,512,8128,1")

-- ---- "An arc names things declared above it."; 14 is keyed by the letter; an inhibitor is no input

pub nets : Bool
nets =
    refused 13 2 (read_net (as_text "P,1 I,0,0 T O,0,0"))
    -- "`O,transition,place`", where the others have the place first
    && refused 13 4 (read_net (as_text "P,1 P,0 T O,1,0"))
    && refused 13 4 (read_net (as_text "P,1 P,0 T I,0,1"))
    && refused 13 4 (read_net (as_text "P,1 P,0 T H,0,1"))
    -- an arc of each kind between the same two, and a second of one kind
    && declares (as_text "P,1 T I,0,0 H,0,0 O,0,0") 1 1
    && refused 14 4 (read_net (as_text "P,1 T I,0,0 I,0,0"))
    && refused 14 4 (read_net (as_text "P,1 T O,0,0 O,0,0"))
    && refused 14 4 (read_net (as_text "P,1 T H,0,0 H,0,0"))
    && refused 15 0 (read_net (as_text "P,1 T H,0,0 O,0,0"))
    -- lines in any order, and no transition at all
    && declares (as_text "P,1 T I,0,0 P,0 O,0,1") 2 1
    && declares (as_text "P,1") 1 0

-- ---- "Both are judged before the step."

pipe : List ℕ
pipe = as_text "P,1 P,0 P,0 T T I,0,0 O,0,1 I,1,1 O,1,2"

-- two transitions that fill each other's inhibiting place
unfoldable pub crossed : List ℕ
unfolding as_text
crossed = as_text "P,1 P,1 P,0 P,0 T T I,0,0 O,0,2 H,3,0 I,1,1 O,1,3 H,2,1"

crossed_record : List ℕ
crossed_record = as_text "E,0 E,1 C,0,-,0 C,1,-,1 C,2,0,- C,3,1,- B,3,0 B,2,1"

-- a transition whose output place inhibits it
unfoldable pub in_its_way : List ℕ
unfolding as_text
in_its_way = as_text "P,3 P,0 T I,0,0 O,0,1 H,1,0"

pub steps : Bool
steps =
    -- a token that is taken in the step still inhibits in it
    refused 25 2 (build drive (as_text "S,0 S,1,2") 48256)
    -- one that is made in it can not be used in it,
    && refused 24 1 (build pipe (as_text "S,0,1") 48256)
    -- and does not inhibit in it: the two weak pairs are a cycle, and marks stand by event, then condition
    && builds crossed (as_text "S,0,1") crossed_record
    && given (λ c. eqb c.independents 0 && same (take 256 c.table) (zeros_but 256 ((128 * 0 + 1, 1) ∷ (128 * 1 + 0, 1) ∷ []))) (check crossed crossed_record 16384)
    -- every place that is taken from must have enough, every place that inhibits must be empty
    && refused 24 1 (build (as_text "P,1 P,0 P,0 T I,0,0 I,1,0 O,0,2") (as_text "S,0") 48256)
    && refused 25 1 (build (as_text "P,1 P,0 P,1 T I,0,0 O,0,1 H,1,0 H,2,0") (as_text "S,0") 48256)
    -- "A log line is `S` and one or more transitions"
    && refused 21 1 (build drive (as_text "S") 48256)
    && refused 21 1 (build drive (as_text "S,-") 48256)
    && refused 21 1 (build drive (unended "S,0") 48256)

-- ---- building

pub buildings : Bool
buildings =
    -- B although the condition is consumed, in a later step
    builds drive (as_text "S,2 S,0 S,1") (as_text "E,2 E,0 E,1 C,0,-,1 C,2,-,0 C,3,0,- C,1,1,2 C,4,2,- B,3,0")
    -- an event's own output is never marked, another's of the same step is; marks stand by event, then condition
    && builds in_its_way (as_text "S,0,0,0") (as_text "E,0 E,0 E,0 C,0,-,0 C,0,-,1 C,0,-,2 C,1,0,- C,1,1,- C,1,2,- B,4,0 B,5,0 B,3,1 B,5,1 B,3,2 B,4,2")
    -- the lowest-numbered condition is taken
    && builds (as_text "P,2 P,0 T I,0,0 O,0,1") (as_text "S,0 S,0") (as_text "E,0 E,0 C,0,-,0 C,0,-,1 C,1,0,- C,1,1,-")
    -- one for each input place
    && builds (as_text "P,1 P,1 P,0 P,0 T I,0,0 I,1,0 O,0,2 O,0,3") (as_text "S,0") (as_text "E,0 C,0,-,0 C,1,-,0 C,2,0,- C,3,0,-")
    -- events follow the line, initial conditions and outputs ascend by place, the outputs of an earlier event come
    -- first
    && builds drive (as_text "S,2,0") (as_text "E,2 E,0 C,0,-,1 C,2,-,0 C,3,0,- C,1,1,- B,3,0")
    && builds (as_text "P,1 P,0 P,0 T I,0,0 O,0,2 O,0,1") (as_text "S,0") (as_text "E,0 C,0,-,0 C,1,0,- C,2,0,-")

-- ---- the check

-- weak both ways between 0 and 1, strict from 1 to 2, weak from 2 to 1: event 0 is on a closed walk with a strict
-- pair, and on no simple cycle with one
walk_net : List ℕ
walk_net = as_text "P,1 P,1 P,0 P,0 P,0 P,0 P,0 T T T I,0,0 O,0,2 H,3,0 I,1,1 O,1,3 O,1,4 O,1,5 H,2,1 I,4,2 O,2,6 H,5,2"

walk : List ℕ
walk = as_text "E,0 E,1 E,2 C,0,-,0 C,1,-,1 C,2,0,- C,3,1,- C,4,1,2 C,5,1,- C,6,2,- B,3,0 B,2,1 B,5,2"

-- the same, where the walk goes round a strict cycle at another event
round_net : List ℕ
round_net = as_text "P,1 P,1 P,0 P,0 P,0 T T T I,0,0 O,0,2 H,4,0 I,1,1 O,1,3 I,3,2 O,2,4 H,2,2 H,3,2"

round : List ℕ
round = as_text "E,0 E,1 E,2 C,0,-,0 C,1,-,1 C,2,0,- C,3,1,2 C,4,2,- B,4,0 B,2,2 B,3,2"

-- "per line 31 malformed or group out of order, .. 33 undeclared number, 34 condition and event marked already"
pub records : Bool
records =
    -- "All `E` .., then all `C` .., then all marks"
    refused 31 3 (check drive (as_text "E,0 C,0,-,0 E,2") 16384)
    && refused 31 4 (check drive (as_text "E,0 C,0,-,0 B,0,0 E,2") 16384)
    && refused 31 4 (check drive (as_text "E,0 C,0,-,0 B,0,0 C,2,-,-") 16384)
    && refused 31 4 (check drive (as_text "E,0 C,0,-,0 A,0,0 C,2,-,-") 16384)
    -- a dash stands for a producer or a consumer, alone in its field
    && refused 31 1 (check drive (as_text "E,-") 16384)
    && refused 31 1 (check drive (as_text "C,-,-,-") 16384)
    && refused 31 1 (check drive (as_text "C,0,--,-") 16384)
    && refused 31 1 (check drive (as_text "C,0,-") 16384)
    && refused 31 1 (check drive (as_text "C,0,-,-,-") 16384)
    && refused 31 1 (check drive (as_text "E,0,0") 16384)
    && refused 31 3 (check drive (as_text "E,0 C,0,-,0 B,0,-") 16384)
    -- transitions and places of the net, events and conditions of the record
    && refused 33 1 (check drive (as_text "E,3") 16384)
    && refused 33 1 (check drive (as_text "C,5,-,-") 16384)
    && refused 33 2 (check drive (as_text "E,0 C,0,1,-") 16384)
    && refused 33 2 (check drive (as_text "E,0 C,0,-,1") 16384)
    && refused 33 3 (check drive (as_text "E,0 C,0,-,0 B,1,0") 16384)
    && refused 33 3 (check drive (as_text "E,0 C,0,-,0 B,0,1") 16384)
    && refused 33 1 (check drive (as_text "B,0,0") 16384)
    -- a condition and event marked by both letters
    && refused 34 8 (check drive (as_text "E,0 E,2 C,0,-,0 C,2,-,1 C,1,0,- C,3,1,- B,2,1 A,2,1") 16384)
    && refused 34 8 (check drive (as_text "E,0 E,2 C,0,-,0 C,2,-,1 C,1,0,- C,3,1,- A,2,1 B,2,1") 16384)

-- two events of one transition, in no relation
twice : List ℕ
twice = as_text "P,2 P,0 T I,0,0 O,0,1"

twice_record : List ℕ
twice_record = as_text "E,0 E,0 C,0,-,1 C,0,-,0 C,1,0,- C,1,1,-"

-- "A process has:"
pub checks : Bool
checks =
    -- "It also returns the events, conditions and independent pairs"
    given (λ c. eqb c.events 2 && eqb c.conditions 4 && eqb c.independents 1) (check twice twice_record 16384)
    -- in a group any order will do: events against the run, conditions and marks as they come; no lowest condition is
    -- asked
    && passes_check drive (as_text "E,2 E,1 E,0 C,3,0,- C,4,1,- C,1,2,1 C,2,-,0 C,0,-,2 A,2,0")
    && passes_check crossed (as_text "E,0 E,1 C,0,-,0 C,1,-,1 C,2,0,- C,3,1,- B,2,1 B,3,0")
    && passes_check twice twice_record
    -- a cycle that is all weak
    && passes_check in_its_way (as_text "E,0 E,0 C,0,-,0 C,0,-,1 C,0,-,- C,1,0,- C,1,1,- B,4,0 B,3,1")
    -- "per place, as many initial conditions as initial tokens": more, fewer, and where there are no tokens
    && refused 35 0 (check drive (as_text "C,0,-,- C,0,-,- C,2,-,-") 16384)
    && refused 35 2 (check drive (as_text "C,0,-,-") 16384)
    && refused 35 1 (check drive (as_text "C,0,-,- C,1,-,- C,2,-,-") 16384)
    -- "one consumed condition if that input arc exists, else none; the same for outputs": none, two, and one with no
    -- arc
    && refused 36 0 (check pipe (as_text "E,0 C,0,-,- C,1,0,-") 16384)
    && refused 36 0 (check in_its_way (as_text "E,0 C,0,-,0 C,0,-,0 C,0,-,- C,1,0,-") 16384)
    && refused 36 0 (check drive (as_text "E,0 C,0,-,0 C,2,-,0 C,1,0,-") 16384)
    && refused 36 0 (check pipe (as_text "E,0 C,0,-,0") 16384)
    && refused 36 0 (check pipe (as_text "E,0 C,0,-,0 C,1,0,- C,1,0,-") 16384)
    && refused 36 0 (check pipe (as_text "E,0 C,0,-,0 C,1,0,- C,2,0,-") 16384)
    -- an undue mark: where the place does not inhibit, and at the event's own output
    && refused 37 0 (check drive (as_text "E,0 C,0,-,0 C,2,-,- C,1,0,- B,2,0") 16384)
    && refused 37 0 (check in_its_way (as_text "E,0 C,0,-,0 C,0,-,- C,0,-,- C,1,0,- B,3,0") 16384)
    -- a mark is due where the event consumes the condition; B on it is on an initial one
    && refused 37 0 (check net_k (as_text "E,0 C,0,-,0 C,1,0,-") 16384)
    && refused 38 0 (check net_k (as_text "E,0 C,0,-,0 C,1,0,- B,0,0") 16384)
    -- a closed walk with a strict pair; a producer that is the consumer
    && refused 39 0 (check walk_net walk 16384)
    && refused 39 0 (check round_net round 16384)
    && refused 39 0 (check (as_text "P,0 T I,0,0 O,0,0") (as_text "E,0 C,0,0,0") 16384)

-- ---- arranging

arranges : List ℕ → List ℕ → ℕ → List ℕ → Bool
arranges net run k lines = given (λ a. eqb a.lines k && same a.bytes lines) (arrange net run 768)

pub arrangings : Bool
arrangings =
    -- as early as possible, not only as short as possible
    arranges (as_text "P,1 P,0 P,0 P,1 P,0 T T T I,0,0 O,0,1 I,1,1 O,1,2 I,3,2 O,2,4")
    (as_text "E,0 E,1 E,2 C,0,-,0 C,3,-,2 C,1,0,1 C,2,1,- C,4,2,-") 2 (as_text "G,0,2 G,1")
    -- a weak successor of a strict successor is lifted
    && arranges (as_text "P,1 P,0 P,0 P,0 P,1 T T T I,0,0 O,0,1 I,1,1 O,1,2 H,3,1 I,4,2 O,2,3")
    (as_text "E,0 E,1 E,2 C,0,-,0 C,4,-,2 C,1,0,1 C,2,1,- C,3,2,- B,4,1") 2 (as_text "G,0 G,1,2")

-- ---- replaying

replays : List ℕ → ℕ → Bool
replays arrangement k = given (λ r. eqb r.lines k) (replay drive record_b arrangement 4128)

pub replayings : Bool
replayings =
    -- "with one or more events in any order"
    replays (as_text "G,0,1") 1
    && replays (as_text "G,1,0") 1
    && refused 41 1 (replay drive record_b (as_text "G") 4128)
    && refused 41 1 (replay drive record_b (unended "G,0,1") 4128)
    && refused 41 1 (replay drive record_b (as_text "S,0,1") 4128)
    && refused 42 1 (replay drive record_b (as_text "G,1,2") 4128)
    -- "each event of the record once in all": in a line and over the lines
    && refused 43 1 (replay drive record_b (as_text "G,1,1") 4128)
    && refused 43 2 (replay drive record_b (as_text "G,1 G,1") 4128)
    && refused 43 1 (replay drive record_b (line_with "G" (replicate 200 (Number 1))) 4128)
    -- "strict predecessors stand in earlier lines and weak ones no later"
    && refused 44 1 (replay drive record_a (as_text "G,0,1 G,2") 4128)
    && refused 44 2 (replay drive record_a (as_text "G,0 G,1,2") 4128)
    && refused 44 1 (replay drive record_b (as_text "G,0 G,1") 4128)
    -- a predecessor that never comes is 44 at its successor's line
    && refused 44 1 (replay drive record_b (as_text "G,0") 4128)
    && refused 45 0 (replay drive record_b (as_text "G,1") 4128)
    -- no events, no lines: row 0 alone
    && given (λ r. eqb r.lines 0 && same r.counts (zeros_but 4128 ((0, 1) ∷ (2, 1) ∷ []))) (replay drive (as_text "C,0,-,- C,2,-,-") [] 4128)
    && refused 42 1 (replay drive (as_text "C,0,-,- C,2,-,-") (as_text "G,0") 4128)

-- ---- the refused line, and the program

shows : List ℕ → List ℕ → ℕ → ℕ → ℕ → ℕ → List ℕ → Bool
shows net second choice line t s bytes =
    let p = part_of (refused_line net second choice line) in eqb p.text t && eqb p.start s && same p.bytes bytes

pub lines_shown : Bool
lines_shown =
    -- an unended last piece, an empty line, a line without its end
    shows (as_text "P,1 T") (unended "S,0 x") 1 2 1 4 (ascii "x")
    && shows (as_text "P,1  T") [] 0 2 0 4 []
    && shows (as_text "P,1 T") [] 0 2 0 4 (ascii "T")
    -- no line 0, none behind the last
    && refused 46 0 (refused_line (as_text "P,1 T") (as_text "S,0") 0 0)
    && refused 46 3 (refused_line (as_text "P,1 T") (as_text "S,0") 0 3)
    -- "the part is empty, at the start of the net text", whatever the choice
    && shows (as_text "P,1 T") (as_text "S,0") 1 9 0 0 []
    && shows (as_text "P,1 T") (as_text "S,0") 2 1 0 0 []

pub programs : Bool
programs =
    -- the line `=` is ended; "the first counts"; log lines count from behind it
    same (program (unended "=")) (as_text "X,10,0")
    && same (program (as_text "=")) (as_text "Z,0,0,0,0")
    && same (program []) (as_text "X,10,0")
    && same (program (drive ++ as_text "= =")) (as_text "X,21,1")
    && same (program (drive ++ as_text "=" ++ as_text "S,0 S,2")) (as_text "X,25,2")
    && same (program (as_text "== =,0")) (as_text "X,10,0")
    && same (program (as_text "P =")) (as_text "X,11,1")
    && same (program (as_text "P,1 = S,0")) (as_text "X,22,1")
    -- "It prints the record, then `Z,events,conditions,pairs,lines`"
    && same (program (drive ++ as_text "=" ++ as_text "S,0,2")) (record_b ++ as_text "Z,2,4,0,1")

-- ---- "A refusal .. writes nothing. .. past what an operation writes, a buffer keeps its old contents."

pub buffers : Bool
buffers =
    same (build_leaves (build drive [] 48256) (replicate 20 7)) (as_text "C,0,-,- C,2,-,-" ++ replicate 4 7)
    && same (build_leaves (build drive (as_text "S,0,0") 48256) (replicate 20 7)) (replicate 20 7)
    && same (take 130 (check_leaves (check drive record_b 16384) [])) (zeros_but 130 ((128 * 1 + 0, 1) ∷ []))
    && same (drop 16380 (check_leaves (check drive record_b 16386) (replicate 16386 7))) (replicate 4 0 ++ replicate 2 7)
    && same (check_leaves (check drive (as_text "x") 16384) (replicate 3 7)) (replicate 3 7)
    && same (take 35 (replay_leaves (replay drive record_b (as_text "G,1 G,0") 4128) [])) (zeros_but 35 ((32 * 0 + 0, 1) ∷ (32 * 0 + 2, 1) ∷ (32 * 1 + 0, 1) ∷ []))
    && same (drop 4124 (replay_leaves (replay drive record_b (as_text "G,1 G,0") 4130) (replicate 4130 7))) (replicate 4 0 ++ replicate 2 7)
    && same (replay_leaves (replay drive record_b (as_text "x") 4128) (replicate 3 7)) (replicate 3 7)
    && same (arrange_leaves (arrange drive record_b 768) (replicate 8 7)) (as_text "G,0,1" ++ replicate 2 7)
    && same (arrange_leaves (arrange drive (as_text "x") 768) (replicate 8 7)) (replicate 8 7)

-- ---- what a call returns: number, spot and up to three values

five_numbers : Numbers → List ℕ
five_numbers r = r.number ∷ r.spot ∷ r.a ∷ r.b ∷ r.c ∷ []

pub returns : Bool
returns =
    -- places and transitions; bytes; events, conditions and independent pairs; lines; bytes and lines; start and
    -- length; bytes
    same (five_numbers (net_returns drive)) (0 ∷ 0 ∷ 5 ∷ 3 ∷ 0 ∷ [])
    && same (five_numbers (build_returns drive (as_text "S,0,2") 48256)) (0 ∷ 0 ∷ 46 ∷ 0 ∷ 0 ∷ [])
    && same (five_numbers (check_returns twice twice_record 16384)) (0 ∷ 0 ∷ 2 ∷ 4 ∷ 1 ∷ [])
    && same (five_numbers (replay_returns drive record_b (as_text "G,1 G,0") 4128)) (0 ∷ 0 ∷ 2 ∷ 0 ∷ 0 ∷ [])
    && same (five_numbers (arrange_returns drive record_b 768)) (0 ∷ 0 ∷ 6 ∷ 1 ∷ 0 ∷ [])
    && same (five_numbers (line_returns drive (as_text "S,0 S,12") 1 2)) (0 ∷ 0 ∷ 4 ∷ 4 ∷ 0 ∷ [])
    && same (five_numbers (program_returns (as_text "="))) (0 ∷ 0 ∷ 10 ∷ 0 ∷ 0 ∷ [])
    -- "A refusal returns number and spot", and no value; the program's operation returns how many bytes its `X` line
    -- has
    && same (five_numbers (net_returns (as_text "P,1 x"))) (11 ∷ 2 ∷ 0 ∷ 0 ∷ 0 ∷ [])
    && same (five_numbers (build_returns drive (as_text "S,0 S,2") 48256)) (25 ∷ 2 ∷ 0 ∷ 0 ∷ 0 ∷ [])
    && same (five_numbers (line_returns drive (as_text "S,0") 1 9)) (46 ∷ 9 ∷ 0 ∷ 0 ∷ 0 ∷ [])
    && same (five_numbers (program_returns [])) (0 ∷ 0 ∷ 7 ∷ 0 ∷ 0 ∷ [])

pub traps-hold : (byte_classes ≡ true) × (texts ≡ true) × (nets ≡ true) × (steps ≡ true) × (buildings ≡ true) × (records ≡ true) × (checks ≡ true) × (arrangings ≡ true) × (replayings ≡ true) × (lines_shown ≡ true) × (programs ≡ true) × (buffers ≡ true) × (returns ≡ true)
unfolding open_all builds passes_check declares byte_classes texts nets pipe crossed crossed_record in_its_way steps buildings walk_net walk round_net round records twice twice_record checks arranges arrangings replays replayings shows lines_shown programs buffers five_numbers returns
traps-hold = (refl, refl, refl, refl, refl, refl, refl, refl, refl, refl, refl, refl, refl)
