-- The limits and sizes of document 01 at their boundaries, computed: what is just within passes, and one more is
-- refused.
use Rattle.std.specs.Prelude.{◌≡◌, refl, ℕ, Bool, true, ◌&&◌, List, [], ◌∷◌, ◌++◌, replicate, eqb}
use Rattle.std.proofs.Math.Option.{none, some}
use Rattle.spec.specs.Lists.{flat}
use Rattle.spec.specs.Answer.{Answer, ◌>>=◌}
use Rattle.spec.specs.Text.{line_with}
use Rattle.spec.specs.Net.{places, read_net}
use Rattle.spec.specs.Record.{RunRecord, Condition, bench, no_condition}
use Rattle.spec.specs.Building.{Run, log_line, build}
use Rattle.spec.specs.Checking.{enter_line, check_within, check}
use Rattle.spec.specs.Arranging.{arrange}
use Rattle.spec.specs.Replaying.{replay}
use Rattle.spec.specs.Printing.{input_of, program}
use Rattle.spec.specs.Quoted.{as_text, ascii, same, refused, given, passes, at_most}
use Rattle.spec.specs.Cases.{drive, record_b, open_all}
use Rattle.spec.specs.RefusalOrder.{build_within}
use Rattle.spec.specs.declared.Field.TheVariants.{Number}
use Rattle.spec.specs.declared.MarkKind.TheVariants.{Before}

-- a text of so many equal lines
repeated : ℕ → List ℕ → List ℕ
repeated k l = flat (replicate k l)

-- ---- "At most 32 places, 32 transitions, 512 initial tokens in all."

pub of_nets : Bool
of_nets =
    given (λ n. eqb (places n) 32) (read_net (repeated 32 (as_text "P,16")))
    && refused 12 33 (read_net (repeated 33 (as_text "P,0")))
    && refused 12 33 (read_net (repeated 33 (as_text "T")))
    && refused 15 0 (read_net (repeated 32 (as_text "T")))
    && passes (read_net (as_text "P,512 P,0"))
    && refused 12 3 (read_net (as_text "P,512 P,0 P,1"))
    && refused 12 2 (read_net (as_text "P,511 P,2"))

-- ---- "At most 128 events, 512 conditions, 4,096 marks."

-- "23 over 128 events": of 128 the tokens are judged, of 129 not; those of earlier lines count
pub of_events : Bool
of_events =
    refused 24 1 (build drive (line_with "S" (replicate 128 (Number 0))) 48256)
    && refused 23 1 (build drive (line_with "S" (replicate 129 (Number 0))) 48256)
    && refused 24 3 (build drive (as_text "S,0 S,1" ++ line_with "S" (replicate 126 (Number 0))) 48256)
    && refused 23 3 (build drive (as_text "S,0 S,1" ++ line_with "S" (replicate 127 (Number 0))) 48256)
    && same (program (drive ++ as_text "=" ++ line_with "S" (replicate 128 (Number 0)))) (as_text "X,24,1")
    && same (program (drive ++ as_text "=" ++ line_with "S" (replicate 129 (Number 0)))) (as_text "X,23,1")
    -- "32 limit passed", by each operation that takes a record
    && refused 32 129 (check drive (repeated 129 (as_text "E,0")) 16384)
    && refused 32 129 (replay drive (repeated 129 (as_text "E,0")) [] 4128)
    && refused 32 129 (arrange drive (repeated 129 (as_text "E,0")) 768)

-- a line of a record behind so many events, conditions and marks; these stand all at condition 0 and event 0, as only
-- their number counts
behind : ℕ → ℕ → ℕ → List ℕ → Answer RunRecord
behind e c m bytes =
    read_net drive >>= λ n. enter_line bench n 9 (record { bytes = bytes; ended = true })
    (record { events = replicate e 0; conditions = replicate c no_condition; marks = replicate m (record { kind = Before; condition = 0; event = 0 }) })

-- "26 over 512 conditions": the initial ones and all that were made, consumed or not
pub of_conditions : Bool
of_conditions =
    refused 26 2 (build (as_text "P,511 P,0 T I,0,0 O,0,1") (as_text "S,0 S,0") 48256)
    && passes (behind 1 511 0 (ascii "C,0,-,-"))
    && refused 32 9 (behind 1 512 0 (ascii "C,0,-,-"))

-- a net whose place 0 inhibits transition 0, and place 2 transition 2; place 1 has the token that all of them move
idle : List ℕ
idle = as_text "P,0 P,1 P,0 T T T I,1,0 O,0,1 I,1,1 O,1,1 I,1,2 O,2,1 H,2,2 H,0,0"

consumed_at : ℕ → Condition
consumed_at p = record { place = p; producer = none; consumer = some 0 }

-- a run where 64 × 64 marks are due: its events are of transition 0, and of its conditions 64 stand at place 0, one
-- at place 2
full_run : Run
full_run =
    record {
      marking = 0 ∷ 1 ∷ 0 ∷ [];
      events = replicate 64 (record { transition = 0; step = 1 });
      conditions = replicate 64 (consumed_at 0) ++ consumed_at 2 ∷ record { place = 1; producer = none; consumer = none } ∷ [];
    }

-- the next line of its log
next : List ℕ → Answer Run
next bytes = read_net idle >>= λ n. log_line bench n 9 (record { bytes = bytes; ended = true }) full_run

-- "27 over 4,096 marks": transition 1 adds none, transition 2 one
pub of_marks : Bool
of_marks =
    passes (next (ascii "S,1"))
    && refused 27 9 (next (ascii "S,2"))
    && passes (behind 2 1 4095 (ascii "B,0,1"))
    && refused 32 9 (behind 2 1 4096 (ascii "B,0,1"))

-- ---- the same for any limits

pub of_any : Bool
of_any =
    passes (build_within (at_most 3 5 1) drive (as_text "S,0 S,1 S,2"))
    && refused 23 3 (build_within (at_most 2 5 1) drive (as_text "S,0 S,1 S,2"))
    && refused 26 3 (build_within (at_most 3 4 1) drive (as_text "S,0 S,1 S,2"))
    && refused 27 3 (build_within (at_most 3 5 0) drive (as_text "S,0 S,1 S,2"))
    -- "27 counts the marks due when that line is played": the mark of the first line's event is due when the second
    -- is played
    && passes (build_within (at_most 2 4 1) drive (as_text "S,2 S,0"))
    && refused 27 2 (build_within (at_most 2 4 0) drive (as_text "S,2 S,0"))
    && passes (check_within (at_most 2 4 1) drive record_b 16384)
    && refused 32 2 (check_within (at_most 1 4 1) drive record_b 16384)
    && refused 32 6 (check_within (at_most 2 3 1) drive record_b 16384)
    && refused 32 7 (check_within (at_most 2 4 0) drive record_b 16384)

-- ---- buffers: 20, 30, 40, 50

pub of_buffers : Bool
of_buffers =
    refused 20 0 (build drive [] 48255)
    && passes (build drive [] 48256)
    && refused 30 0 (check drive record_b 16383)
    && passes (check drive record_b 16384)
    && refused 40 0 (replay drive record_b (as_text "G,0,1") 4127)
    && passes (replay drive record_b (as_text "G,0,1") 4128)
    && refused 50 0 (arrange drive record_b 767)
    && passes (arrange drive record_b 768)

-- ---- "10 input over 65,536 bytes"

pub of_input : Bool
of_input =
    let ends : List ℕ = replicate 65534 10 in
    passes (input_of (as_text "=" ++ ends))
    && refused 10 0 (input_of (as_text "=" ++ 10 ∷ ends))

pub bounds-hold : (of_nets ≡ true) × (of_events ≡ true) × (of_conditions ≡ true) × (of_marks ≡ true) × (of_any ≡ true) × (of_buffers ≡ true) × (of_input ≡ true)
unfolding open_all build_within repeated of_nets of_events behind of_conditions idle consumed_at full_run next of_marks of_any of_buffers of_input
bounds-hold = (refl, refl, refl, refl, refl, refl, refl)
