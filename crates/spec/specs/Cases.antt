-- The marked cases a to k of document 01, "Drive net", held together by one computed check.
use Rattle.std.specs.Prelude.{◌≡◌, refl, ℕ, ◌+◌, ◌*◌, Bool, true, ◌&&◌, List, [], ◌∷◌, ◌++◌, eqb}
use Rattle.spec.specs.Building.{build}
use Rattle.spec.specs.Checking.{Checked, check}
use Rattle.spec.specs.Arranging.{arrange}
use Rattle.spec.specs.Replaying.{replay}
use Rattle.spec.specs.Printing.{program}
use Rattle.spec.specs.Opening.{open_definitions}
use Rattle.spec.specs.Quoted.{as_text, same, refused, given, zeros_but}

-- write, flush, park; place 1 is dirty
unfoldable pub drive : List ℕ
unfolding as_text
drive = as_text "P,1 P,0 P,1 P,0 P,0 T T T I,0,0 O,0,1 I,1,1 O,1,4 I,2,2 O,2,3 H,1,2"

-- the record of case a
unfoldable pub record_a : List ℕ
unfolding as_text
record_a = as_text "E,0 E,1 E,2 C,0,-,0 C,2,-,2 C,1,0,1 C,4,1,- C,3,2,- A,2,2"

-- the record of case b
unfoldable pub record_b : List ℕ
unfolding as_text
record_b = as_text "E,0 E,2 C,0,-,0 C,2,-,1 C,1,0,- C,3,1,- B,2,1"

-- the net and the record of case k
unfoldable pub net_k : List ℕ
unfolding as_text
net_k = as_text "P,1 P,0 T I,0,0 O,0,1 H,0,0"

unfoldable pub record_k : List ℕ
unfolding as_text
record_k = as_text "E,0 C,0,-,0 C,1,0,- A,0,0"

-- the check's table, the events' pairs listed by 128 × e + f
is_table : List (ℕ × ℕ) → Checked → Bool
is_table es c = same c.table (zeros_but 16384 es)

case_a : Bool
case_a = same (program (drive ++ as_text "=" ++ as_text "S,0 S,1 S,2")) (as_text "E,0 E,1 E,2 C,0,-,0 C,2,-,2 C,1,0,1 C,4,1,- C,3,2,- A,2,2 Z,3,5,0,3")

-- the write and the park count as no independent pair: changed by 02, 2026-04 (01 has one)
case_b : Bool
case_b =
    given (same record_b) (build drive (as_text "S,0,2") 48256)
    && given (λ c. is_table ((128 * 1 + 0, 1) ∷ []) c && eqb c.independents 0) (check drive record_b 16384)
    && given (λ a. eqb a.lines 1 && same a.bytes (as_text "G,0,1")) (arrange drive record_b 768)

case_c : Bool
case_c = refused 25 2 (build drive (as_text "S,0 S,2") 48256)

case_d : Bool
case_d = refused 24 1 (build drive (as_text "S,0,0") 48256)

case_e : Bool
case_e =
    given (same (as_text "C,0,-,- C,2,-,-")) (build drive [] 48256)
    && given (λ a. eqb a.lines 0 && same a.bytes []) (arrange drive (as_text "C,0,-,- C,2,-,-") 768)

-- nor do the park and the write here: 02, 2026-04
case_f : Bool
case_f =
    given (λ c. is_table ((128 * 0 + 1, 2) ∷ (128 * 2 + 1, 2) ∷ (128 * 2 + 0, 1) ∷ []) c && eqb c.independents 0)
    (check drive (as_text "E,0 E,1 E,2 C,0,-,0 C,2,-,2 C,1,0,1 C,4,1,- C,3,2,- B,2,2") 16384)

case_g : Bool
case_g = refused 37 2 (check drive (as_text "E,0 E,1 E,2 C,0,-,0 C,2,-,2 C,1,0,1 C,4,1,- C,3,2,-") 16384)

case_h : Bool
case_h = refused 38 1 (check drive (as_text "E,0 E,2 C,0,-,0 C,2,-,1 C,1,0,- C,3,1,- A,2,1") 16384)

case_i : Bool
case_i = refused 44 1 (replay drive record_b (as_text "G,0 G,1") 4128)

-- rows 1,0,1,0,0; 1,0,0,1,0; 0,1,0,1,0, at 32 × k + p, and 0 at every other place of the 129 × 32
case_j : Bool
case_j =
    given (λ r. eqb r.lines 2
    && same r.counts (zeros_but 4128 ((32 * 0 + 0, 1) ∷ (32 * 0 + 2, 1) ∷ (32 * 1 + 0, 1) ∷ (32 * 1 + 3, 1) ∷ (32 * 2 + 1, 1) ∷ (32 * 2 + 3, 1) ∷ [])))
    (replay drive record_b (as_text "G,1 G,0") 4128)

case_k : Bool
case_k = refused 39 0 (check net_k record_k 16384)

pub all_cases : Bool
all_cases = case_a && case_b && case_c && case_d && case_e && case_f && case_g && case_h && case_i && case_j && case_k

-- opens every definition of document 01, and the texts above
unfoldable pub open_all : Unit {0}
unfolding open_definitions drive record_a record_b net_k record_k
open_all = tt

pub cases-hold : all_cases ≡ true
unfolding open_all is_table case_a case_b case_c case_d case_e case_f case_g case_h case_i case_j case_k all_cases
cases-hold = refl
