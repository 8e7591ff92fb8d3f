-- Request 2026-05, computed: each case fails under a reading of the request that the others would let pass. A float stands
-- here by its bit pattern.
use Rattle.std.specs.Prelude.{◌≡◌, refl, ℕ, Bool, true, ◌&&◌, List, [], ◌∷◌, ◌++◌, replicate}
use Rattle.std.specs.Float.{binary64}
use Rattle.std.specs.Float.Ieee.{to_bits}
use Rattle.spec.specs.Net.{read_net}
use Rattle.spec.specs.Building.{build}
use Rattle.spec.specs.Checking.{check}
use Rattle.spec.specs.Replaying.{replay}
use Rattle.spec.specs.Energy.{draw_of, energies_of, energy, energy_returns}
use Rattle.spec.specs.Quoted.{as_text, unended, same, refused, given}
use Rattle.spec.specs.Cases.{open_all}
use Rattle.spec.specs.declared.Energies.{Energies}
use Rattle.spec.specs.declared.EnergyNumbers.{EnergyNumbers}

bits : Energies → List ℕ
bits e = to_bits binary64 e.usable ∷ to_bits binary64 e.draw ∷ to_bits binary64 e.left ∷ []

-- one transition, and a run of it
one : List ℕ
one = as_text "P,1 P,0 T I,0,0 O,0,1"

once : List ℕ
once = as_text "E,0 C,0,-,0 C,1,0,-"

-- two transitions, and a run in which the second occurs twice
two : List ℕ
two = as_text "P,1 P,2 P,0 T T I,0,0 O,0,2 I,1,1 O,1,2"

thrice : List ℕ
thrice = as_text "E,1 E,0 E,1 C,0,-,1 C,1,-,0 C,1,-,2 C,2,0,- C,2,1,- C,2,2,-"

leaves3 : List ℕ → List ℕ → List ℕ → List ℕ → Bool
leaves3 net run text e = given (λ v. same (bits v) e) (energy net run text)

-- ---- the figures

pub figures : Bool
figures =
    -- usable 1.2, draw 1: what is left is the difference of these f64 values, 0.19999999999999996, and not 0.2
    leaves3 one once (as_text "K,24,325,75 J,1") (0x3ff3_3333_3333_3333 ∷ 0x3ff0_0000_0000_0000 ∷ 0x3fc9_9999_9999_9998 ∷ [])
    -- halved: 2 µF at 1 V hold 1 µJ
    && leaves3 one once (as_text "K,2,1000,0 J,0") (0x3ff0_0000_0000_0000 ∷ 0 ∷ 0x3ff0_0000_0000_0000 ∷ [])
    -- the difference of the squares, and not the square of the difference: 100 µF from 5 V to 3 V hold 800 µJ
    && leaves3 one once (as_text "K,100,5000,3000 J,800") (0x4089_0000_0000_0000 ∷ 0x4089_0000_0000_0000 ∷ 0 ∷ [])
    -- a load is its power for its time: 6 µJ, of which -5 are left
    && leaves3 one once (as_text "K,2,1000,0 W,2,3") (0x3ff0_0000_0000_0000 ∷ 0x4018_0000_0000_0000 ∷ 0xc014_0000_0000_0000 ∷ [])
    -- full equal to cutoff, and nothing drawn: 0 three times, none of them minus zero
    && leaves3 one once (as_text "K,1000000,60000,60000 J,0") (0 ∷ 0 ∷ 0 ∷ [])
    -- each event by its own transition, in the order of the text: 100 + 2 * 3 + 2 * 3
    && leaves3 two thrice (as_text "K,2,1000,0 J,100 W,2,3") (0x3ff0_0000_0000_0000 ∷ 0x405c_0000_0000_0000 ∷ 0xc05b_c000_0000_0000 ∷ [])
    -- a record without events, beside a net without transitions
    && leaves3 [] [] (as_text "K,2,1000,0") (0x3ff0_0000_0000_0000 ∷ 0 ∷ 0x3ff0_0000_0000_0000 ∷ [])

-- 3 / 128 µJ against 128 events of 10 ^ 12 µJ: halfway between two f64 values, and the even one is taken
pub tie : Bool
tie =
    same (bits (energies_of (record { capacitance = 46875; full = 1; cutoff = 0 }) (draw_of (1000000000000 ∷ []) (record { events = replicate 128 0; conditions = []; marks = [] }))))
    (0x3f98_0000_0000_0000 ∷ 0x42dd_1a94_a200_0000 ∷ 0xc2dd_1a94_a1ff_fffe ∷ [])

-- ---- the text, beside one transition

refuses52 : ℕ → List ℕ → Bool
refuses52 k text = refused 52 k (energy one once text)

takes : List ℕ → Bool
takes text = given (λ e. true) (energy one once text)

pub lines : Bool
lines =
    -- the ends of the ranges, of seven digits, and one beyond
    takes (as_text "K,1,0,0 J,0") && takes (as_text "K,1000000,60000,0 J,1000000") && takes (as_text "K,1,60000,60000 W,1000000,1000000")
    && refuses52 1 (as_text "K,0,0,0 J,0") && refuses52 1 (as_text "K,1000001,0,0 J,0") && refuses52 1 (as_text "K,1,60001,0 J,0")
    && refuses52 1 (as_text "K,1,5,6 J,0") && refuses52 2 (as_text "K,1,0,0 J,1000001") && refuses52 2 (as_text "K,1,0,0 W,1000001,0")
    && refuses52 2 (as_text "K,1,0,0 W,0,1000001")
    -- eight digits, a needless zero, a dash
    && refuses52 2 (as_text "K,1,0,0 J,10000000") && refuses52 2 (as_text "K,1,0,0 J,00000001") && refuses52 2 (as_text "K,1,0,0 J,01")
    && refuses52 1 (as_text "K,1,-,0 J,0") && refuses52 2 (as_text "K,1,0,0 J,-")
    -- a field too many, one too few
    && refuses52 1 (as_text "K,1,0 J,0") && refuses52 1 (as_text "K,1,0,0,0 J,0") && refuses52 2 (as_text "K,1,0,0 J")
    && refuses52 2 (as_text "K,1,0,0 J,0,0") && refuses52 2 (as_text "K,1,0,0 W,0") && refuses52 2 (as_text "K,1,0,0 W,0,0,0")
    -- `K` on line 1, `J` or `W` on any other
    && refuses52 1 (as_text "J,0 K,1,0,0") && refuses52 1 (as_text "W,0,0 W,0,0") && refuses52 2 (as_text "K,1,0,0 K,1,0,0")
    && refuses52 2 (as_text "K,1,0,0 P,0") && refuses52 1 (as_text "k,1,0,0 J,0")
    -- an empty line, a line without its end; either line end
    && refuses52 2 (as_text "K,1,0,0  J,0") && refuses52 2 (unended "K,1,0,0 J,0") && takes (as_text "K,1,0,0" ++ 74 ∷ 44 ∷ 48 ∷ 13 ∷ 10 ∷ [])

-- ---- the order of the refusals

pub order : Bool
order =
    -- the net's, the record's, then the text's; the first line that is wrong
    refused 11 1 (energy (as_text "P") (as_text "E") (as_text "J"))
    && refused 31 1 (energy one (as_text "E") (as_text "J"))
    && refused 35 0 (energy one (as_text "E,0") (as_text "J"))
    && refuses52 1 (as_text "J J")
    -- lines beyond the last transition are judged too, before the lines are counted
    && refuses52 3 (as_text "K,1,0,0 J,0 J") && refuses52 3 (as_text "K,1,0,0 J,0 K,1,0,0")
    && refused 53 0 (energy one once (as_text "K,1,0,0 J,0 J,0"))
    && refused 53 0 (energy one once (as_text "K,1,0,0"))
    && refused 53 0 (energy one once []) && refused 53 0 (energy [] [] [])
    && refused 53 0 (energy two thrice (as_text "K,1,0,0 J,0"))

-- ---- the letters are in use in energy texts alone: any other reader refuses them as it did

pub elsewhere : Bool
elsewhere =
    refused 11 1 (read_net (as_text "K,1")) && refused 11 2 (read_net (as_text "P,1 J,1")) && refused 11 2 (read_net (as_text "P,1 W,0,0"))
    && refused 21 1 (build one (as_text "J,0") 48256) && refused 31 4 (check one (once ++ as_text "W,0,0") 16384)
    && refused 41 1 (replay one once (as_text "K,0") 4128) && refused 52 2 (energy one once (as_text "K,1,0,0 R,0,0"))

-- ---- what a call returns: of a refusal three times 0

returned : EnergyNumbers → ℕ → ℕ → List ℕ → Bool
returned r n s e = same (r.number ∷ r.spot ∷ to_bits binary64 r.usable ∷ to_bits binary64 r.draw ∷ to_bits binary64 r.left ∷ []) (n ∷ s ∷ e)

pub calls : Bool
calls =
    returned (energy_returns one once (as_text "K,2,1000,0 J,3")) 0 0 (0x3ff0_0000_0000_0000 ∷ 0x4008_0000_0000_0000 ∷ 0xc000_0000_0000_0000 ∷ [])
    && returned (energy_returns one once (as_text "K,2,1000,0 J")) 52 2 (0 ∷ 0 ∷ 0 ∷ [])
    && returned (energy_returns one (as_text "E,0") []) 35 0 (0 ∷ 0 ∷ 0 ∷ [])

pub energies-hold : (figures && tie && lines && order && elsewhere && calls) ≡ true
unfolding open_all bits one once two thrice leaves3 figures tie refuses52 takes lines order elsewhere returned calls
energies-hold = refl
