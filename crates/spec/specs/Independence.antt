-- Independent means free to swap (02, 2026-04). The statements are types here; the crate `runs` has their proof, and the
-- crate `demands` has them of a call.
use Rattle.std.specs.Prelude.{◌≡◌, ◌↔◌, ℕ, ◌≤◌, Bool, true, List, [], ◌∷◌, ◌++◌, map, length}
use Rattle.spec.specs.Lists.{up_to, count, sum}
use Rattle.spec.specs.Answer.{gives}
use Rattle.spec.specs.Text.{line_with}
use Rattle.spec.specs.Net.{Net, read_net, net_of}
use Rattle.spec.specs.Record.{RunRecord, bench, record_bytes}
use Rattle.spec.specs.Arrangement.{index}
use Rattle.spec.specs.Building.{built}
use Rattle.spec.specs.Checking.{Checked, read_record, check}
use Rattle.spec.specs.Arranging.{levels, line_count}
use Rattle.spec.specs.Printing.{NetAndLog, input_of, program}
use Rattle.spec.specs.Runs.{TwoEvents, StandsEarlier, InSome}
use Rattle.spec.specs.declared.Field.TheVariants.{Number}

-- "there are arrangements that keep the order with one first, with the other first, and with both in one step."
pub record FreeToSwap (R : RunRecord) (e f : ℕ) : Type 0 where
  pub one-first : InSome R (λ lines. StandsEarlier e f lines)
  pub other-first : InSome R (λ lines. StandsEarlier f e lines)
  pub together : InSome R (λ lines. index e lines ≡ index f lines)

-- k is how many pairs of two different events are free to swap: of the pairs f, e with f < e each is looked at once, and
-- "Two events should count exactly when" they are
pub record CountsSwaps (R : RunRecord) (k : ℕ) : Type 0 where
  pub counts : ℕ → ℕ → Bool
  pub exactly : (e f : ℕ) → TwoEvents R e f → (counts e f ≡ true) ↔ FreeToSwap R e f
  pub all : k ≡ sum (map (λ e. count (counts e) (up_to e)) (up_to (length R.events)))

-- "It prints the record, then `Z,events,conditions,pairs,lines`", with k pairs
abbrev pub printed_with : ℕ → RunRecord → List ℕ
printed_with k R =
    record_bytes R ++ line_with "Z" (Number (length R.events) ∷ Number (length R.conditions)
    ∷ Number k ∷ Number (line_count (levels R)) ∷ [])

pub record Independence : Type 0 where
  -- the number that the check returns, of every accepted net and record
  pub checks : (net : List ℕ) (N : Net) → read_net net ≡ gives N
      → (text : List ℕ) (R : RunRecord) → read_record bench N text ≡ gives R
      → (room : ℕ) → 16384 ≤ room
      → (answer : Checked) × (check net text room ≡ gives answer) × CountsSwaps R answer.independents
  -- the third number of the line that the program prints behind a record
  pub prints : (input : List ℕ) (i : NetAndLog) → input_of input ≡ gives i
      → (N : Net) → net_of i.net ≡ gives N → (R : RunRecord) → built bench N i.log ≡ gives R
      → (k : ℕ) × CountsSwaps R k × (program input ≡ printed_with k R)
