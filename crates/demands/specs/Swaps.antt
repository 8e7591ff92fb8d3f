-- Independent means free to swap (02, 2026-04), said of calls: of the number that the check returns, and of the line that
-- the program prints behind a record. The crate `runs` has the same over the definitions.
use Rattle.std.specs.Prelude.{◌≡◌, ℕ, ◌≤◌, List, length, take}
use Rattle.spec.specs.Answer.{gives}
use Rattle.spec.specs.Net.{Net, net_of, read_net}
use Rattle.spec.specs.Record.{RunRecord, bench}
use Rattle.spec.specs.Building.{built}
use Rattle.spec.specs.Checking.{read_record}
use Rattle.spec.specs.Printing.{NetAndLog, input_of}
use Rattle.spec.specs.Independence.{CountsSwaps, printed_with}
use Rattle.spec.specs.declared.Numbers.{Numbers}

-- the number that the check returns is how many pairs of the record are free to swap
pub record PairsCounted (R : RunRecord) (r : Numbers) : Type 0 where
  pub accepted : r.number ≡ 0
  pub swaps : CountsSwaps R r.c

abbrev pub PairsPromised : List ℕ → List ℕ → List ℕ → Numbers → Type 0
PairsPromised net text old r =
    (N : Net) (R : RunRecord) → read_net net ≡ gives N → read_record bench N text ≡ gives R → 16384 ≤ length old
    → PairsCounted R r

-- and so is the third number of the line that the program prints
pub record PairsPrinted (R : RunRecord) (r : Numbers) (new : List ℕ) : Type 0 where
  pub pairs : ℕ
  pub swaps : CountsSwaps R pairs
  pub printed : take r.a new ≡ printed_with pairs R

abbrev pub PrintPromised : List ℕ → Numbers → List ℕ → Type 0
PrintPromised input r new =
    (i : NetAndLog) (N : Net) (R : RunRecord) → input_of input ≡ gives i → net_of i.net ≡ gives N
    → built bench N i.log ≡ gives R
    → PairsPrinted R r new
