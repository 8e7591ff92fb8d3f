-- `number_lines::put` meets its contract: a number below 256 is its own rest, and one beyond the room changes nothing.
use native.Mathlib.Omega.{arith}
use Rattle.number_lines.proofs.Listing.{puts}
use Rattle.number_lines.proofs.put.Goals as goal

pub returns-then-i-lt-NUMBERS : goal.returns-then-i-lt-NUMBERS
returns-then-i-lt-NUMBERS c = puts _ _ _ c.requires

pub returns-else-i-lt-NUMBERS : goal.returns-else-i-lt-NUMBERS
returns-else-i-lt-NUMBERS c = record { long = c.requires; put = λ h. absurd (omega arith) }
