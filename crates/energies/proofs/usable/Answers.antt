-- `energies::usable` meets its contract: the squares, their difference, the product and its half are exact, and the division by a
-- million rounds once.
use Rattle.energies.proofs.Floats.{usable-is}
use Rattle.energies.proofs.usable.Goals as goal

pub returns : goal.returns
returns c k h = usable-is _ k h
