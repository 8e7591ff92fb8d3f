-- `energies::left` meets its contract: the difference of two fractions, rounded once.
use Rattle.energies.proofs.Floats.{left_is}
use Rattle.energies.proofs.left.Goals as goal

pub returns : goal.returns
returns c = left_is c.args.usable c.args.draw
