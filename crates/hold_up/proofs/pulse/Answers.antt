-- `hold_up::pulse` meets its contract: its energy is in its range, and so a float.
use native.Mathlib.Nat.{le_trans}
use lib.Dec.{lit≤}
use Rattle.hold_up.proofs.pulse.Goals as goal

pub float_of-requires : goal.float_of-requires
float_of-requires c = le_trans c.requires (lit≤ tt)

pub returns : goal.returns
returns c = (c.float_of.ensures, c.requires)
