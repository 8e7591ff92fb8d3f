-- `hold_up::load` meets its contract: its power and its time are in their range, and so floats.
use mathlib.Core.Path.{refl}
use native.Mathlib.Nat.{le_trans}
use lib.Dec.{lit≤}
use Rattle.hold_up.proofs.load.Goals as goal

pub float_of-requires : goal.float_of-requires
float_of-requires c = le_trans c.requires.0 (lit≤ tt)

pub float_of-requires-2 : goal.float_of-requires-2
float_of-requires-2 c = le_trans c.requires.1 (lit≤ tt)

pub returns : goal.returns
returns c = record { power = c.args.power; time = c.args.time; mW = c.float_of.ensures; ms = c.float_of-2.ensures; low = c.requires.0; short = c.requires.1; energy = refl }
