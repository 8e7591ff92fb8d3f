-- `hold_up::capacitor_of` meets its contract: each figure is in its range, and so a float.
use native.Mathlib.Nat.{le_trans}
use lib.Dec.{lit≤}
use Rattle.hold_up.proofs.capacitor_of.Goals as goal

pub float_of-requires : goal.float_of-requires
float_of-requires c = le_trans c.requires.0 (lit≤ tt)

pub float_of-requires-2 : goal.float_of-requires-2
float_of-requires-2 c = le_trans c.requires.1 (lit≤ tt)

pub float_of-requires-3 : goal.float_of-requires-3
float_of-requires-3 c = le_trans c.requires.2 (le_trans c.requires.1 (lit≤ tt))

pub returns : goal.returns
returns c = record { capacitance = c.float_of.ensures; full = c.float_of-2.ensures; cutoff = c.float_of-3.ensures; small = c.requires.0; low = c.requires.1; above = c.requires.2 }
