-- `energy_reader::pulse_in` meets its contract: its test is that of `pulse_of`.
use borrow.Author.Tests.{le-leb, lt-leb}
use Rattle.energy_reader.proofs.pulse_in.Goals as goal

pub returns-then-energy-le-MOST : goal.returns-then-energy-le-MOST
returns-then-energy-le-MOST c = rw (le-leb _ _ c.if-energy-le-MOST.true) c.pulse.ensures

pub returns : goal.returns
returns c = rw (lt-leb _ _ c.if-energy-le-MOST.false) tt
