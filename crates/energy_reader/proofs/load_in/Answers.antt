-- `energy_reader::load_in` meets its contract: its test is that of `load_of`.
use borrow.Author.Tests.{leb-true}
use Rattle.lists.specs.Laws.{and-true}
use Rattle.energy_reader.proofs.load_in.Goals as goal

pub load-requires : goal.load-requires
load-requires c = let z = and-true _ _ c.if-power-time.true in (leb-true _ _ z.0, leb-true _ _ z.1)

pub returns-then-power-time : goal.returns-then-power-time
returns-then-power-time c = rw c.if-power-time.true c.load.ensures

pub returns : goal.returns
returns c = rw c.if-power-time.false tt
