-- `energy_reader::capacitor_in` meets its contract: its test is that of `figures_of`.
use borrow.Author.Tests.{leb-true}
use lib.Dec.{leb}
use Rattle.lists.specs.Laws.{and-four}
use Rattle.energy_reader.proofs.capacitor_in.Goals as goal

pub capacitor_of-requires : goal.capacitor_of-requires
capacitor_of-requires c = let z = and-four (leb 1 c.args.capacitance) (leb c.args.capacitance 1000000) (leb c.args.full 60000) (leb c.args.cutoff c.args.full) c.if-capacitance-full.true in
    (leb-true _ _ z.1, leb-true _ _ z.2, leb-true _ _ z.3)

pub returns-then-capacitance-full : goal.returns-then-capacitance-full
returns-then-capacitance-full c = rw c.if-capacitance-full.true c.capacitor_of.ensures

pub returns : goal.returns
returns c = rw c.if-capacitance-full.false tt
