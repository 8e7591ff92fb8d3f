-- What is taken is taken, and then what is made is added.
use Rattle.steps.proofs.Rows.{paid-low, moved}
use Rattle.steps.proofs.play.Goals as goal

pub take_all-requires : goal.take_all-requires
take_all-requires c = c.requires

pub add_all-requires : goal.add_all-requires
add_all-requires c = (c.requires.0, paid-low c.requires.1 c.take_all.ensures)

pub returns : goal.returns
returns c = moved c.requires.1 c.take_all.ensures c.add_all.ensures
