-- The events are added, then what they take is taken, then what they make is made.
use Rattle.history.proofs.Growing.{taking-ready, grows}
use Rattle.history.proofs.grow.Goals as goal

pub take_step-requires : goal.take_step-requires
take_step-requires c = let G = c.requires.2 in
    (G.events, c.requires.0, c.requires.1, taking-ready G c.add_events.ensures)

pub returns : goal.returns
returns c = grows _ c.requires.2 c.add_events.ensures c.take_step.ensures c.make_step.ensures
