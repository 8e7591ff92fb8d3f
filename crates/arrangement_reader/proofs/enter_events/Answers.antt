use Rattle.std.proofs.Common.{◌≡◌, ◌+◌, ◌∷◌, drop, arith}
use Rattle.std.proofs.Math.ListN.{drop_of_length-le}
use Rattle.lists.specs.Along.{rest_at}
use Rattle.arrangement_reader.proofs.Standing.{entries_from, entries-low, entries-hit, entries-more, entries-end}
use Rattle.arrangement_reader.proofs.enter_events.Goals as goal
use Rattle.arrangement_reader.proofs.enter_events.Goals.{After-from-e}

pub loop-event-init : goal.loop-event-init
loop-event-init c = entries_from _ c.requires.long c.requires.known

-- the event is the first of those that are not entered
next_event : (c : After-from-e) → drop c.loop-event.event-index c.args.events.now ≡ c.from-e.result ∷ drop (c.loop-event.event-index + 1) c.args.events.now
next_event c = rw c.from-e.ensures (rest_at c.args.events.now c.loop-event.event-index (omega arith))

pub bounds-stands-e : goal.bounds-stands-e
bounds-stands-e c = entries-low (next_event (goal.at.bounds-stands-e c).After-from-e) c.loop-event.invariant

pub returns-then-stands-e-gt0 : goal.returns-then-stands-e-gt0
returns-then-stands-e-gt0 c = entries-hit (next_event (goal.at.returns-then-stands-e-gt0 c).After-from-e) c.loop-event.invariant c.if-stands-e-gt0.true

pub loop-event-preserved : goal.loop-event-preserved
loop-event-preserved c = entries-more (next_event (goal.at.loop-event-preserved c).After-from-e) c.loop-event.invariant c.requires.line c.if-stands-e-gt0.false

pub returns : goal.returns
returns c = entries-end (drop_of_length-le c.args.events.now (omega arith)) c.loop-event.invariant
