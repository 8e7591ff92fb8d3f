-- `arrangement_reader::enter_events` meets its contract. The loop's invariant: the events passed are entered, and none of
-- them had a line before.
use Rattle.std.proofs.Common.{drop}
use Rattle.arrangement_reader.proofs.Standing.{Entries}
use Rattle.arrangement_reader.proofs.enter_events.Given as goal

abbrev pub invariant-loop-event : goal.invariant-loop-event
invariant-loop-event l = Entries l.k l.initial.stands l.events l.stands (drop l.event-index l.events)
