-- `arrangement_reader::group_of` meets its contract. The loop's invariant: the sets are those of the events passed.
use Rattle.std.proofs.Common.{take}
use Rattle.arrangement_reader.specs.Lined.{Grouped}
use Rattle.arrangement_reader.proofs.group_of.Given as goal

abbrev pub invariant-loop-event : goal.invariant-loop-event
invariant-loop-event l = Grouped l.w (take l.event-index l.events) (record { line = l.line; path = l.path; strict = l.strict })
