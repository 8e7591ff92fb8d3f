-- The lines of the events up to the next are written.
use Rattle.writing.specs.Written.{Wrote}
use Rattle.record_writer.specs.Bytes.{event_lines}
use Rattle.record_writer.proofs.put_events.Given as goal

abbrev pub invariant-loop-t : goal.invariant-loop-t
invariant-loop-t l = Wrote l.initial.out l.at (event_lines l.rec l.t-index) l.next l.out
