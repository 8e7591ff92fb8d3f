-- The lines of the conditions below c are
-- written.
use Rattle.writing.specs.Written.{Wrote}
use Rattle.record_writer.specs.Bytes.{condition_lines}
use Rattle.record_writer.proofs.put_conditions.Given as goal

abbrev pub invariant-loop-c : goal.invariant-loop-c
invariant-loop-c l = Wrote l.initial.out l.at (condition_lines l.rec l.c) l.next l.out
