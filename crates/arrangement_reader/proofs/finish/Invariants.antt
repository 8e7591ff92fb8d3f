-- `arrangement_reader::finish` meets its contract. The loop's invariant: the lowest event from e on that has no line is
-- the lowest of all.
use Rattle.arrangement_reader.proofs.Finishing.{MissingFrom}
use Rattle.arrangement_reader.proofs.finish.Given as goal

abbrev pub invariant-loop-e : goal.invariant-loop-e
invariant-loop-e l = MissingFrom l.stands l.n l.e
