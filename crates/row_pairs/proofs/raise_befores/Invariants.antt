-- `row_pairs::raise_befores` meets its contract. The loop's invariant: the rows have the pairs of those events of the
-- set that the iterator no longer has.
use Rattle.row_pairs.proofs.Raising.{Befores}
use Rattle.row_pairs.proofs.raise_befores.Given as goal

abbrev pub invariant-loop-e : goal.invariant-loop-e
invariant-loop-e l = Befores l.initial.w l.f l.fn.set l.e-iterator.left l.w
