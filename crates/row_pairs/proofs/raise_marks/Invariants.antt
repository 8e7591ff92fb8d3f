-- `row_pairs::raise_marks` meets its contract. The loop's invariant: the rows have the pairs of the marks at the
-- conditions below c, of B and A and then of R.
use Rattle.row_pairs.specs.Relation.{Raised, overall, mark_pair_in}
use Rattle.row_pairs.proofs.raise_marks.Given as goal

abbrev pub invariant-loop-c : goal.invariant-loop-c
invariant-loop-c l = Raised l.initial.w (overall (mark_pair_in l.rec l.marks) l.c) l.w
