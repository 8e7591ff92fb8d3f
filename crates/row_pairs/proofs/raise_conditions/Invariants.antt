-- `row_pairs::raise_conditions` meets its contract. The loop's invariant: the rows have the pairs of the conditions
-- below c.
use Rattle.row_pairs.specs.Relation.{Raised, overall, condition_pair_in}
use Rattle.row_pairs.proofs.raise_conditions.Given as goal

abbrev pub invariant-loop-c : goal.invariant-loop-c
invariant-loop-c l = Raised l.initial.w (overall (condition_pair_in l.rec) l.c) l.w
