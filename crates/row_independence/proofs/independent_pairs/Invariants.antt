-- `row_independence::independent_pairs` meets its contract. The loop's invariant: `all` counts the pairs of the events
-- below e, `ordered` the events in their rows, and `loops` those of them that are on loops. A pair that is not
-- independent is in one row or, if it is synchronous, in two; an event on a loop is in its own. So the difference counts
-- the independent pairs once what is in two rows is added, and what is in its own.
use Rattle.reach.specs.Rows.{cell_of}
use Rattle.row_independence.proofs.Laws.{Tally}
use Rattle.row_independence.proofs.independent_pairs.Given as goal

abbrev pub invariant-loop-e : goal.invariant-loop-e
invariant-loop-e l = Tally l.n (cell_of l.w) l.e l.all l.ordered l.loops
