-- `arrangement_reader::behind_lacking` meets its contract. The loop's invariant: the set has what those events below d
-- that stand in none of the lines are not later than.
use Rattle.arrangement_reader.specs.Lined.{Unites, path_of, Lacks}
use Rattle.arrangement_reader.proofs.behind_lacking.Given as goal

abbrev pub invariant-loop-d : goal.invariant-loop-d
invariant-loop-d l = Unites (path_of l.w) (Lacks l.d l.lines l.stands) l.r
