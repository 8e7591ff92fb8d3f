-- `arc_rules::tally` meets its contract. The loop's invariant: the conditions below c are counted.
use Rattle.arc_rules.specs.Tests.{Tally}
use Rattle.arc_rules.proofs.tally.Given as goal

abbrev pub invariant-loop-c : goal.invariant-loop-c
invariant-loop-c l = Tally l.rec l.c l.at l.n l.t
