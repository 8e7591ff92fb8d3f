-- `arc_rules::initial` meets its contract. The loop's invariant: the conditions below c that have no producer are
-- counted.
use Rattle.arc_rules.specs.Tests.{Initial}
use Rattle.arc_rules.proofs.initial.Given as goal

abbrev pub invariant-loop-c : goal.invariant-loop-c
invariant-loop-c l = Initial l.rec l.c l.t
