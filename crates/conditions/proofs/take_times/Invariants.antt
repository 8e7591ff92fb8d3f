-- So many as were counted are taken.
use lib.ListN.{replicate}
use Rattle.runs.specs.Flows.{flow}
use Rattle.conditions.specs.Conditions.{TookAt}
use Rattle.conditions.proofs.take_times.Given as goal

abbrev pub invariant-loop : goal.invariant-loop
invariant-loop l = TookAt (replicate l.counter (flow l.e l.p)) l.n l.initial.rec l.initial.counts l.rec l.counts
