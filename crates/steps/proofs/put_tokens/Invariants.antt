-- The entries from `at` on, up to the place that is next, are the net's.
use lib.ListN.{get_or}
use Rattle.lists.specs.Stretch.{MappedFrom}
use Rattle.steps.proofs.put_tokens.Given as goal

abbrev pub invariant-loop-p : goal.invariant-loop-p
invariant-loop-p l = MappedFrom l.initial.counts l.at l.p (λ i. get_or l.tokens i 0) l.counts
