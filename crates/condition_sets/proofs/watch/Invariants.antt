-- The sets of the places below d that inhibit the transition are joined, the other rows are as they were, and the iterator
-- has the other places that inhibit it.
use Prim.Native.Nat.{ℕ, ◌≤◌}
use Rattle.arc_sets.specs.Walk.{Left}
use Rattle.condition_sets.specs.Sets.{WatchedBy, OthersKept}
use Rattle.condition_sets.proofs.watch.Given as goal

abbrev pub invariant-loop-p : goal.invariant-loop-p
invariant-loop-p l = (d : ℕ) × (d ≤ 64) × Left l.guards l.p-iterator.left d × WatchedBy l.guards l.places l.t d l.watched × OthersKept l.t l.initial.watched l.watched
