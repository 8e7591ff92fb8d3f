-- The conditions below c are in the places of their places.
use mathlib.Core.Path.{◌≡◌}
use lib.ListN.{length}
use Rattle.condition_sets.specs.Sets.{Placed}
use Rattle.condition_sets.proofs.enter_places.Given as goal

abbrev pub invariant-loop-c : goal.invariant-loop-c
invariant-loop-c l = Placed l.rec l.c l.places × (length l.places ≡ 256)
