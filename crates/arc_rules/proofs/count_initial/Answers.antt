-- `arc_rules::count_initial` meets its contract: a condition without a producer is one more in its place, and one with
-- a producer is none.
use mathlib.Core.Path.{refl}
use native.Mathlib.Omega.{arith}
use Rattle.arc_rules.proofs.Tallies.{initial-more, initial-same, initial-most}
use Rattle.arc_rules.proofs.count_initial.Goals as goal

pub returns-then-rec-c : goal.returns-then-rec-c
returns-then-rec-c c = initial-same _ _ _ refl _ c.if-rec-c.true c.requires.1

pub overflow_add-t : goal.overflow_add-t
overflow_add-t c = omega (arith, c.requires.0.inside, initial-most _ _ c.args.t.now _ c.requires.1 c.requires.0.place)

pub returns : goal.returns
returns c = initial-more _ _ _ refl _ c.if-rec-c.false c.requires.0.place c.requires.1
