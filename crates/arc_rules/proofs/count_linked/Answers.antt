-- `arc_rules::count_linked` meets its contract: a condition whose event is one of the first n is one more for it and
-- its place, and any other is none.
use mathlib.Core.Path.{refl}
use lib.ListN.{length-set}
use Rattle.arc_rules.proofs.Tallies.{tally-more, tally-same}
use Rattle.arc_rules.proofs.count_linked.Goals as goal

pub returns-then-n-e : goal.returns-then-n-e
returns-then-n-e c = (refl, tally-same _ _ _ _ _ refl refl _ _ c.if-n-e.true c.requires.2)

pub returns : goal.returns
returns c = (
  simp length-set,
  rw c.saturating_add.ensures (tally-more _ _ _ _ _ refl refl _ _ c.if-n-e.false c.requires.0.place c.requires.2),
)
