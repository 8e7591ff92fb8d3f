-- `condition_sets::ready` meets its contract: the row of a transition that is not known is empty, so that watching it
-- makes its set; one that is known has it already.
use Rattle.condition_sets.proofs.Words.{ready-empty, ready-known, ready-more}
use Rattle.condition_sets.proofs.ready.Goals as goal

pub watch-requires : goal.watch-requires
watch-requires c = (c.requires.0, c.requires.2.long, ready-empty _ c.requires.0 c.requires.2 c.if-known-t-eq0.true, c.requires.1)

pub returns-then-known-t-eq0 : goal.returns-then-known-t-eq0
returns-then-known-t-eq0 c = (ready-more _ c.requires.0 c.requires.2 c.watch.ensures.0 c.watch.ensures.1, c.watch.ensures.0)

pub returns-else-known-t-eq0 : goal.returns-else-known-t-eq0
returns-else-known-t-eq0 c = (c.requires.2, ready-known _ c.requires.0 c.requires.2 c.if-known-t-eq0.false)
