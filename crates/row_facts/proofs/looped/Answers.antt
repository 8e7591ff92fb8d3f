-- `row_facts::looped` meets its contract: a value is 2 exactly where the strict set has the event.
use Rattle.row_facts.proofs.Laws.{looped_is}
use Rattle.row_facts.proofs.looped.Goals as goal

pub returns : goal.returns
returns c =
    looped_is _ _ c.row_at.result _ c.requires.1 c.requires.0 c.row_at.ensures c.holds.ensures
