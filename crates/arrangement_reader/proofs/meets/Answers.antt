-- `arrangement_reader::meets` meets its contract: a number of what two sets have in common tells whether there is one.
use Rattle.arrangement_reader.proofs.Lateness.{meets-is}
use Rattle.arrangement_reader.proofs.meets.Goals as goal

pub returns : goal.returns
returns c = rw c.is_some.ensures (meets-is _ _ c.meet.result _ c.meet.ensures c.first.ensures.0)
