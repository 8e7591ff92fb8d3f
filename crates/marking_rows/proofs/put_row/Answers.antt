use Rattle.std.proofs.Common.{arith}
use Rattle.lists.specs.Stretch.{from_more}
use Rattle.marking_rows.proofs.Sums.{left_here}
use Rattle.marking_rows.proofs.put_row.Goals as goal

pub loop-p-preserved : goal.loop-p-preserved
loop-p-preserved c = from_more _ (omega (arith, c.loop-p.invariant.long)) (left_here _ _ c.saturating_sub.ensures) c.loop-p.invariant
