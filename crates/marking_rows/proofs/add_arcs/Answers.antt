use Rattle.std.proofs.Common.{arith}
use Rattle.marking_rows.proofs.Sums.{adds-more}
use Rattle.marking_rows.proofs.add_arcs.Goals as goal

pub loop-p-preserved : goal.loop-p-preserved
loop-p-preserved c =
    adds-more (omega arith) c.from.ensures (omega (arith, c.from.ensures)) c.loop-p.invariant
