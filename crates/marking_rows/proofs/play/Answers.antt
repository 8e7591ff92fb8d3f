use Rattle.std.proofs.Common.{◌≡◌, ◌+◌, arith}
use Rattle.marking_rows.proofs.Sums.{plays-more}
use Rattle.marking_rows.proofs.play.Goals as goal

pub loop-e-preserved : goal.loop-e-preserved
loop-e-preserved c =
    let on : c.args.from + (c.loop-e.e-index + 1) ≡ c.args.from + c.loop-e.e-index + 1 = omega arith in
    rw on (plays-more c.args.from c.args.to c.loop-e-test.true c.from.ensures c.from-t.ensures c.add_arcs.ensures c.add_arcs-in-loop-e.ensures c.loop-e.invariant)
