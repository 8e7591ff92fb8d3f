use Rattle.std.proofs.Common.{◌≡◌, arith}
use Rattle.arrangement_reader.proofs.Lateness.{lacking-none, lacking-more}
use Rattle.arrangement_reader.proofs.behind_lacking.Goals as goal

pub loop-d-init : goal.loop-d-init
loop-d-init c = lacking-none c.args.w.now c.args.stands.now c.args.lines c.none-r.ensures

pub loop-d-preserved : goal.loop-d-preserved
loop-d-preserved c = lacking-more c.args.w.now c.args.stands.now c.args.lines c.loop-d.d _ c.from.ensures c.row_at.ensures c.with_lacking-r.ensures c.loop-d.invariant

pub returns : goal.returns
returns c = let e : c.loop-d.d ≡ c.args.n = omega arith in rw e at c.loop-d.invariant
