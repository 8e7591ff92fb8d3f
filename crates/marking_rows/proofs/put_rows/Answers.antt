use Rattle.std.proofs.Common.{◌≡◌, arith}
use Rattle.marking_rows.proofs.Sums.{putting-first, putting-more, putting-end, no-events, line-playing}
use Rattle.marking_rows.proofs.put_rows.Goals as goal

pub loop-k-init : goal.loop-k-init
loop-k-init c = putting-first c.requires.1.places c.requires.1.tokens (no-events c.requires.1) c.begin-sums.ensures c.put_row.ensures

pub play-requires : goal.play-requires
play-requires c =
    line-playing c.requires.1 c.loop-k-test.true c.from-from.ensures c.from-to.ensures
    (rw c.from-from.ensures c.loop-k.invariant.room)

pub loop-k-preserved : goal.loop-k-preserved
loop-k-preserved c =
    putting-more c.loop-k.invariant (rw (← c.from-from.ensures, ← c.from-to.ensures) c.play.ensures) c.put_row-in-loop-k.ensures

pub returns : goal.returns
returns c = let e : c.loop-k.k ≡ c.args.lines = omega arith in
    putting-end c.put_row.ensures (rw e at c.loop-k.invariant) (omega (arith, c.requires.1.lines, c.requires.1.few)) c.clear_from.ensures
