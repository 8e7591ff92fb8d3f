use native.Mathlib.Omega.{arith}
use Rattle.row_table.proofs.Laws.{written_none, written-more, written-end}
use Rattle.row_table.proofs.write_table.Goals as goal

pub loop-e-init : goal.loop-e-init
loop-e-init c = written_none _ _ _ _ c.clear.ensures

pub put_row-requires : goal.put_row-requires
put_row-requires c =
    (omega arith, omega (arith, c.clear.ensures.long))

pub loop-e-preserved : goal.loop-e-preserved
loop-e-preserved c =
    written-more _ _ c.requires.0 c.requires.2 _ _ _ _ (omega arith) c.loop-e.invariant c.put_row.ensures

pub returns : goal.returns
returns c =
    written-end _ _ c.requires.0 c.requires.2 _ _ _ _ (omega arith) c.clear.ensures c.loop-e.invariant
