-- `row_pairs::raise_reads` meets its contract: in the second row of a condition the path set has the events of its marks R.
use native.Mathlib.Omega.{arith}
use Rattle.row_pairs.proofs.Raising.{reads-raised}
use Rattle.row_pairs.proofs.raise_reads.Goals as goal

pub mark_row-requires : goal.mark_row-requires
mark_row-requires c = (c.requires.0, omega arith)

pub row_in-row-requires : goal.row_in-row-requires
row_in-row-requires c = omega (arith, c.mark_row.ensures, c.requires.2)

pub raise_sides-requires : goal.raise_sides-requires
raise_sides-requires c = (c.requires.4, c.requires.5)

pub returns : goal.returns
returns c = reads-raised _ _ _ c.row_in-row.ensures c.requires.3 c.mark_row.ensures c.raise_sides.ensures
