-- `row_table::put_eight` meets its contract: each byte of the spread sum is the sum of two bits, at most 2, so that no
-- byte carries into the next, and its bytes take the place of eight entries.
use mathlib.Core.Path.{◌∙◌}
use native.Mathlib.Omega.{arith}
use Rattle.row_table.proofs.Laws.{sum_fits, eight}
use Rattle.row_table.proofs.put_eight.Goals as goal

pub overflow_add-z : goal.overflow_add-z
overflow_add-z c = omega (arith, sum_fits _ _ _ _ c.spread.ensures c.spread-2.ensures)

pub returns : goal.returns
returns c =
    eight _ _ _ _ c.spread.ensures c.spread-2.ensures _ _ _ _ (omega arith)
    (c.copy_from_slice.ensures.after ∙ c.to_le_bytes.ensures) (omega arith)
