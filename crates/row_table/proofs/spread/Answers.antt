-- `row_table::spread` meets its contract: that the product spreads each number below 256 is computed once for all of
-- them (`all-spread`).
use Prim.Native.Nat.{◌*◌}
use native.Mathlib.Omega.{arith}
use lib.Bits.{bit_and, and_le_r}
use Rattle.row_table.specs.Spread.{product, spread-is}
use Rattle.row_table.proofs.spread.Goals as goal

pub overflow_mul-result : goal.overflow_mul-result
overflow_mul-result c = omega (arith, and_le_r c.args.x 127)

pub overflow_add-result : goal.overflow_add-result
overflow_add-result c = omega (arith, and_le_r (bit_and c.args.x 127 * 567382630219905) 72340172838076673)

pub returns : goal.returns
unfolding product
returns c = spread-is _ (omega arith)
