use Prim.Native.Nat.{◌*◌, ◌/◌, ◌^◌}
use native.Mathlib.Omega.{arith}
use mathlib.Core.Path.{refl}
use lib.Bits.{and_le_r}
use Rattle.row_table.specs.Table.{run_none, run-same}
use Rattle.row_table.proofs.Laws.{octets}
use Rattle.row_table.proofs.put_word.Goals as goal

pub loop-j-init : goal.loop-j-init
loop-j-init c = run_none _ _ _

pub put_eight-requires : goal.put_eight-requires
put_eight-requires c = (
  omega (arith, and_le_r (c.args.p / 2 ^ (8 * c.loop-j.j)) 255),
  omega (arith, and_le_r (c.args.s / 2 ^ (8 * c.loop-j.j)) 255),
  omega arith,
)

pub loop-j-preserved : goal.loop-j-preserved
loop-j-preserved c = octets _ _ _ _ _ _ _ c.loop-j.invariant c.put_eight.ensures

pub returns : goal.returns
returns c = run-same (omega arith) (λ i l. refl) c.loop-j.invariant
