-- What was written is counted, or the refusal is printed.
use Prim.Native.Nat.{ℕ}
use native.Mathlib.Omega.{arith}
use lib.ListN.{length-replicate}
use Rattle.lists.specs.Arrays.{blank}
use Rattle.printing.proofs.Printing.{counts-room, run-counted, refusal-ready, refusal-printed}
use Rattle.printing.proofs.print_run.Goals as goal

pub build_into-requires : goal.build_into-requires
build_into-requires c = (omega (arith, length-replicate {A = ℕ} 1664 0), blank 4096)

pub put_counts-requires : goal.put_counts-requires
put_counts-requires c = let b = c.in-Ok.ensures in
    (counts-room _ _ _ c.requires b.0, (b.1 (omega (arith, length-replicate {A = ℕ} 4096 0))).noted)

pub returns-in-Ok : goal.returns-in-Ok
returns-in-Ok c = let b = c.in-Ok.ensures in
    run-counted _ _ _ c.requires b.0 (b.1 (omega (arith, length-replicate {A = ℕ} 4096 0))) c.put_counts.ensures

pub put_refusal-requires : goal.put_refusal-requires
put_refusal-requires c = refusal-ready _ _ _ c.requires _ c.in-Err.ensures.0

pub returns-in-Err : goal.returns-in-Err
returns-in-Err c = refusal-printed _ _ _ c.requires _ c.in-Err.ensures.0 c.refused-refusal.ensures c.put_refusal.ensures
