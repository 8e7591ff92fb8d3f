-- `building::build` meets its contract: it is the answer of `build_into`, on bytes of a whole record and on a word,
-- where nothing is noted.
use Prim.Native.Nat.{ℕ}
use native.Mathlib.Omega.{arith}
use lib.ListN.{length-replicate}
use Rattle.lists.specs.Arrays.{blank}
use Rattle.building.proofs.build.Goals as goal

pub build_into-requires : goal.build_into-requires
build_into-requires c = (omega (arith, length-replicate {A = ℕ} 1664 0), blank 1)
