-- `set_rows::put_set` meets its contract: the two words of set s are stored, and those of any other set stand elsewhere.
use native.Mathlib.Omega.{arith}
use lib.ListN.{length-set}
use Rattle.set_rows.proofs.Stores.{set-put}
use Rattle.set_rows.proofs.put_set.Goals as goal

pub bounds-w-s-2 : goal.bounds-w-s-2
bounds-w-s-2 c = simp length-set (omega arith)

pub returns : goal.returns
returns c = set-put _ _ _ c.requires
