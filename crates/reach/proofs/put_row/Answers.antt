-- `reach::put_row` meets its contract: the four stores go to four places, which are those of row e, and no other row
-- has one of them.
use native.Mathlib.Omega.{arith}
use Rattle.reach.proofs.Laws.{put_is}
use Rattle.reach.proofs.put_row.Goals as goal

pub returns : goal.returns
returns c = put_is _ _ _ (omega arith) (omega arith)
