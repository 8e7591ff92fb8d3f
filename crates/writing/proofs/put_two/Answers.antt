-- `writing::put_two` meets its contract: two stores, at the position and behind it, are a write of two bytes (`two`).
use native.Mathlib.Omega.{arith}
use lib.ListN.{length-set}
use Rattle.writing.proofs.Laws.{two}
use Rattle.writing.proofs.put_two.Goals as goal

pub bounds-out-at-2 : goal.bounds-out-at-2
bounds-out-at-2 c = simp length-set (omega arith)

pub returns : goal.returns
returns c = two _ _ _ _
