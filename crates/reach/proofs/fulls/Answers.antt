use native.Mathlib.Omega.{arith}
use Rattle.reach.proofs.Laws.{fulls-more, fulls-end, good-at}
use Rattle.reach.proofs.fulls.Goals as goal

pub loop-e-init : goal.loop-e-init
loop-e-init c = record { inside = λ g l. c.none-r.ensures g; empty = λ g f l. absurd (omega arith) }

pub with_full-r-requires : goal.with_full-r-requires
with_full-r-requires c = (omega arith, good-at _ _ _ c.requires.1 (omega arith) c.row_at.ensures)

pub loop-e-preserved : goal.loop-e-preserved
loop-e-preserved c = fulls-more _ _ _ _ _ c.row_at.ensures c.with_full-r.ensures c.loop-e.invariant

pub returns : goal.returns
returns c = fulls-end _ _ _ _ (omega arith) c.loop-e.invariant
