use native.Mathlib.Omega.{arith}
use mathlib.Core.Path.{◌∙◌}
use Rattle.reach.specs.Rows.{turn_of}
use Rattle.reach.proofs.Laws.{closing-none, closing-more, closing_end, done_more, all-done}
use Rattle.reach.proofs.close_along.Goals as goal

pub fulls-full-requires : goal.fulls-full-requires
fulls-full-requires c = (c.requires.0, c.requires.2)

pub below-all-requires : goal.below-all-requires
below-all-requires c = c.requires.0

pub loop-i-init : goal.loop-i-init
loop-i-init c = (
  c.requires.1,
  closing-none _ _ _ _ c.requires.2 c.fulls-full.ensures c.none-done.ensures,
  λ k l. absurd (omega arith),
)

pub close_row-requires : goal.close_row-requires
close_row-requires c = (omega (arith, c.requires.0, c.event_at-e.ensures.1), c.loop-i.invariant.0, c.loop-i.invariant.1.good)

pub one-requires : goal.one-requires
one-requires c = omega (arith, c.requires.0, c.event_at-e.ensures.1)

pub loop-i-preserved : goal.loop-i-preserved
loop-i-preserved c = (
  c.close_row.ensures.long ∙ c.loop-i.invariant.0,
  closing-more c.loop-i.done _ c.one.result _ c.one.ensures c.union-done.ensures _ c.loop-i.w _ _ _ c.below-all.result c.requires.0 c.event_at-e.ensures.1 c.loop-i.invariant.1 c.close_row.ensures c.below-all.ensures,
  done_more c.loop-i.done _ c.one.result (turn_of c.args.up c.args.n) c.loop-i.i (rw (← c.event_at-e.ensures.0) c.one.ensures) c.union-done.ensures c.loop-i.invariant.2,
)

pub returns : goal.returns
returns c =
    let v = c.loop-i.invariant in
    (v.0, closing_end _ _ _ _ c.loop-i.done (all-done _ _ _ (λ k h. v.2 k (omega arith))) v.1)
