use mathlib.Core.Path.{sym, ◌∙◌}
use Rattle.program_input.proofs.Laws.{nothing, found, turn}
use Rattle.program_input.proofs.part_input.Goals as goal

pub loop-at-init : goal.loop-at-init
loop-at-init c = c.skip-at.ensures

pub returns-then-parts_at : goal.returns-then-parts_at
returns-then-parts_at c = found _ _ c.loop-at.invariant c.loop-at-test.true (sym c.parts_at.ensures ∙ c.if-parts_at.true) c.log_from.ensures

pub loop-at-preserved : goal.loop-at-preserved
loop-at-preserved c = turn _ _ c.loop-at.invariant c.loop-at-test.true (sym c.parts_at.ensures ∙ c.if-parts_at.false)

pub returns : goal.returns
returns c = nothing _ _ c.loop-at.invariant c.loop-at-test.false
