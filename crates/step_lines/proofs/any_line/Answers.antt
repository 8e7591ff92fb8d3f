-- What each test finds of the line is what the definitions ask.
use mathlib.Core.Path.{sym, ◌∙◌}
use native.Mathlib.Omega.{arith}
use Rattle.lines.specs.Lines.{line_of}
use Rattle.number_lines.proofs.Lines.{few-known}
use Rattle.step_lines.proofs.Lines.{reads-21, reads-22, reads-step}
use Rattle.step_lines.proofs.any_line.Goals as goal

pub returns-then-not-is_step_line : goal.returns-then-not-is_step_line
returns-then-not-is_step_line c = reads-21 (line_of c.args.l.now c.args.ended) c.args.x c.requires.long (sym c.is_step_line.ensures ∙ c.if-not-is_step_line.true)

pub returns-then-any_unknown : goal.returns-then-any_unknown
returns-then-any_unknown c = reads-22 (line_of c.args.l.now c.args.ended) c.args.x c.requires.long (sym c.is_step_line.ensures ∙ c.if-not-is_step_line.false) (sym c.any_unknown.ensures ∙ c.if-any_unknown.true)

pub numbers-requires : goal.numbers-requires
numbers-requires c = few-known 256 c.args.x.transitions _ (omega (arith, c.count_numbers-count.ensures.0, c.if-count-le-STEP.true)) (sym c.any_unknown.ensures ∙ c.if-any_unknown.false) (omega (arith, c.requires.known))

pub returns-then-count-le-STEP : goal.returns-then-count-le-STEP
returns-then-count-le-STEP c = reads-step (line_of c.args.l.now c.args.ended) c.args.x c.numbers.ensures.long (sym c.is_step_line.ensures ∙ c.if-not-is_step_line.false) c.requires.known (sym c.any_unknown.ensures ∙ c.if-any_unknown.false) c.count_numbers-count.ensures.0 (λ h. c.numbers.ensures)

pub returns-else-count-le-STEP : goal.returns-else-count-le-STEP
returns-else-count-le-STEP c = reads-step (line_of c.args.l.now c.args.ended) c.args.x c.requires.long (sym c.is_step_line.ensures ∙ c.if-not-is_step_line.false) c.requires.known (sym c.any_unknown.ensures ∙ c.if-any_unknown.false) c.count_numbers-count.ensures.0 (λ h. absurd (omega (arith, c.if-count-le-STEP.false)))
