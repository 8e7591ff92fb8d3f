-- `step_lines::count_step` meets its contract: more events than are left of 128 is the same test as more than 128 in
-- all, since no more than 128 are there.
use mathlib.Core.Path.{sym}
use Rattle.step_lines.proofs.Lines.{counts-23, counts-on}
use Rattle.step_lines.proofs.count_step.Goals as goal

pub returns-then-x-count : goal.returns-then-x-count
returns-then-x-count c = sym (counts-23 _ _ _ c.if-x-count.true c.requires)

pub returns : goal.returns
returns c = sym (counts-on _ _ _ c.if-x-count.false c.requires)
