-- `program_input::parts_at` meets its contract: a line `=` starts where the byte is `=`, an ending stands behind it, and a
-- line starts there; each test that fails rules it out.
use mathlib.Core.Path.{◌∙◌}
use native.Mathlib.Omega.{arith}
use Rattle.lines.proofs.Lines.{went_on}
use Rattle.program_input.proofs.Laws.{no_sign, sign-unended, sign-ended}
use Rattle.program_input.proofs.parts_at.Goals as goal

pub bounds-s-at : goal.bounds-s-at
bounds-s-at c = omega (arith, c.requires)

pub returns-then-s-at-ne61 : goal.returns-then-s-at-ne61
returns-then-s-at-ne61 c = no_sign _ _ c.if-s-at-ne61.true

pub overflow_add-end : goal.overflow_add-end
overflow_add-end c = omega (arith, c.requires)

pub log_from-log-requires : goal.log_from-log-requires
log_from-log-requires c = omega (arith, c.requires)

pub returns-then-log-end : goal.returns-then-log-end
returns-then-log-end c = sign-unended _ _ c.log_from-log.ensures (omega (arith, c.if-log-end.true))

pub starts_at-requires : goal.starts_at-requires
starts_at-requires c = c.requires

pub returns : goal.returns
returns c = let p = c.log_from-log.ensures in c.starts_at.ensures ∙ sign-ended _ _ p c.if-s-at-ne61.false (went_on p c.if-log-end.false)
