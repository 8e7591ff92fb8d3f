-- `refused_lines::refused_line_answer` meets its contract: start and length of a line that was found are the
-- definition's, and without one the refusal is 46.
use Rattle.refused_lines.proofs.Laws.{answer-found}
use Rattle.refused_lines.proofs.refused_line_answer.Goals as goal

pub returns : goal.returns
returns c = rw c.ok_or.ensures.value (answer-found _ _ _ _ _ c.find.ensures)
