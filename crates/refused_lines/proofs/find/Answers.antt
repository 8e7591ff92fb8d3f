-- `refused_lines::find` meets its contract: the chosen text is the net text at 0, the second at 1, and has no line at
-- any other choice.
use native.Mathlib.Omega.{arith}
use Rattle.refused_lines.proofs.Laws.{chosen-net, chosen-second, none-chosen, found_in}
use Rattle.refused_lines.proofs.find.Goals as goal

pub returns-in-0 : goal.returns-in-0
returns-in-0 c = found_in _ _ _ _ _ _ (omega arith) (chosen-net _ _ _ c.in-0.is) c.find_line.ensures

pub returns-in-1 : goal.returns-in-1
returns-in-1 c = found_in _ _ _ _ _ _ (omega arith) (chosen-second _ _ _ c.in-1.is) c.find_line-in-1.ensures

pub returns-in_default : goal.returns-in_default
returns-in_default c = none-chosen _ _ _ _ (omega arith)
