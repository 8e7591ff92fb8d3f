-- `number_lines::is_step_line` meets its contract: a line of a log is a list line with the letter S, in the code's
-- terms and the paper's (`list-line`).
use mathlib.Core.Path.{refl, sym, ◌∙◌}
use Rattle.spec.specs.Classes.{alike}
use Rattle.spec.specs.Text.{named, in_digits, class_of}
use Rattle.spec.specs.Building.{is_step_line}
use Rattle.lines.specs.Lines.{line_of}
use Rattle.line_forms.proofs.Ties.{list-line}
use Rattle.number_lines.proofs.is_step_line.Goals as goal

pub returns : goal.returns
unfolding is_step_line alike class_of named in_digits
returns c = c.is_list_line.ensures ∙ sym (list-line "S" refl (line_of _ _))
