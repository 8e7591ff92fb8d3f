-- `number_lines::is_list_line` meets its contract: `is_list` judges the line without its end, and whether it is ended
-- was told.
use native.Mathlib.Omega.{arith}
use Rattle.number_lines.proofs.is_list_line.Goals as goal

pub is_list-requires : goal.is_list-requires
is_list-requires c = omega arith
