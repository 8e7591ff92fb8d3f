-- `net::arc_at` meets its contract: an entry of a column is the entry of the array that far behind the column's start.
use mathlib.Core.Path.{sym}
use native.Mathlib.Omega.{arith}
use Rattle.columns.specs.Columns.{column-at}
use Rattle.net.proofs.arc_at.Goals as goal

pub returns : goal.returns
returns c = sym (column-at _ 1024 _ _ (omega arith))
