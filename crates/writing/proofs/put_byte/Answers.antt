-- `writing::put_byte` meets its contract: one store at the position, and the next position is one further (`one`).
use Rattle.writing.proofs.Laws.{one}
use Rattle.writing.proofs.put_byte.Goals as goal

pub returns : goal.returns
returns c = one _ _ _
