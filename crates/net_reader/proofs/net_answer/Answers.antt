-- `net_reader::net_answer` meets its contract: arrays of zeros are blank, and the answer of the reading into them does
-- not depend on what becomes of them.
use mathlib.Core.Path.{refl}
use Rattle.net_reader.proofs.net_answer.Goals as goal

pub read_into-requires : goal.read_into-requires
read_into-requires c = record { tokens = refl; arcs = refl }

pub returns : goal.returns
returns c = c.read_into.ensures.answer
