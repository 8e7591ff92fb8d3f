-- `net_reader::lacks` meets its contract: the two searches are the two of `lacks_of`, among the inputs and among the
-- outputs.
use Rattle.net_reader.specs.Reads.{lacks_of}
use Rattle.net_reader.proofs.lacks.Goals as goal

pub returns : goal.returns
unfolding lacks_of
returns c = cc
