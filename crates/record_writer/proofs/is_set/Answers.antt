-- `record_writer::is_set` meets its contract: a word shifted down by a number has as its lowest bit the bit at that
-- number.
use mathlib.Core.Path.{ap}
use lib.Dec.{eqb}
use Rattle.bit_sets.proofs.Laws.{bit_test}
use Rattle.record_writer.proofs.is_set.Goals as goal

pub returns : goal.returns
returns c = ap (λ x. eqb x 1) (bit_test _ _)
