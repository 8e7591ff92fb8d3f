-- `net_reader::read_net` meets its contract: the copies of the four columns are the columns, so that the net by value
-- is the one that was read.
use mathlib.Core.Path.{◌≡◌, refl}
use native.Mathlib.Omega.{arith}
use Rattle.std.specs.Prelude.{Err}
use Rattle.net_reader.proofs.Reading.{read-value, read_none}
use Rattle.net_reader.proofs.read_net.Goals as goal

pub read_into-requires : goal.read_into-requires
read_into-requires c = record { tokens = refl; arcs = refl }

pub returns-in_err-size : goal.returns-in_err-size
returns-in_err-size c =
    let gone : c.from_residual.result ≡ Err c.in_err-size.field-0.0 = grind arith in
    rw gone (read_none _ _ c.in_err-size.ensures)

pub returns : goal.returns
returns c = read-value _ _ _ _ c.in_ok-size.ensures c.arcs_of.ensures c.arcs_of-2.ensures c.arcs_of-3.ensures c.arcs_of-4.ensures
