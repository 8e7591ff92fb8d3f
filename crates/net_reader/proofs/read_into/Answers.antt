-- `net_reader::read_into` meets its contract: reading a net is, in the definitions too, the lines and then the last
-- rule.
use mathlib.Core.Path.{◌≡◌}
use native.Mathlib.Omega.{arith}
use Rattle.std.specs.Prelude.{Err}
use Rattle.net_reader.proofs.Reading.{few-read, kept, finished, reads-into}
use Rattle.net_reader.proofs.read_into.Goals as goal

pub returns-in_err-size : goal.returns-in_err-size
returns-in_err-size c =
    let gone : c.from_residual.result ≡ Err c.in_err-size.field-0.0 = grind arith in
    rw gone (reads-into _ _ _ _ (kept _ _ _ c.in_err-size.ensures))

pub finish-requires : goal.finish-requires
finish-requires c = few-read _ _ c.in_ok-size.ensures

pub returns : goal.returns
returns c = reads-into _ _ _ _ (finished _ _ _ _ c.finish.ensures c.in_ok-size.ensures)
