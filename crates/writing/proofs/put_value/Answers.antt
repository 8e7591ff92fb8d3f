-- `writing::put_value` meets its contract: the bytes of a number are its digits, and those of a dash the one byte 45
-- (`number-bytes`, `dash-bytes`).
use mathlib.Core.Path.{ap}
use native.Mathlib.Omega.{arith}
use lib.ListN.{length}
use Rattle.writing.proofs.Laws.{number-bytes, dash-bytes}
use Rattle.writing.proofs.put_value.Goals as goal

pub put_number-requires : goal.put_number-requires
put_number-requires c = omega (arith, ap length (number-bytes c.in-Number.is))

pub put_byte-requires : goal.put_byte-requires
put_byte-requires c = omega (arith, ap length (dash-bytes c.in-Dash.is))

pub returns-in-Number : goal.returns-in-Number
returns-in-Number c = rw (number-bytes c.in-Number.is) c.put_number.ensures

pub returns-in-Dash : goal.returns-in-Dash
returns-in-Dash c = rw (dash-bytes c.in-Dash.is) c.put_byte.ensures
