-- `writing::put_field` meets its contract: a field alone is a comma and its bytes (`field-one`), and two writes, the
-- second where the first ended, are one (`after`).
use mathlib.Core.Path.{ap}
use native.Mathlib.Omega.{arith}
use lib.ListN.{length}
use Rattle.writing.proofs.Laws.{after, field-one, wrote-length}
use Rattle.writing.proofs.put_field.Goals as goal

pub put_byte-next-requires : goal.put_byte-next-requires
put_byte-next-requires c = omega (arith, ap length (field-one c.args.f))

pub put_value-requires : goal.put_value-requires
put_value-requires c = let w = c.put_byte-next.ensures in
    omega (arith, ap length (field-one c.args.f), w.next, wrote-length w)

pub returns : goal.returns
returns c = rw field-one (after c.put_byte-next.ensures c.put_value.ensures)
