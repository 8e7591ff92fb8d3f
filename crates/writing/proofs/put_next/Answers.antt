-- `writing::put_next` meets its contract: a number as a field is a comma and its digits (`next-bytes`), and two writes,
-- the second where the first ended, are one (`after`).
use mathlib.Core.Path.{ap}
use native.Mathlib.Omega.{arith}
use lib.ListN.{length}
use Rattle.writing.proofs.Laws.{after, next-bytes, wrote-length}
use Rattle.writing.proofs.put_next.Goals as goal

pub put_byte-digits-requires : goal.put_byte-digits-requires
put_byte-digits-requires c = omega (arith, ap length (next-bytes c.args.n))

pub put_number-requires : goal.put_number-requires
put_number-requires c = let w = c.put_byte-digits.ensures in
    omega (arith, ap length (next-bytes c.args.n), w.next, wrote-length w)

pub returns : goal.returns
returns c = rw next-bytes (after c.put_byte-digits.ensures c.put_number.ensures)
