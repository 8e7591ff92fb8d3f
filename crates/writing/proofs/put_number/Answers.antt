-- `writing::put_number` meets its contract: of each size the digits are those written (`digits_low`, `digits-two`,
-- `digits-three`, `digits-four`); two writes, the second where the first ended, are one (`after`).
use mathlib.Core.Path.{ap}
use native.Mathlib.Omega.{arith}
use lib.ListN.{length}
use Rattle.writing.proofs.Laws.{after, wrote-length, digits_low, digits-two, digits-three, digits-four}
use Rattle.writing.proofs.put_number.Goals as goal

pub put_byte-requires : goal.put_byte-requires
put_byte-requires c = omega (arith, ap length (digits_low 4 c.args.n (omega arith) (omega arith)))

pub returns-then-n-lt10 : goal.returns-then-n-lt10
returns-then-n-lt10 c = rw (digits_low 4 c.args.n (omega arith) (omega arith)) c.put_byte.ensures

pub put_two-requires : goal.put_two-requires
put_two-requires c = omega (arith, ap length (digits-two c.args.n (omega arith) (omega arith)))

pub returns-then-n-lt100 : goal.returns-then-n-lt100
returns-then-n-lt100 c = rw (digits-two c.args.n (omega arith) (omega arith)) c.put_two.ensures

pub put_byte-next-requires : goal.put_byte-next-requires
put_byte-next-requires c = omega (arith, ap length (digits-three c.args.n (omega arith) (omega arith)))

pub put_two-requires-then-n-lt1000 : goal.put_two-requires-then-n-lt1000
put_two-requires-then-n-lt1000 c = let w = c.put_byte-next.ensures in omega (arith, ap length (digits-three c.args.n (omega arith) (omega arith)), w.next, wrote-length w)

pub returns-then-n-lt1000 : goal.returns-then-n-lt1000
returns-then-n-lt1000 c = rw (digits-three c.args.n (omega arith) (omega arith)) (after c.put_byte-next.ensures c.put_two-then-n-lt1000.ensures)

pub put_two-next-requires : goal.put_two-next-requires
put_two-next-requires c = omega (arith, ap length (digits-four c.args.n (omega arith)))

pub put_two-requires-2 : goal.put_two-requires-2
put_two-requires-2 c = let w = c.put_two-next.ensures in omega (arith, ap length (digits-four c.args.n (omega arith)), w.next, wrote-length w)

pub returns : goal.returns
returns c = rw (digits-four c.args.n (omega arith)) (after c.put_two-next.ensures c.put_two-2.ensures)
