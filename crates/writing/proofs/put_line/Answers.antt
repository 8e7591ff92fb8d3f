-- `writing::put_line` meets its contract: the line is the letter, the fields and byte 10, and its three writes, each
-- where the one before it ended, are one (`after`).
use native.Mathlib.Omega.{arith}
use Rattle.writing.proofs.Laws.{after, wrote-length, line-length}
use Rattle.writing.proofs.put_line.Goals as goal

pub put_byte-first-requires : goal.put_byte-first-requires
put_byte-first-requires c = omega (arith, line-length c.args.letter c.args.fields.now)

pub put_fields-end-requires : goal.put_fields-end-requires
put_fields-end-requires c = omega (arith, line-length c.args.letter c.args.fields.now, c.put_byte-first.ensures.next, wrote-length c.put_byte-first.ensures)

pub put_byte-requires : goal.put_byte-requires
put_byte-requires c = omega (arith, line-length c.args.letter c.args.fields.now, c.put_byte-first.ensures.next, wrote-length c.put_byte-first.ensures, c.put_fields-end.ensures.next, wrote-length c.put_fields-end.ensures)

pub returns : goal.returns
returns c = after c.put_byte-first.ensures (after c.put_fields-end.ensures c.put_byte.ensures)
