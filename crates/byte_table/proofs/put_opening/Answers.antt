-- `byte_table::put_opening` meets its contract: its four writes, each where the one before it ended, are one (`after`), and
-- there is room for each, since they are as long as the opening (`opening-length`).
use native.Mathlib.Omega.{arith}
use Rattle.spec.specs.Quoted.{ascii}
use Rattle.writing.proofs.Laws.{after, wrote-length}
use Rattle.byte_table.specs.TableText.{opening}
use Rattle.byte_table.proofs.Writes.{opening-length}
use Rattle.byte_table.proofs.put_opening.Goals as goal

pub put_bytes-program-requires : goal.put_bytes-program-requires
put_bytes-program-requires c = omega (arith, opening-length)

pub put_bytes-hand-requires : goal.put_bytes-hand-requires
put_bytes-hand-requires c =
    omega (arith, opening-length, c.put_bytes-program.ensures.next, wrote-length c.put_bytes-program.ensures)

pub put_bytes-table-requires : goal.put_bytes-table-requires
put_bytes-table-requires c =
    omega (arith, opening-length, c.put_bytes-hand.ensures.next, wrote-length c.put_bytes-hand.ensures, c.put_bytes-program.ensures.next, wrote-length c.put_bytes-program.ensures)

pub put_bytes-requires : goal.put_bytes-requires
put_bytes-requires c =
    omega (arith, opening-length, c.put_bytes-table.ensures.next, wrote-length c.put_bytes-table.ensures, c.put_bytes-hand.ensures.next, wrote-length c.put_bytes-hand.ensures, c.put_bytes-program.ensures.next, wrote-length c.put_bytes-program.ensures)

pub returns : goal.returns
unfolding opening ascii
returns c =
    after c.put_bytes-program.ensures (after c.put_bytes-hand.ensures (after c.put_bytes-table.ensures c.put_bytes.ensures))
