-- `byte_table::put_entry` meets its contract: its three writes, each where the one before it ended, are one (`after`), and
-- the number written is the byte's entry, of which there is room for the digits (`line-length`).
use Prim.Native.Nat.{ℕ}
use mathlib.Core.Path.{ap}
use native.Mathlib.Omega.{arith}
use lib.ListN.{length}
use Rattle.spec.specs.Text.{digits}
use Rattle.spec.specs.Quoted.{ascii}
use Rattle.writing.proofs.Laws.{after, wrote-length}
use Rattle.byte_table.specs.TableText.{entry_line}
use Rattle.byte_table.proofs.Writes.{line-length}
use Rattle.byte_table.proofs.put_entry.Goals as goal

pub put_bytes-number-requires : goal.put_bytes-number-requires
put_bytes-number-requires c = omega (arith, line-length c.args.b)

pub put_number-end-requires : goal.put_number-end-requires
put_number-end-requires c =
    let x = c.args.b in
    omega (arith, line-length x, ap (λ (n : ℕ). length (digits 4 n)) c.entry_of.ensures, c.put_bytes-number.ensures.next, wrote-length c.put_bytes-number.ensures)

pub put_bytes-requires : goal.put_bytes-requires
put_bytes-requires c =
    omega (arith, line-length c.args.b, ap (λ (n : ℕ). length (digits 4 n)) c.entry_of.ensures, c.put_number-end.ensures.next, wrote-length c.put_number-end.ensures, c.put_bytes-number.ensures.next, wrote-length c.put_bytes-number.ensures)

pub returns : goal.returns
unfolding entry_line ascii
returns c =
    after c.put_bytes-number.ensures (after (rw c.entry_of.ensures at c.put_number-end.ensures) c.put_bytes.ensures)
