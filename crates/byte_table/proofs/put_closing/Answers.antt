-- `byte_table::put_closing` meets its contract: its five writes, each where the one before it ended, are one (`after`), and
-- the number written is the byte that ends a line, of which there is room for the digits (`closing-length`).
use Prim.Native.Nat.{ℕ}
use mathlib.Core.Path.{ap}
use native.Mathlib.Omega.{arith}
use lib.ListN.{length}
use Rattle.spec.specs.Text.{digits}
use Rattle.spec.specs.Quoted.{ascii}
use Rattle.writing.proofs.Laws.{after, wrote-length}
use Rattle.byte_table.specs.TableText.{closing}
use Rattle.byte_table.proofs.Writes.{closing-length}
use Rattle.byte_table.proofs.put_closing.Goals as goal

pub put_bytes-comment-requires : goal.put_bytes-comment-requires
put_bytes-comment-requires c = omega (arith, closing-length)

pub put_bytes-name-requires : goal.put_bytes-name-requires
put_bytes-name-requires c =
    omega (arith, closing-length, c.put_bytes-comment.ensures.next, wrote-length c.put_bytes-comment.ensures)

pub put_bytes-number-requires : goal.put_bytes-number-requires
put_bytes-number-requires c =
    omega (arith, closing-length, c.put_bytes-name.ensures.next, wrote-length c.put_bytes-name.ensures, c.put_bytes-comment.ensures.next, wrote-length c.put_bytes-comment.ensures)

pub put_number-end-requires : goal.put_number-end-requires
put_number-end-requires c =
    omega (arith, closing-length, ap (λ (n : ℕ). length (digits 4 n)) c.line_end_byte.ensures, c.put_bytes-number.ensures.next, wrote-length c.put_bytes-number.ensures, c.put_bytes-name.ensures.next, wrote-length c.put_bytes-name.ensures, c.put_bytes-comment.ensures.next, wrote-length c.put_bytes-comment.ensures)

pub put_bytes-requires : goal.put_bytes-requires
put_bytes-requires c =
    omega (arith, closing-length, ap (λ (n : ℕ). length (digits 4 n)) c.line_end_byte.ensures, c.put_number-end.ensures.next, wrote-length c.put_number-end.ensures, c.put_bytes-number.ensures.next, wrote-length c.put_bytes-number.ensures, c.put_bytes-name.ensures.next, wrote-length c.put_bytes-name.ensures, c.put_bytes-comment.ensures.next, wrote-length c.put_bytes-comment.ensures)

pub returns : goal.returns
unfolding closing ascii
returns c =
    after c.put_bytes-comment.ensures (after c.put_bytes-name.ensures (after c.put_bytes-number.ensures (after (rw c.line_end_byte.ensures at c.put_number-end.ensures) c.put_bytes.ensures)))
