-- `byte_table::put_text` meets its contract: its three writes, each where the one before it ended, are one (`after`), from
-- the start of the buffer on (`from_start`).
use native.Mathlib.Omega.{arith}
use Rattle.writing.proofs.Laws.{after, wrote-length}
use Rattle.byte_table.specs.TableText.{table_text}
use Rattle.byte_table.proofs.Writes.{text-length, from_start}
use Rattle.byte_table.proofs.put_text.Goals as goal

pub put_opening-entries-requires : goal.put_opening-entries-requires
put_opening-entries-requires c = omega (arith, text-length)

pub put_entries-end-requires : goal.put_entries-end-requires
put_entries-end-requires c = let w = c.put_opening-entries.ensures in omega (arith, text-length, w.next, wrote-length w)

pub put_closing-requires : goal.put_closing-requires
put_closing-requires c =
    omega (arith, text-length, c.put_entries-end.ensures.next, wrote-length c.put_entries-end.ensures, c.put_opening-entries.ensures.next, wrote-length c.put_opening-entries.ensures)

pub returns : goal.returns
unfolding table_text
returns c =
    from_start c.requires (after c.put_opening-entries.ensures (after c.put_entries-end.ensures c.put_closing.ensures))
