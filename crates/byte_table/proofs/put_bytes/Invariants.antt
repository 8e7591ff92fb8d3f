-- `byte_table::put_bytes` meets its contract. The loop's invariant: the bytes passed are written, and one byte more is one
-- more write where they ended (`after`).
use Rattle.std.proofs.Common.{take}
use Rattle.writing.specs.Written.{Wrote}
use Rattle.byte_table.proofs.put_bytes.Given as goal

abbrev pub invariant-loop-b : goal.invariant-loop-b
invariant-loop-b l = Wrote l.initial.out l.at (take l.b-index l.bs) l.next l.out
