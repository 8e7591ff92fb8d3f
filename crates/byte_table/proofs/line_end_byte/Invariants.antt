-- `byte_table::line_end_byte` meets its contract. The loop's invariant: b and the count of bytes from b on before the first
-- with the line end's entry give the byte that is sought, since no byte passed has the entry.
use Rattle.byte_table.proofs.Entries.{Sought}
use Rattle.byte_table.proofs.line_end_byte.Given as goal

abbrev pub invariant-loop-b : goal.invariant-loop-b
invariant-loop-b l = Sought l.b
