-- `byte_table::put_entries` meets its contract. The loop's invariant: the lines of the first b bytes are written. There is
-- room for the next one, since the first lines are no longer than all of them (`parts_within`).
use Rattle.std.proofs.Common.{map}
use Rattle.spec.specs.Lists.{up_to, flat}
use Rattle.writing.specs.Written.{Wrote}
use Rattle.byte_table.specs.TableText.{entry_line}
use Rattle.byte_table.proofs.put_entries.Given as goal

abbrev pub invariant-loop-b : goal.invariant-loop-b
invariant-loop-b l = Wrote l.initial.out l.at (flat (map entry_line (up_to l.b))) l.next l.out
