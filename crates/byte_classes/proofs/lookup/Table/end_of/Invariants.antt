-- `byte_classes::Table::end_of` meets its contract. The loop's invariant: i and the count of bytes before the first with the
-- entry from i on give the same place as at the start, since no byte passed had the entry.
use Prim.Native.Nat.{◌+◌}
use mathlib.Core.Path.{◌≡◌}
use lib.ListN.{drop}
use Rattle.byte_entries.specs.Entries.{is_entry, before_first}
use Rattle.byte_classes.proofs.lookup.Table.end_of.Given as goal

abbrev pub invariant-loop-i : goal.invariant-loop-i
invariant-loop-i l = l.i + before_first (is_entry l.entry) (drop l.i l.s) ≡ l.at + before_first (is_entry l.entry) (drop l.at l.s)
