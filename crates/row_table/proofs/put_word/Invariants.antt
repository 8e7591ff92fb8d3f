-- `row_table::put_word` meets its contract. The loop's invariant: the first 8 j entries are those of the lowest 8 j
-- bits, and nothing else has changed.
use Prim.Native.Nat.{◌+◌, ◌*◌}
use Rattle.bit_sets.specs.Bits.{bit}
use Rattle.row_table.specs.Table.{Run}
use Rattle.row_table.proofs.put_word.Given as goal

abbrev pub invariant-loop-j : goal.invariant-loop-j
invariant-loop-j l = Run l.initial.out l.at (8 * l.j) (λ i. bit l.p i + bit l.s i) l.out
