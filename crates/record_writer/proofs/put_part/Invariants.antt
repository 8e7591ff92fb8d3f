-- The marks at the first d bits of the words are put, and the iterator has the other bits of either.
use Prim.Native.Nat.{ℕ, ◌+◌, ◌≤◌}
use lib.Bits.{bit_or}
use Rattle.bit_sets.specs.Bits.{bit}
use Rattle.arc_sets.specs.Walk.{Left}
use Rattle.record_writer.specs.Notes.{Puts, notes_if}
use Rattle.record_writer.proofs.put_part.Given as goal

abbrev pub invariant-loop-i : goal.invariant-loop-i
invariant-loop-i l = (d : ℕ) × (d ≤ 64) × Left (bit_or l.part.guards l.part.reads) l.i-iterator.left d
    × Puts (notes_if (bit l.part.guards) (bit l.part.reads) l.m.rec.now l.m.steps.now l.m.event (λ i. l.part.first + i) d) l.initial.next l.initial.out l.initial.marks l.next l.out l.marks
