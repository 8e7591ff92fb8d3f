-- The marks at the conditions of the first w words
-- are put.
use Prim.Native.Nat.{◌*◌}
use Rattle.condition_sets.specs.Sets.{bit_at}
use Rattle.record_writer.specs.Notes.{Puts, notes_if}
use Rattle.record_writer.proofs.put_row.Given as goal

abbrev pub invariant-loop-w : goal.invariant-loop-w
invariant-loop-w l = Puts (notes_if (bit_at l.watched l.t) (bit_at l.reads 0) l.m.rec.now l.m.steps.now l.m.event (λ c. c) (64 * l.w)) l.initial.next l.initial.out l.initial.marks l.next l.out l.marks
