use Prim.Native.Nat.{◌+◌, ◌-◌, ◌<◌}
use mathlib.Core.Path.{refl, ◌∙◌}
use native.Mathlib.Omega.{arith}
use lib.Dec.{ltb}
use borrow.Author.Tests.{ltb-true}
use Rattle.lists.specs.Laws.{and-true}
use Rattle.byte_entries.proofs.Classes.{entry_value}
use Rattle.byte_entries.proofs.Tens.{small}
use Rattle.lines.proofs.Lines.{here, on-by}
use Rattle.digits.proofs.Digits.{Reading, read_first, read-on, read-zero, read_number}
use Rattle.digits.proofs.number_from.Goals as goal
use Rattle.digits.proofs.number_from.Goals.{After-entry_of-stop, In-loop-stop}

pub bounds-s-at : goal.bounds-s-at
bounds-s-at c = here c.requires.2

pub returns-then-first-gt9 : goal.returns-then-first-gt9
returns-then-first-gt9 c = record { within = omega (arith, here c.requires.2); number = λ d. absurd (d refl) }

pub overflow_add-end : goal.overflow_add-end
overflow_add-end c = omega (arith, here c.requires.2)

pub bounds-s-end : goal.bounds-s-end
bounds-s-end c = here (on-by c.requires.2 c.entry_of-first.ensures (λ z. omega (arith, c.if-first-gt9.false)))

-- the first digit, and what stands behind it
first : (c : After-entry_of-stop) → Reading c.args.most c.args.s.now c.args.at (c.args.at + 1) c.from-value.result c.entry_of-stop.result
first c = read_first c.requires.0 c.requires.2 (c.from-value.ensures ∙ c.entry_of-first.ensures) (omega (arith, c.from-value.ensures, c.if-first-gt9.false)) c.entry_of-stop.ensures

pub returns-then-first-eq0 : goal.returns-then-first-eq0
returns-then-first-eq0 c = let r = first (goal.at.returns-then-first-eq0 c).After-entry_of-stop in record { within = omega (arith, here r.ahead); number = λ d. read-zero r (omega arith) }

pub loop-stop-init : goal.loop-stop-init
loop-stop-init c = (c.requires.1, first (goal.at.loop-stop-init c).After-entry_of-stop)

pub overflow_sub-end : goal.overflow_sub-end
overflow_sub-end c = omega (arith, c.loop-stop.invariant.1.more)

-- what the loop's test told: the byte behind is a digit, and there is room for it
digit-next : (c : In-loop-stop) → c.loop-stop.stop < 10
digit-next c = ltb-true c.loop-stop.stop 10 (and-true (ltb c.loop-stop.stop 10) _ c.loop-stop-test.true).0

room : (c : In-loop-stop) → c.loop-stop.end - c.args.at < c.args.most
room c = ltb-true _ _ (and-true (ltb c.loop-stop.stop 10) _ c.loop-stop-test.true).1

pub overflow_mul-value : goal.overflow_mul-value
overflow_mul-value c = let l = c.loop-stop.invariant in omega (arith, small _ _ l.1.walked.low (omega (arith, l.0, room (goal.at.overflow_mul-value c).In-loop-stop)))

pub overflow_add-value : goal.overflow_add-value
overflow_add-value c = let l = c.loop-stop.invariant in omega (arith, small _ _ l.1.walked.low (omega (arith, l.0, room (goal.at.overflow_add-value c).In-loop-stop)), digit-next (goal.at.overflow_add-value c).In-loop-stop)

pub overflow_add-end-in-loop-stop : goal.overflow_add-end-in-loop-stop
overflow_add-end-in-loop-stop c = omega (arith, here c.loop-stop.invariant.1.ahead)

pub bounds-s-end-in-loop-stop : goal.bounds-s-end-in-loop-stop
bounds-s-end-in-loop-stop c = let r = c.loop-stop.invariant.1 in here (on-by r.ahead r.stops (λ z. omega (arith, digit-next (goal.at.bounds-s-end-in-loop-stop c).In-loop-stop)))

pub loop-stop-smaller : goal.loop-stop-smaller
loop-stop-smaller c = omega (arith, c.loop-stop.invariant.1.more, room (goal.at.loop-stop-smaller c).In-loop-stop)

pub loop-stop-preserved : goal.loop-stop-preserved
loop-stop-preserved c = let l = c.loop-stop.invariant in (l.0, rw c.from.ensures (read-on l.1 (digit-next (goal.at.loop-stop-preserved c).In-loop-stop) (room (goal.at.loop-stop-preserved c).In-loop-stop) c.entry_of-stop-in-loop-stop.ensures))

pub returns : goal.returns
returns c = let r = c.loop-stop.invariant.1 in record {
  within = omega (arith, here r.ahead);
  number = λ d. read_number r (λ z. c.if-first-eq0.false (c.entry_of-first.ensures ∙ entry_value _ (omega (arith, c.if-first-gt9.false, c.entry_of-first.ensures)) ∙ z));
}
