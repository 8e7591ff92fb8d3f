use native.Mathlib.Omega.{arith}
use Rattle.lines.proofs.Lines.{here}
use Rattle.number_lines.proofs.Listing.{letter-on, letter-class, walk_start, comma-on, walk-on}
use Rattle.number_lines.proofs.Listing.{return-on, listed, no-list}
use Rattle.number_lines.proofs.list_at.Goals as goal

pub bounds-text-at : goal.bounds-text-at
bounds-text-at c = here c.requires.1

pub returns-then-entry_of-letter : goal.returns-then-entry_of-letter
returns-then-entry_of-letter c = no-list c.requires.2

pub overflow_add-end : goal.overflow_add-end
overflow_add-end c = omega (arith, here c.requires.1)

pub bounds-text-end : goal.bounds-text-end
bounds-text-end c =
    here (letter-on c.requires.0 c.requires.1 c.entry_of.ensures c.if-entry_of-letter.false)

pub loop-stop-init : goal.loop-stop-init
loop-stop-init c =
    walk_start c.requires.0 c.requires.1 c.entry_of.ensures c.if-entry_of-letter.false c.requires.2 c.entry_of-stop.ensures

pub overflow_add-end-in-loop-stop : goal.overflow_add-end-in-loop-stop
overflow_add-end-in-loop-stop c = omega (arith, here c.loop-stop.invariant.ahead)

pub returns-then-v-eq-FOREIGN : goal.returns-then-v-eq-FOREIGN
returns-then-v-eq-FOREIGN c = no-list c.loop-stop.invariant.kept.long

pub put-requires : goal.put-requires
put-requires c = c.loop-stop.invariant.kept.long

pub overflow_add-seen : goal.overflow_add-seen
overflow_add-seen c =
    let w = c.loop-stop.invariant in
    omega (arith, w.few, here w.ahead)

pub loop-stop-smaller : goal.loop-stop-smaller
loop-stop-smaller c =
    let f = c.number_from-v.ensures.number c.if-v-eq-FOREIGN.false in
    omega (arith, f.start, here f.ahead)

pub loop-stop-preserved : goal.loop-stop-preserved
loop-stop-preserved c =
    let f = c.number_from-v.ensures.number c.if-v-eq-FOREIGN.false in
    rw c.max-high.ensures (walk-on c.loop-stop.invariant c.loop-stop-test.true f c.put.ensures)

pub returns-then-seen-eq0 : goal.returns-then-seen-eq0
returns-then-seen-eq0 c = no-list c.loop-stop.invariant.kept.long

pub returns-then-next-end : goal.returns-then-next-end
returns-then-next-end c = no-list c.loop-stop.invariant.kept.long

pub returns : goal.returns
returns c =
    let p = c.requires in
    let k = letter-class p.0 p.1 c.entry_of.ensures c.if-entry_of-letter.false in
    listed c.loop-stop.invariant k (omega arith) c.past_ending-next.ensures c.if-next-end.false

pub number_from-v-requires : goal.number_from-v-requires
number_from-v-requires c =
    (omega arith, omega arith, comma-on c.loop-stop.invariant c.loop-stop-test.true)

pub past_ending-next-requires : goal.past_ending-next-requires
past_ending-next-requires c =
    let w = c.loop-stop.invariant in
    (return-on w, omega (arith, here w.ahead))
