use Rattle.std.proofs.Common.{arith, refl}
use Rattle.arrangement_reader.proofs.Reading.{begun, stop, many-stop, enter-room, again-stop, add-room, turn, done}
use Rattle.arrangement_reader.proofs.read_lines.Goals as goal

pub loop-at-init : goal.loop-at-init
loop-at-init c = (omega arith, refl, begun _ c.requires.0 c.requires.1 c.requires.2)

pub returns-in-Err : goal.returns-in-Err
returns-in-Err c = stop c.loop-at.invariant.2 c.in-Err.ensures refl

pub returns-then-line-gt-NUMBERS : goal.returns-then-line-gt-NUMBERS
returns-then-line-gt-NUMBERS c = many-stop c.loop-at.invariant.2 c.in-Ok.ensures refl (omega arith)

pub enter_events-requires : goal.enter_events-requires
enter_events-requires c = enter-room c.loop-at.invariant.2 c.in-Ok.ensures refl (omega arith)

pub returns-then-enter_events : goal.returns-then-enter_events
returns-then-enter_events c = again-stop c.loop-at.invariant.2 c.in-Ok.ensures refl (omega arith) c.enter_events.ensures c.if-enter_events.true

pub add_line-requires : goal.add_line-requires
add_line-requires c = add-room c.loop-at.invariant.2 c.in-Ok.ensures refl (omega arith) c.enter_events.ensures c.if-enter_events.false

pub loop-at-preserved : goal.loop-at-preserved
loop-at-preserved c =
    let a = c.in-Ok.ensures in (
      omega (arith, a.on, a.found.within),
      a.long,
      turn c.loop-at.invariant.2 a refl (omega arith) c.enter_events.ensures c.if-enter_events.false c.add_line.ensures,
    )

pub returns : goal.returns
returns c = done c.loop-at.invariant.2 (omega arith)
