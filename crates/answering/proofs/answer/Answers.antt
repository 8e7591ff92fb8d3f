-- What is printed is within its buffer and stands at its start, so what is handed on to be written is what is printed.
use Rattle.std.proofs.Common.{◌<◌, arith, take, length-take, subst, ap}
use Rattle.std.specs.Io.KnownBytes.{Appends}
use Rattle.printing.proofs.Printing.{printed-within, printed-start}
use Rattle.answering.proofs.answer.Goals as goal

pub write_first-requires : goal.write_first-requires
write_first-requires g c = omega (arith, printed-within _ _ c.print_first-printed.ensures)

pub returns-in-Ok-clause-given : goal.returns-in-Ok-clause-given
returns-in-Ok-clause-given g c = subst (Appends _ _) (printed-start _ _ c.print_first-printed.ensures) c.in-Ok.ensures.gave

pub returns-in-Err-clause-given : goal.returns-in-Err-clause-given
returns-in-Err-clause-given g c =
    let (k, below, wrote) = c.in-Err.ensures.gave in
    let m = c.print_first-printed.result in
    let within : k < m = omega (arith, length-take m c.print_first-printed.new.out) in
    (k, within, subst (Appends _ _) (ap (take k) (printed-start _ _ c.print_first-printed.ensures)) wrote)
