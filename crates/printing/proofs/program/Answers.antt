-- `printing::program` meets its contract: an input that is too long or has no line `=` is refused with 10 (`too_long`,
-- `unparted`), and of any other the program prints what the log behind that line builds on the net in front of it
-- (`program-parted`).
use Rattle.printing.proofs.Running.{too_long, unparted}
use Rattle.printing.proofs.Printing.{prints, parted-at, parted-nowhere, program-parted}
use Rattle.printing.proofs.program.Goals as goal

pub returns-then-input-gt65536 : goal.returns-then-input-gt65536
returns-then-input-gt65536 c = prints _ (too_long _ c.if-input-gt65536.true) c.put_refusal.ensures

pub returns-in-Some : goal.returns-in-Some
returns-in-Some c = prints _ (program-parted _ c.if-input-gt65536.false (parted-at _ c.part_input.ensures c.in-Some.is)) c.print_run.ensures

pub returns-in-None : goal.returns-in-None
returns-in-None c = prints _ (unparted _ c.if-input-gt65536.false (parted-nowhere _ c.part_input.ensures c.in-None.is)) c.put_refusal-in-None.ensures
