-- `plain_lines::alone_at` meets its contract: a letter with an ending behind it is a line without fields
-- (`letter-alone`); else the position stays.
-- a return behind the letter lies in front of a line end
use Prim.Native.Nat.{◌+◌, ◌<◌}
use mathlib.Core.Path.{◌≡◌, sym, subst}
use native.Mathlib.Omega.{arith}
use lib.ListN.{length}
use Rattle.spec.specs.declared.Class.TheVariants.{Return}
use Rattle.byte_entries.specs.Entries.{code_of}
use Rattle.lines.specs.Lines.{PastEnding}
use Rattle.lines.proofs.Lines.{past-told, went_on, here, on-by}
use Rattle.plain_lines.proofs.Plain.{letter-alone, stays}
use Rattle.plain_lines.proofs.alone_at.Goals as goal
use Rattle.plain_lines.proofs.alone_at.Goals.{Start}

on : (c : Start) → c.args.behind ≡ code_of Return → c.args.at + 1 + 1 < length c.args.s.now
on c e = here (on-by c.requires.ahead c.requires.told (λ z. omega arith))

pub overflow_add-end : goal.overflow_add-end
overflow_add-end c = omega (arith, c.requires.begins.within)

pub past_ending-next-requires : goal.past_ending-next-requires
past_ending-next-requires c = (on (goal.at.past_ending-next-requires c).Start, omega (arith, here c.requires.ahead))

pub returns-then-next-end : goal.returns-then-next-end
returns-then-next-end c = λ most. stays c.requires.begins.within

pub returns : goal.returns
returns c = λ most. let l = c.requires in
    let p = subst (PastEnding c.args.s.now _) (sym c.past_ending-next.ensures) (past-told c.args.s.now _ l.told (here l.ahead) (on (goal.at.returns c).Start)) in
    let g = went_on p c.if-next-end.false in record { within = p.within g; line = λ h. letter-alone l.begins (p.ending g) }
