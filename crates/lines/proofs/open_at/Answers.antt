-- `lines::open_at` meets its contract: where two bytes stand in front of the last line end, each has the entry that the
-- table gives; else the answer tells nothing.
use Prim.Native.Nat.{◌+◌}
use mathlib.Core.Path.{sym}
use native.Mathlib.Omega.{arith}
use borrow.Author.Tests.{lt-ltb, le-ltb}
use Rattle.lines.proofs.open_at.Goals as goal

pub overflow_add-second : goal.overflow_add-second
overflow_add-second c = omega (arith, c.requires.0)

pub returns-then-c-second : goal.returns-then-c-second
returns-then-c-second c = sym (rw (le-ltb _ _ c.if-c-second.true))

pub bounds-s-first : goal.bounds-s-first
bounds-s-first c = omega (arith, c.requires.0)

pub bounds-s-second : goal.bounds-s-second
bounds-s-second c = omega (arith, c.requires.1)

pub returns : goal.returns
returns c = rw (lt-ltb (c.args.c.at + 1) c.args.c.ended (omega arith), c.entry_of.ensures, c.entry_of-2.ensures)
