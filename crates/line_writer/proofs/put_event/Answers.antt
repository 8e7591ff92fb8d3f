-- `line_writer::put_event` meets its contract: the line is the pieces written, in their order (`event-pieces`), and its
-- length tells that each has room (`event-size`).
use mathlib.Core.Path.{sym}
use native.Mathlib.Omega.{arith}
use Rattle.writing.proofs.Laws.{after, wrote-length}
use Rattle.line_writer.proofs.Lines.{wrote_as, event-pieces, event-size}
use Rattle.line_writer.proofs.put_event.Goals as goal

pub put_byte-first-requires : goal.put_byte-first-requires
put_byte-first-requires c = omega (arith, c.requires, event-size c.args.t)

pub put_next-end-requires : goal.put_next-end-requires
put_next-end-requires c = let a = c.put_byte-first.ensures in omega (arith, c.requires, event-size c.args.t, a.next, wrote-length a)

pub put_byte-requires : goal.put_byte-requires
put_byte-requires c = let a = c.put_byte-first.ensures in let b = c.put_next-end.ensures in omega (arith, c.requires, event-size c.args.t, a.next, wrote-length a, b.next, wrote-length b)

pub returns : goal.returns
returns c = wrote_as (after c.put_byte-first.ensures (after c.put_next-end.ensures c.put_byte.ensures)) (sym (event-pieces c.args.t))
