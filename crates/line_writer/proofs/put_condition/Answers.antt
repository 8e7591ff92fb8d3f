-- `line_writer::put_condition` meets its contract: the line is the five pieces written, in their order
-- (`coded-pieces`), and its length tells that each has room (`coded-size`).
use mathlib.Core.Path.{sym}
use native.Mathlib.Omega.{arith}
use Rattle.writing.proofs.Laws.{after, wrote-length}
use Rattle.line_writer.proofs.Lines.{wrote_as, coded-pieces, coded-size}
use Rattle.line_writer.proofs.put_condition.Goals as goal

pub put_byte-first-requires : goal.put_byte-first-requires
put_byte-first-requires c = omega (arith, c.requires, coded-size c.args.place c.args.producer c.args.consumer)

pub put_next-second-requires : goal.put_next-second-requires
put_next-second-requires c = let a = c.put_byte-first.ensures in omega (arith, c.requires, coded-size c.args.place c.args.producer c.args.consumer, a.next, wrote-length a)

pub put_end-third-requires : goal.put_end-third-requires
put_end-third-requires c = let a = c.put_byte-first.ensures in let b = c.put_next-second.ensures in
    omega (arith, c.requires, coded-size c.args.place c.args.producer c.args.consumer, a.next, wrote-length a, b.next, wrote-length b)

pub put_end-end-requires : goal.put_end-end-requires
put_end-end-requires c = let a = c.put_byte-first.ensures in let b = c.put_next-second.ensures in let d = c.put_end-third.ensures in
    omega (arith, c.requires, coded-size c.args.place c.args.producer c.args.consumer, a.next, wrote-length a, b.next, wrote-length b, d.next, wrote-length d)

pub put_byte-requires : goal.put_byte-requires
put_byte-requires c = let a = c.put_byte-first.ensures in let b = c.put_next-second.ensures in let d = c.put_end-third.ensures in let e = c.put_end-end.ensures in
    omega (arith, c.requires, coded-size c.args.place c.args.producer c.args.consumer, a.next, wrote-length a, b.next, wrote-length b, d.next, wrote-length d, e.next, wrote-length e)

pub returns : goal.returns
returns c = wrote_as (after c.put_byte-first.ensures (after c.put_next-second.ensures (after c.put_end-third.ensures (after c.put_end-end.ensures c.put_byte.ensures)))) (sym (coded-pieces c.args.place c.args.producer c.args.consumer))
