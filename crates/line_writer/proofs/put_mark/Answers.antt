-- `line_writer::put_mark` meets its contract: the line is the pieces written, in their order (`mark-pieces`), and its
-- length tells that each has room (`mark-size`).
use mathlib.Core.Path.{sym, ap}
use mathlib.Core.List.{◌∷◌, []}
use native.Mathlib.Omega.{arith}
use Rattle.writing.proofs.Laws.{after, wrote-length}
use Rattle.line_writer.proofs.Lines.{wrote_as, mark-pieces, mark-size}
use Rattle.line_writer.proofs.put_mark.Goals as goal

pub put_byte-first-requires : goal.put_byte-first-requires
put_byte-first-requires c = omega (arith, c.requires, mark-size c.args.x c.args.c c.args.e)

pub put_next-second-requires : goal.put_next-second-requires
put_next-second-requires c = let a = c.put_byte-first.ensures in omega (arith, c.requires, mark-size c.args.x c.args.c c.args.e, a.next, wrote-length a)

pub put_next-end-requires : goal.put_next-end-requires
put_next-end-requires c = let a = c.put_byte-first.ensures in let b = c.put_next-second.ensures in
    omega (arith, c.requires, mark-size c.args.x c.args.c c.args.e, a.next, wrote-length a, b.next, wrote-length b)

pub put_byte-requires : goal.put_byte-requires
put_byte-requires c = let a = c.put_byte-first.ensures in let b = c.put_next-second.ensures in let d = c.put_next-end.ensures in
    omega (arith, c.requires, mark-size c.args.x c.args.c c.args.e, a.next, wrote-length a, b.next, wrote-length b, d.next, wrote-length d)

pub returns : goal.returns
returns c = let l = c.letter.ensures in
    wrote_as (after (wrote_as c.put_byte-first.ensures (ap (λ b. b ∷ []) l)) (after c.put_next-second.ensures (after c.put_next-end.ensures c.put_byte.ensures))) (sym (mark-pieces c.args.x c.args.c c.args.e))
