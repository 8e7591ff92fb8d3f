use Rattle.std.proofs.Common.{◌≡◌, arith}
use Rattle.lists.specs.Parts.{parts_none, parts_more, parts_within}
use Rattle.writing.proofs.Laws.{none, after, wrote-length}
use Rattle.byte_table.specs.TableText.{entry_line, entry_lines}
use Rattle.byte_table.proofs.put_entries.Goals as goal

pub loop-b-init : goal.loop-b-init
loop-b-init c = rw (parts_none entry_line) (none _ _)

pub put_entry-next-requires : goal.put_entry-next-requires
unfolding entry_lines
put_entry-next-requires c = let v = c.loop-b.invariant in
    omega (arith, parts_within entry_line c.loop-b.b 256 (omega arith), v.next, wrote-length v)

pub loop-b-preserved : goal.loop-b-preserved
loop-b-preserved c = rw (parts_more entry_line c.loop-b.b) (after c.loop-b.invariant c.put_entry-next.ensures)

pub returns : goal.returns
unfolding entry_lines
returns c = let e : c.loop-b.b ≡ 256 = omega arith in rw e at c.loop-b.invariant
