-- `byte_table::main` meets its contract: the buffer has room for the text (`text-fits`), and what is written of it is the
-- text, which stands at its start.
use mathlib.Core.Path.{sym, ap, ◌∙◌}
use native.Mathlib.Omega.{arith}
use lib.ListN.{length, length-take}
use Rattle.byte_table.proofs.Writes.{text-fits}
use Rattle.byte_table.proofs.main.Goals as goal

pub put_text-n-requires : goal.put_text-n-requires
put_text-n-requires c = text-fits

pub slice_bounds-out-end : goal.slice_bounds-out-end
slice_bounds-out-end c = let t = c.put_text-n in omega (arith, length-take t.result t.new.out, ap length t.ensures.1, t.ensures.0)

pub slice_bounds-write_all-end : goal.slice_bounds-write_all-end
slice_bounds-write_all-end c = let t = c.put_text-n.ensures in t.0 ∙ sym (ap length t.1)
