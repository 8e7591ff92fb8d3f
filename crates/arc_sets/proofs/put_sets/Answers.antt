use Prim.Native.Nat.{◌+◌, ◌*◌}
use native.Mathlib.Omega.{arith}
use Rattle.arc_sets.proofs.Making.{RowsTo, rows_none, rows-room, rows_next, sets_of}
use Rattle.arc_sets.proofs.put_sets.Goals as goal
use Rattle.arc_sets.proofs.put_sets.Goals.{After-put_row, After-put_row-in-loop-t, After-put_row-in-loop-t-2}

pub loop-t-init : goal.loop-t-init
loop-t-init c = rw c.requires.2 rows_none

pub put_row-requires : goal.put_row-requires
put_row-requires c = rows-room c.requires.0 (omega arith) (omega arith) c.loop-t.invariant

-- what stands there once the row of the first kind is put, and then those of the next two
inputs-put : (c : After-put_row) → RowsTo c.args.arcs.now c.args.m (4 * c.loop-t.t + 1) c.put_row.new.sets
inputs-put c = rows_next c.requires.0 (omega arith) (omega arith) (omega arith) c.loop-t.invariant c.put_row.ensures

pub put_row-requires-in-loop-t : goal.put_row-requires-in-loop-t
put_row-requires-in-loop-t c = rows-room c.requires.0 (omega arith) (omega arith) (inputs-put (goal.at.put_row-requires-in-loop-t c).After-put_row)

outputs-put : (c : After-put_row-in-loop-t) → RowsTo c.args.arcs.now c.args.m (4 * c.loop-t.t + 2) c.put_row-in-loop-t.new.sets
outputs-put c = rows_next c.requires.0 (omega arith) (omega arith) (omega arith) (inputs-put c.before.before) c.put_row-in-loop-t.ensures

pub put_row-requires-in-loop-t-2 : goal.put_row-requires-in-loop-t-2
put_row-requires-in-loop-t-2 c = rows-room c.requires.0 (omega arith) (omega arith) (outputs-put (goal.at.put_row-requires-in-loop-t-2 c).After-put_row-in-loop-t)

inhibitors-put : (c : After-put_row-in-loop-t-2) → RowsTo c.args.arcs.now c.args.m (4 * c.loop-t.t + 3) c.put_row-in-loop-t-2.new.sets
inhibitors-put c = rows_next c.requires.0 (omega arith) (omega arith) (omega arith) (outputs-put c.before.before) c.put_row-in-loop-t-2.ensures

pub put_row-requires-in-loop-t-3 : goal.put_row-requires-in-loop-t-3
put_row-requires-in-loop-t-3 c = rows-room c.requires.0 (omega arith) (omega arith) (inhibitors-put (goal.at.put_row-requires-in-loop-t-3 c).After-put_row-in-loop-t-2)

pub loop-t-preserved : goal.loop-t-preserved
loop-t-preserved c = rows_next c.requires.0 (omega arith) (omega arith) (omega arith) (inhibitors-put (goal.at.loop-t-preserved c).After-put_row-in-loop-t-2) c.put_row-in-loop-t-3.ensures

pub returns : goal.returns
returns c = sets_of (omega arith) c.loop-t.invariant
