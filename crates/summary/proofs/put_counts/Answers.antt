-- `summary::put_counts` meets its contract: the rows have the order of the record that is noted (`noted-order`), so
-- that the pairs and the lines counted there are those of its summary, which has room (`noted-room`) and is written
-- (`noted-wrote`).
use Rattle.representation.proofs.Codes.{sound}
use Rattle.accepting.proofs.Fresh.{fresh}
use Rattle.summary.proofs.Summary.{noted-order, noted-room, noted-wrote}
use Rattle.summary.proofs.put_counts.Goals as goal

pub order-low-requires : goal.order-low-requires
order-low-requires c = let K = c.requires.1 in (sound _ _ _ _ _ K.held, record { room = K.room; sub = K.marks.sub }, fresh)

pub independent_pairs-requires : goal.independent_pairs-requires
independent_pairs-requires c = let K = c.requires.1 in noted-order K (c.order-low.ensures.1 _ _ _ K.held K.marks)

pub lines_of-requires : goal.lines_of-requires
lines_of-requires c = let K = c.requires.1 in noted-order K (c.order-low.ensures.1 _ _ _ K.held K.marks)

pub put_line-requires : goal.put_line-requires
put_line-requires c = let K = c.requires.1 in
    noted-room K (c.order-low.ensures.1 _ _ _ K.held K.marks) c.args.n c.independent_pairs.ensures c.lines_of.ensures c.requires.0

pub returns : goal.returns
returns c K = noted-wrote K (c.order-low.ensures.1 _ _ _ K.held K.marks) c.args.n c.independent_pairs.ensures c.lines_of.ensures c.put_line.ensures
