-- `record_writer::put_one` meets its contract: the mark's line is written where the text ends, and the mark is noted.
use Rattle.record_writer.proofs.Noting.{puts_one, room-one}
use Rattle.record_writer.proofs.put_one.Goals as goal

pub put_mark-at-requires : goal.put_mark-at-requires
put_mark-at-requires c = room-one _ c.requires.2

pub note_mark-requires : goal.note_mark-requires
note_mark-requires c = (c.requires.1, c.requires.0, c.requires.2.sub)

pub returns : goal.returns
returns c = puts_one _ c.put_mark-at.ensures c.note_mark.ensures
