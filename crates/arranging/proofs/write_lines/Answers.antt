-- `arranging::write_lines` meets its contract: the first n bytes of the array are the levels of the events, so that the
-- lines counted and written from them are those of the arrangement (`lines-written`), and there is room for them
-- (`lines-room`).
use Rattle.arranging.proofs.Levels.{lines-room, lines-written}
use Rattle.arranging.proofs.write_lines.Goals as goal

pub levels-requires : goal.levels-requires
levels-requires c = (c.requires.0, c.requires.1, c.requires.0.few)

pub put_groups-bytes-requires : goal.put_groups-bytes-requires
put_groups-bytes-requires c = (c.line_count-lines.ensures, lines-room c.args.n c.args.w.now c.requires.0.few c.levels.ensures c.requires.2)

pub returns : goal.returns
returns c = lines-written c.args.n c.args.w.now c.requires.0.few c.levels.ensures c.requires.2 c.line_count-lines.ensures c.put_groups-bytes.ensures
