-- `row_table::put_row` meets its contract: the two words of a set, put down 64 entries apart, are its 128 events;
-- without e itself they are row e's entries.
use Rattle.row_table.proofs.Laws.{row_is}
use Rattle.row_table.proofs.put_row.Goals as goal

pub returns : goal.returns
returns c =
    row_is _ _ _ _ _ c.row_at-r.result c.one-o.result c.less-p.result c.less-s.result c.row_at-r.ensures c.one-o.ensures c.less-p.ensures c.less-s.ensures c.put_word.ensures c.put_word-2.ensures
