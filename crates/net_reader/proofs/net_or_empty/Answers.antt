-- `net_reader::net_or_empty` meets its contract: the net is the one that was read, or that of no text.
use Rattle.net_reader.proofs.Reading.{declared-net, refused-net}
use Rattle.net_reader.proofs.net_or_empty.Goals as goal

pub returns-in-Ok : goal.returns-in-Ok
returns-in-Ok c = declared-net _ _ c.in-Ok.ensures

pub returns-in-Err : goal.returns-in-Err
returns-in-Err c = refused-net _ _ _ c.in-Err.ensures c.no_net.ensures
