-- `demands::arrangement_replayed` meets its contract: what the call promises of its numbers and its rows is exact, by
-- `replays-exactly`.
use Rattle.demands.proofs.Exactly.{replays-exactly}
use Rattle.demands.proofs.arrangement_replayed.Goals as goal

pub returns : goal.returns
returns c = replays-exactly _ _ _ _ c.pti_replay.ensures
