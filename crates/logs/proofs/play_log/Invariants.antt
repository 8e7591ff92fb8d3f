-- `logs::play_log` meets its contract. The lines so far are played, and from the run that is held the lines left answer
-- what the whole log answers. Each line is judged by the table that was made and by how far the log is made of ended lines.
use Prim.Native.Nat.{◌+◌, ◌-◌, ◌≤◌}
use lib.ListN.{length}
use Rattle.logs.proofs.Running.{Going}
use Rattle.logs.proofs.play_log.Given as goal

abbrev pub invariant-loop-at : goal.invariant-loop-at
invariant-loop-at l =
    (l.at ≤ length l.log + 1) × Going l.log l.sets l.initial.run l.initial.rec l.initial.steps l.initial.counts l.initial.marking l.step l.run l.at l.rec l.steps l.counts l.marking

abbrev pub decreases-loop-at : goal.decreases-loop-at
decreases-loop-at l =
    length l.log + 1 - l.at
