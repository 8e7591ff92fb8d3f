-- `marking_rows::play` meets its contract. The loop's invariant: the events passed have been played.
use Rattle.std.proofs.Common.{◌+◌}
use Rattle.marking_rows.specs.Rows.{Plays}
use Rattle.marking_rows.proofs.play.Given as goal

abbrev pub invariant-loop-e : goal.invariant-loop-e
invariant-loop-e l = Plays l.places l.arcs l.trans l.lined l.from (l.from + l.e-index) l.initial.sums l.sums
