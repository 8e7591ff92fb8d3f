-- `summary::lines_of` meets its contract: the first n bytes of the array are the levels of the events (`levels-stand`),
-- and the lines are counted from these.
use mathlib.Core.Path.{ap, ◌∙◌}
use Rattle.spec.specs.Arranging.{line_count}
use Rattle.arranging.proofs.Levels.{levels-stand}
use Rattle.summary.proofs.lines_of.Goals as goal

pub levels-requires : goal.levels-requires
levels-requires c = (c.requires.0, c.requires.1, c.requires.0.few)

pub returns : goal.returns
returns c = c.line_count.ensures ∙ ap line_count (levels-stand c.args.n c.args.w.now c.requires.0.few c.levels.ensures)
