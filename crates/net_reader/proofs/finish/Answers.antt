use mathlib.Core.Path.{sym, ◌∙◌}
use native.Mathlib.Omega.{arith}
use Rattle.lists.specs.Search.{lowest_start, first-hit, first_on, first-end}
use Rattle.net_reader.proofs.Reading.{lacking-found, lacking-none}
use Rattle.net_reader.proofs.finish.Goals as goal

pub loop-t-init : goal.loop-t-init
loop-t-init c = lowest_start _ _

pub lacks-requires : goal.lacks-requires
lacks-requires c = (omega (arith, c.requires.transitions), c.requires.places)

pub returns-then-lacks : goal.returns-then-lacks
returns-then-lacks c = lacking-found c.args.size _ _ (sym c.loop-t.invariant ∙ first-hit _ _ _ c.loop-t-test.true (sym c.lacks.ensures ∙ c.if-lacks.true))

pub loop-t-preserved : goal.loop-t-preserved
loop-t-preserved c = first_on _ _ _ c.loop-t-test.true (sym c.lacks.ensures ∙ c.if-lacks.false) ∙ c.loop-t.invariant

pub returns : goal.returns
returns c = lacking-none c.args.size _ (sym c.loop-t.invariant ∙ first-end _ _ _ c.loop-t-test.false)
