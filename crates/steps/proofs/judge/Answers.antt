-- `steps::judge` meets its contract: the first test is that of 24, and the places that inhibit the step's events are
-- those of the definitions, so that the second is that of 25.
use mathlib.Core.Path.{sym, ◌∙◌}
use native.Mathlib.Omega.{arith}
use Rattle.steps.proofs.Rows.{joined-within}
use Rattle.steps.proofs.Held.{inhibited-held, judged-24, judged-25, judged-on}
use Rattle.steps.proofs.judge.Goals as goal

pub short-requires : goal.short-requires
short-requires c = c.requires

pub returns-then-short : goal.returns-then-short
returns-then-short c = λ N ts mk A S K H. sym (judged-24 N _ mk ts (sym (c.short.ensures N ts mk A S K H) ∙ c.if-short.true))

pub joined-requires : goal.joined-requires
joined-requires c = (c.requires.0, omega arith)

pub some_place-requires : goal.some_place-requires
some_place-requires c = joined-within c.args.sets.now 64 (omega arith) c.requires.0 c.requires.2 c.joined.ensures

pub returns-then-some_place : goal.returns-then-some_place
returns-then-some_place c = λ N ts mk A S K H.
    sym (judged-25 N _ mk ts (sym (c.short.ensures N ts mk A S K H) ∙ c.if-short.false) (sym (inhibited-held A S K H c.joined.ensures c.some_place.ensures) ∙ c.if-some_place.true))

pub returns : goal.returns
returns c = λ N ts mk A S K H.
    sym (judged-on N _ mk ts (sym (c.short.ensures N ts mk A S K H) ∙ c.if-short.false) (sym (inhibited-held A S K H c.joined.ensures c.some_place.ensures) ∙ c.if-some_place.false))
