use Prim.Native.Nat.{ℕ, ◌-◌}
use native.Mathlib.Omega.{arith}
use mathlib.Core.Path.{◌≡◌, ◌∙◌}
use mathlib.Core.List.{List}
use Rattle.spec.specs.Lists.{any, from}
use Rattle.lists.specs.Search.{any-start}
use Rattle.arc_rules.specs.Tests.{arc_wrong, any_arc_wrong}
use Rattle.arc_rules.proofs.Arcs.{any-turn, all-turned, arc-said}
use Rattle.arc_rules.proofs.arcs_wrong.Goals as goal

starts : (counts : List ℕ) (e : ℕ) (arcs : List ℕ) (t end : ℕ) → any (arc_wrong counts e arcs t) (from 0 (end - 0)) ≡ any_arc_wrong counts e arcs t end
unfolding any_arc_wrong
starts counts e arcs t end = any-start (arc_wrong counts e arcs t) end

pub loop-p-init : goal.loop-p-init
loop-p-init c = starts _ _ _ _ _

pub loop-p-preserved : goal.loop-p-preserved
loop-p-preserved c = any-turn _ _ _ c.loop-p.wrong _ c.loop-p-test.true (arc-said _ _ _ _ _ _ c.requires.3 (omega arith)) ∙ c.loop-p.invariant

pub returns : goal.returns
returns c = all-turned _ _ _ c.loop-p.wrong c.loop-p-test.false ∙ c.loop-p.invariant
