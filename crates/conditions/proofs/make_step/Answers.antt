use mathlib.Core.Path.{refl, sym, ap}
use mathlib.Core.List.{map}
use native.Mathlib.Omega.{arith}
use lib.ListN.{take, length-map}
use Rattle.std.proofs.lemmas.List.{take_all}
use Rattle.arc_sets.specs.Sets.{arc_at}
use Rattle.runs.specs.Flows.{flows}
use Rattle.runs.specs.Consume.{made_of}
use Rattle.conditions.proofs.Tokens.{flows-none, walked-fits}
use Rattle.conditions.proofs.Making.{outputs-after}
use Rattle.conditions.proofs.Lent.{makes-nothing, makes-then, makes-as}
use Rattle.conditions.proofs.make_step.Goals as goal

pub loop-i-init : goal.loop-i-init
loop-i-init c = makes-as (makes-nothing c.requires.4) (ap (map made_of) (sym (flows-none _ _ _))) refl

pub overflow_add-from : goal.overflow_add-from
overflow_add-from c = omega (arith, c.requires.1.known c.loop-i.i c.loop-i-test.true, c.from.ensures)

pub make_event-r-requires : goal.make_event-r-requires
make_event-r-requires c =
    let x = c.args.x in
    let M = c.loop-i.invariant in
    let ts = c.args.step.now in (
      omega arith,
      omega (arith, c.requires.1.known c.loop-i.i c.loop-i-test.true, c.from.ensures),
      c.requires.2,
      omega (arith, M.made.next, length-map (flows (arc_at c.args.sets.now 32) 64 x.events (take c.loop-i.i ts)) made_of, walked-fits c.args.sets.now 32 x.events ts c.loop-i.i _ c.loop-i-test.true c.from.ensures),
      omega (arith, M.long),
    )

pub loop-i-preserved : goal.loop-i-preserved
loop-i-preserved c = makes-as (makes-then c.loop-i.invariant c.make_event-r.ensures) (outputs-after c.args.sets.now 32 _ _ c.loop-i.i _ c.loop-i-test.true c.from.ensures) refl

pub returns : goal.returns
returns c = makes-as c.loop-i.invariant (ap (λ ts. map made_of (flows (arc_at c.args.sets.now 32) 64 c.args.x.events ts)) (take_all c.loop-i.i _ c.loop-i-test.false)) refl
