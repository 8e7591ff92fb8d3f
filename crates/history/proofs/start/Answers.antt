use mathlib.Core.Path.{refl, sym, ap}
use native.Mathlib.Omega.{arith}
use Rattle.std.proofs.lemmas.List.{take_all, length-take-le}
use Rattle.spec.specs.Building.{initial_of}
use Rattle.conditions.proofs.Lent.{makes-nothing, makes-then, makes-as}
use Rattle.history.proofs.Starting.{initial-none, initial-next, initial-fits}
use Rattle.history.proofs.start.Goals as goal

pub loop-p-init : goal.loop-p-init
loop-p-init c = makes-as (makes-nothing c.requires.3) (sym initial-none) refl

pub make_times-r-requires : goal.make_times-r-requires
make_times-r-requires c = let M = c.loop-p.invariant in
    (omega (arith, length-take-le c.args.m c.args.tokens.now (omega arith)), omega (arith, M.made.next, initial-fits _ c.loop-p.p _ c.loop-p-test.true c.from.ensures), omega (arith, M.long))

pub loop-p-preserved : goal.loop-p-preserved
loop-p-preserved c = makes-as (makes-then c.loop-p.invariant c.make_times-r.ensures) (initial-next _ c.loop-p.p _ c.loop-p-test.true c.from.ensures) refl

pub returns : goal.returns
returns c = makes-as c.loop-p.invariant (ap (initial_of 0) (take_all c.loop-p.p _ c.loop-p-test.false)) refl
