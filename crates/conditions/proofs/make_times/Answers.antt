use Prim.Native.Nat.{◌+◌, ◌-◌}
use mathlib.Core.Path.{◌≡◌, refl}
use native.Mathlib.Omega.{arith}
use lib.ListN.{length-set}
use Rattle.conditions.proofs.Lent.{makes-nothing, makes_one, makes-again, makes-as}
use Rattle.conditions.proofs.make_times.Goals as goal

pub loop-i-init : goal.loop-i-init
loop-i-init c = let e : c.args.n - c.args.n ≡ 0 = omega arith in makes-as (makes-nothing c.requires.2) (rw e) refl

pub bounds-rec-i : goal.bounds-rec-i
bounds-rec-i c = omega (arith, c.loop-i.invariant.long)

pub bounds-rec-i-in-loop-i : goal.bounds-rec-i-in-loop-i
bounds-rec-i-in-loop-i c = simp length-set (omega (arith, c.loop-i.invariant.long))

pub bounds-rec-i-in-loop-i-2 : goal.bounds-rec-i-in-loop-i-2
bounds-rec-i-in-loop-i-2 c = simp length-set (omega (arith, c.loop-i.invariant.long))

pub loop-i-preserved : goal.loop-i-preserved
loop-i-preserved c =
    let M = c.loop-i.invariant in
    let e : c.loop-i.i - c.args.n + 1 ≡ c.loop-i.i + 1 - c.args.n = omega arith in
    makes-as (makes-again (c.loop-i.i - c.args.n) M (makes_one _ _ _ _ (omega (arith, M.long)) (omega arith))) (rw e) refl

pub returns : goal.returns
returns c =
    let e : c.loop-i.i - c.args.n ≡ c.args.count = omega arith in
    let d : c.loop-i.i ≡ c.args.n + c.args.count = omega arith in
    makes-as c.loop-i.invariant (rw e) d
