use Prim.Native.Nat.{◌+◌}
use mathlib.Core.Path.{◌≡◌, refl, sym}
use lib.ListN.{get_or}
use native.Mathlib.Omega.{arith}
use Rattle.lists.specs.Grouped.{sum_of-none}
use Rattle.run_counts.proofs.Tallying.{product-fits, product-next, held-read, watched-read}
use Rattle.run_counts.proofs.products.Goals as goal

pub loop-p-init : goal.loop-p-init
loop-p-init c = (omega arith, sym (sum_of-none _))

pub overflow_mul-r : goal.overflow_mul-r
overflow_mul-r c = let n = c.args.counts.now in
    let F = product-fits {a = get_or n c.loop-p.p 0} {b = get_or n (32 + c.loop-p.p) 0} 2560 2560 refl refl (omega (arith, c.requires.1 c.loop-p.p (omega arith), held-read n c.loop-p.p (omega arith))) (omega (arith, c.requires.2 c.loop-p.p (omega arith), watched-read n c.loop-p.p (omega arith))) in omega (arith, F)

pub overflow_add-r : goal.overflow_add-r
overflow_add-r c = let n = c.args.counts.now in
    let F = product-fits {a = get_or n c.loop-p.p 0} {b = get_or n (32 + c.loop-p.p) 0} 2560 2560 refl refl (omega (arith, c.requires.1 c.loop-p.p (omega arith), held-read n c.loop-p.p (omega arith))) (omega (arith, c.requires.2 c.loop-p.p (omega arith), watched-read n c.loop-p.p (omega arith))) in omega (arith, F)

pub loop-p-preserved : goal.loop-p-preserved
loop-p-preserved c = let n = c.args.counts.now in
    let F = product-fits {a = get_or n c.loop-p.p 0} {b = get_or n (32 + c.loop-p.p) 0} 2560 2560 refl refl (omega (arith, c.requires.1 c.loop-p.p (omega arith), held-read n c.loop-p.p (omega arith))) (omega (arith, c.requires.2 c.loop-p.p (omega arith), watched-read n c.loop-p.p (omega arith))) in
    (omega (arith, F), product-next n c.loop-p.p _ (omega arith) c.loop-p.invariant.1 refl refl)

pub returns : goal.returns
returns c = let e : c.loop-p.p ≡ c.args.m = omega arith in (rw (← e) c.loop-p.invariant.1, omega arith)
