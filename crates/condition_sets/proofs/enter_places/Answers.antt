use Prim.Native.Nat.{◌+◌, ◌<◌}
use mathlib.Core.Path.{refl}
use native.Mathlib.Omega.{arith}
use lib.ListN.{get_or, length-set}
use Rattle.condition_sets.proofs.Words.{placed-none, placed-more, placed_end}
use Rattle.condition_sets.proofs.enter_places.Goals as goal
use Rattle.condition_sets.proofs.enter_places.Goals.{In-loop-c}

pub loop-c-init : goal.loop-c-init
loop-c-init c = (placed-none _ c.requires.zero, c.requires.sets-long)

-- the place of a condition is one of the net's
low-place : (c : In-loop-c) → get_or c.args.rec.now (128 + c.loop-c.c) 0 < 32
low-place c = c.requires.place c.loop-c.c c.loop-c-test.true

pub overflow_cast-i : goal.overflow_cast-i
overflow_cast-i c = omega (arith, low-place (goal.at.overflow_cast-i c).In-loop-c)

pub overflow_mul-i : goal.overflow_mul-i
overflow_mul-i c = omega (arith, low-place (goal.at.overflow_mul-i c).In-loop-c)

pub overflow_add-i-in-loop-c : goal.overflow_add-i-in-loop-c
overflow_add-i-in-loop-c c = omega (arith, low-place (goal.at.overflow_add-i-in-loop-c c).In-loop-c)

pub offset_bounds-places-i : goal.offset_bounds-places-i
offset_bounds-places-i c = omega (arith, low-place (goal.at.offset_bounds-places-i c).In-loop-c)

pub bounds-places-i : goal.bounds-places-i
bounds-places-i c = omega (arith, low-place (goal.at.bounds-places-i c).In-loop-c)

pub offset_bounds-places-i-in-loop-c : goal.offset_bounds-places-i-in-loop-c
offset_bounds-places-i-in-loop-c c = omega (arith, low-place (goal.at.offset_bounds-places-i-in-loop-c c).In-loop-c)

pub bounds-places-i-in-loop-c : goal.bounds-places-i-in-loop-c
bounds-places-i-in-loop-c c = omega (arith, low-place (goal.at.bounds-places-i-in-loop-c c).In-loop-c)

pub loop-c-preserved : goal.loop-c-preserved
loop-c-preserved c = (
  placed-more c.args.rec.now c.loop-c.places c.loop-c.c _ (omega (arith, c.requires.few)) (low-place (goal.at.loop-c-preserved c).In-loop-c) c.loop-c.invariant.1
      refl c.loop-c.invariant.0,
  simp length-set c.loop-c.invariant.1,
)

pub returns : goal.returns
returns c = placed_end _ (omega arith) c.loop-c.invariant.0
