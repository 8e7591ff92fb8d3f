-- `log_steps::build_step` meets its contract. Each refusal is the definitions' by what is counted of the step: 26 by what it makes, 27 by
-- the marks of the places and of what its events read. What is left is the run after the step.
use mathlib.Core.Path.{refl, ◌∙◌}
use native.Mathlib.Omega.{arith}
use Rattle.lines.specs.Agree.{giving}
use Rattle.log_steps.proofs.Reaching.{sets-within, refuses-on, tally-small, held-summable, watched-summable, tally-grows, held-most, watched-most, grown-wide, growable, cursors-grown, counts-kept}
use Rattle.run_counts.proofs.Tallying.{step-events, step-size}
use Rattle.log_steps.proofs.Judging.{answers-26, answers-27, answers-run, run-after}
use Rattle.log_steps.proofs.build_step.Goals as goal

pub sizes_all-requires : goal.sizes_all-requires
sizes_all-requires c = (step-events c.requires.step, omega arith, sets-within c.requires)

pub overflow_add-x : goal.overflow_add-x
overflow_add-x c = omega (arith, c.sizes_all.ensures.1, step-size c.requires.step, c.requires.step.few, c.requires.reached.holds.whole.conditions)

pub returns-then-x-sizes_all-gt-MOST_CONDITIONS : goal.returns-then-x-sizes_all-gt-MOST_CONDITIONS
returns-then-x-sizes_all-gt-MOST_CONDITIONS c = (refuses-on c.requires _ 26 refl refl (λ N ts r A S K E H. answers-26 N ts r A S K E H c.sizes_all.ensures.0 c.if-x-sizes_all-gt-MOST_CONDITIONS.true))

pub add_all-requires : goal.add_all-requires
add_all-requires c = (c.requires.step, held-summable c.requires)

pub add_all-requires-2 : goal.add_all-requires-2
add_all-requires-2 c = (c.requires.step, watched-summable c.requires c.add_all.ensures)

pub own_all-requires : goal.own_all-requires
own_all-requires c = (step-events c.requires.step, sets-within c.requires)

pub overflow_add-own : goal.overflow_add-own
overflow_add-own c = omega (arith, c.own_all.ensures.1, step-size c.requires.step, c.requires.step.few, (tally-small c.requires.reached).own)

pub sizes_all-requires-2 : goal.sizes_all-requires-2
sizes_all-requires-2 c = (step-events c.requires.step, omega arith, sets-within c.requires)

pub overflow_add-reads : goal.overflow_add-reads
overflow_add-reads c = omega (arith, c.sizes_all-2.ensures.1, step-size c.requires.step, c.requires.step.few, (tally-small c.requires.reached).reads)

pub overflow_add-own-2 : goal.overflow_add-own-2
overflow_add-own-2 c = omega (arith, c.own_all.ensures.1, step-size c.requires.step, c.requires.step.few, (tally-small c.requires.reached).own)

pub products-requires : goal.products-requires
products-requires c = (c.requires.reached.arcs.few, held-most c.requires c.add_all.ensures c.add_all-2.ensures, watched-most c.requires c.add_all.ensures c.add_all-2.ensures)

pub overflow_add-products : goal.overflow_add-products
overflow_add-products c = omega (arith, c.products.ensures.1, c.requires.reached.arcs.few, c.sizes_all-2.ensures.1, step-size c.requires.step, c.requires.step.few, (tally-small c.requires.reached).reads)

pub returns-then-own-products : goal.returns-then-own-products
returns-then-own-products c = (refuses-on c.requires _ 27 refl (grown-wide c.requires c.add_all.ensures c.add_all-2.ensures) (λ N ts r A S K E H. answers-27 N ts r A S K E H c.sizes_all.ensures.0 c.if-x-sizes_all-gt-MOST_CONDITIONS.false (tally-grows c.requires c.add_all.ensures c.add_all-2.ensures c.own_all.ensures.0 c.sizes_all-2.ensures.0) c.products.ensures.0 c.if-own-products.true))

pub grow-conditions-requires : goal.grow-conditions-requires
grow-conditions-requires c = (step-events c.requires.step, sets-within c.requires, growable c.requires c.add_all.ensures c.add_all-2.ensures c.sizes_all.ensures.0 c.if-x-sizes_all-gt-MOST_CONDITIONS.false)

pub overflow_add-result : goal.overflow_add-result
overflow_add-result c = omega (arith, c.requires.reached.holds.early, c.requires.events)

pub overflow_add-result-2 : goal.overflow_add-result-2
overflow_add-result-2 c = omega (arith, c.requires.events)

pub returns : goal.returns
returns c = let W = tally-grows c.requires c.add_all.ensures c.add_all-2.ensures c.own_all.ensures.0 c.sizes_all-2.ensures.0 in let G = rw (step-size c.requires.step) at c.grow-conditions.ensures in record {
  answers = λ N ts r A S K E H. giving _ (answers-run N ts r A S K E H c.sizes_all.ensures.0 c.if-x-sizes_all-gt-MOST_CONDITIONS.false W c.products.ensures.0 c.if-own-products.false) refl
      (counts-kept _ _ G.counted (run-after N ts r A S K E H c.sizes_all.ensures.0 c.if-x-sizes_all-gt-MOST_CONDITIONS.false W c.requires.some (rw (cursors-grown c.requires c.add_all.ensures c.add_all-2.ensures) at G.grown)), refl);
  passes = record { places = refl; transitions = refl; line = refl };
  long = G.long;
  wide = G.wide ∙ grown-wide c.requires c.add_all.ensures c.add_all-2.ensures;
}
