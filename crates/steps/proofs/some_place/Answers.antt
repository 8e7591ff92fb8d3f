use mathlib.Core.Path.{◌∙◌}
use mathlib.Core.Bool.{true≢false, false≢true}
use lib.ListN.{get_or}
use Rattle.arc_sets.specs.Walk.{Lowest, at-lowest, nothing_left}
use Rattle.steps.proofs.Walking.{filled_is, none-next, looks, none-all}
use Rattle.steps.proofs.some_place.Goals as goal
use Rattle.steps.proofs.some_place.Goals.{In-Some}

-- the place that is looked at
lowest : (c : In-Some) → Lowest c.args.set c.loop-p.p-iterator.left c.loop-p.invariant.0 c.in-Some.p
lowest c = let s = c.in-Some.ensures.steps in at-lowest c.loop-p.invariant.1 s.1 s.0

pub bounds-marking-p : goal.bounds-marking-p
bounds-marking-p c = looks c.args.set _ c.requires (lowest (goal.at.bounds-marking-p c).In-Some).set

pub returns-then-marking-p : goal.returns-then-marking-p
returns-then-marking-p c = record {
  none = λ e. absurd (true≢false e);
  found = λ e. (_, (lowest (goal.at.returns-then-marking-p c).In-Some).set, filled_is c.args.filled (get_or c.args.marking.now c.in-Some.p 0) ∙ c.if-marking-p.true);
}

pub loop-p-preserved : goal.loop-p-preserved
loop-p-preserved c = let s = c.in-Some.ensures.steps in
    let E = none-next c.loop-p.invariant.1 c.loop-p.invariant.2 s.1 s.0 (filled_is c.args.filled (get_or c.args.marking.now c.in-Some.p 0) ∙ c.if-marking-p.false) in rw s.2 (_, E.0, E.1)

pub returns : goal.returns
returns c = let v = c.loop-p.invariant in record { none = λ e. none-all (nothing_left v.1 c.in-None.ensures.steps.0) v.2; found = λ e. absurd (false≢true e) }
