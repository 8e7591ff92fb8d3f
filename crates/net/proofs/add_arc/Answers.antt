-- `net::add_arc` meets its contract: each refusal is that of the rule of the definitions whose test is taken; the entry
-- that is set is that of the arc's kind, transition and place alone, so that every other arc stays.
use mathlib.Core.Path.{refl}
use native.Mathlib.Omega.{arith}
use Rattle.lines.specs.Agree.{giving, refusing}
use Rattle.net.proofs.Laws.{arc-place, arc-transition, arc-light, arc-heavy, arc-counts, again-at, barred-at, goes_at, draft-at}
use Rattle.net.proofs.add_arc.Goals as goal
use Rattle.net.proofs.add_arc.Goals.{then-s-p-via-then-s-p, then-s-p-via-else-s-p+then-s-t}
use Rattle.net.proofs.add_arc.Goals.{then-w-lt1-via-then-w-lt1, then-w-lt1-via-else-w-lt1+then-w-gt16}

pub returns-then-s-p : goal.returns-then-s-p
returns-then-s-p c x tokens e b m d = refusing 13 _ (elim c.then-s-p.branch [
  | then-s-p-via-then-s-p w ↦ arc-place x _ _ _ _ _ m d _ w.if-s-p.true
  | then-s-p-via-else-s-p+then-s-t w ↦ arc-transition x _ _ _ _ _ m d _ w.if-s-t.true
]) refl

pub returns-then-w-lt1 : goal.returns-then-w-lt1
returns-then-w-lt1 c x tokens e b m d = refusing 54 _ (elim c.then-w-lt1.branch [
  | then-w-lt1-via-then-w-lt1 w ↦ arc-light x _ _ _ _ _ m d c.if-s-p.false c.if-s-t.false _ w.if-w-lt1.true
  | then-w-lt1-via-else-w-lt1+then-w-gt16 w ↦ arc-heavy x _ _ _ _ _ m d c.if-s-p.false c.if-s-t.false _ w.if-w-gt16.true
]) refl

pub returns-then-arcs-i-gt0 : goal.returns-then-arcs-i-gt0
returns-then-arcs-i-gt0 c x tokens e b m d = refusing 14 _ (again-at x _ _ _ _ tokens _ m d c.if-s-p.false c.if-s-t.false c.if-w-lt1.false c.if-w-gt16.false _ e _ c.if-arcs-i-gt0.true) refl

pub overflow_add-other : goal.overflow_add-other
overflow_add-other c = omega (arith, c.barred_by-other.ensures.low)

pub bounds-arcs-other : goal.bounds-arcs-other
bounds-arcs-other c = omega (arith, c.barred_by-other.ensures.low)

pub returns-then-arcs-other-gt0 : goal.returns-then-arcs-other-gt0
returns-then-arcs-other-gt0 c x tokens e b m d =
    refusing 51 _ (barred-at x _ _ _ _ tokens _ m d c.if-s-p.false c.if-s-t.false c.if-w-lt1.false c.if-w-gt16.false _ e c.if-arcs-i-gt0.false _ c.barred_by-other.ensures _ c.if-arcs-other-gt0.true) refl

pub returns : goal.returns
returns c x tokens e b m d =
    giving _ (goes_at x _ _ _ _ tokens _ m d c.if-s-p.false c.if-s-t.false c.if-w-lt1.false c.if-w-gt16.false _ e c.if-arcs-i-gt0.false _ c.barred_by-other.ensures _ c.if-arcs-other-gt0.false) (arc-counts x _ _ _ _ _ m d) (draft-at x _ _ _ _ tokens _ m d c.if-s-p.false c.if-s-t.false c.if-w-lt1.false c.if-w-gt16.false _ e b)
