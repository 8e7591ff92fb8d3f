use Rattle.std.proofs.Common.{◌≡◌, ◌+◌, ◌-◌, arith, cond, Some}
use Rattle.arrangement_reader.specs.Lined.{EventsIn}
use Rattle.arrangement_reader.proofs.Lateness.{Behind, behind-all, behind_more, behind-none, lines-most, line-ends, part-events}
use Rattle.arrangement_reader.proofs.first_broken.Goals as goal
use Rattle.arrangement_reader.proofs.first_broken.Goals.{After-from-to, After-union-late}

pub loop-k-init : goal.loop-k-init
loop-k-init c = behind-all c.requires.0 c.behind_lacking-late.ensures

pub bounds-lined-k-in-loop-k : goal.bounds-lined-k-in-loop-k
bounds-lined-k-in-loop-k c = omega (arith, lines-most c.requires.2.taken c.requires.0)

-- where the line starts and ends
ends : (c : After-from-to) → EventsIn c.args.lined.now c.from-from.result c.from-to.result
ends c = line-ends c.requires.2.taken c.requires.0 (omega arith) c.from-from.ensures c.from-to.ensures

pub slice_bounds-group_of-count : goal.slice_bounds-group_of-count
slice_bounds-group_of-count c = (ends (goal.at.slice_bounds-group_of-count c).After-from-to).order

pub slice_bounds-group_of-start : goal.slice_bounds-group_of-start
slice_bounds-group_of-start c = let e = ends (goal.at.slice_bounds-group_of-start c).After-from-to in omega (arith, e.order, e.most, e.long)

pub group_of-g-requires : goal.group_of-g-requires
group_of-g-requires c = part-events (ends (goal.at.group_of-g-requires c).After-from-to)

-- with this line
with_line : (c : After-union-late) → Behind c.args.n c.args.lines c.args.w.now c.args.stands.now c.args.lined.now (c.loop-k.k - 1) (cond c.meets-breaks.result (Some (c.loop-k.k - 1 + 1)) c.loop-k.broken) c.union-late.result
with_line c =
    let z : c.loop-k.k - 1 + 1 ≡ c.loop-k.k = omega arith in
    behind_more (c.loop-k.k - 1) c.requires.0 c.requires.1 (omega arith) c.from-from.ensures c.from-to.ensures c.group_of-g.ensures c.union.ensures c.meets-breaks.ensures c.union-late.ensures (rw z c.loop-k.invariant)

pub loop-k-preserved-then-breaks : goal.loop-k-preserved-then-breaks
loop-k-preserved-then-breaks c = rw c.if-breaks.true at (with_line (goal.at.loop-k-preserved-then-breaks c).After-union-late)

pub loop-k-preserved : goal.loop-k-preserved
loop-k-preserved c = rw c.if-breaks.false at (with_line (goal.at.loop-k-preserved c).After-union-late)

pub returns : goal.returns
returns c = let z : c.loop-k.k ≡ 0 = omega arith in behind-none (rw z at c.loop-k.invariant)
