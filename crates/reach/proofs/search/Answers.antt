use native.Mathlib.Omega.{arith}
use Rattle.reach.proofs.Laws.{searching, follow, follow-less, found, good-at}
use Rattle.reach.proofs.search.Goals as goal

pub loop-t-init : goal.loop-t-init
loop-t-init c = (
  good-at _ _ _ c.requires.1 (omega arith) c.row_at-v.ensures,
  c.weak-x.ensures.0,
  searching _ _ _ _ _ _ c.none.result c.row_at-v.ensures c.none.ensures c.weak-x.ensures.1,
)

pub next_turn-requires : goal.next_turn-requires
next_turn-requires c = (c.loop-t.invariant.0, c.loop-t.invariant.1)

pub row_at-k-requires : goal.row_at-k-requires
row_at-k-requires c = c.in-Some.ensures.0

pub covered-requires : goal.covered-requires
covered-requires c = c.in-Some.ensures.0

pub absorb-v-requires : goal.absorb-v-requires
absorb-v-requires c = (
  c.loop-t.invariant.0,
  good-at _ _ _ c.requires.1 c.in-Some.ensures.0 c.row_at-k.ensures,
)

pub absorb-x-requires : goal.absorb-x-requires
absorb-x-requires c =
    (c.loop-t.invariant.1, c.weak-d.ensures.0)

pub loop-t-smaller : goal.loop-t-smaller
loop-t-smaller c =
    follow-less _ 0 _ _ c.loop-t.v c.loop-t.x c.absorb-v.result c.absorb-x.result c.row_at-k.result
    c.weak-d.result c.covered.result c.in-Some.t c.row_at-k.ensures c.covered.ensures
    c.weak-d.ensures.1 c.in-Some.ensures c.absorb-v.ensures c.absorb-x.ensures

pub loop-t-preserved : goal.loop-t-preserved
loop-t-preserved c = (
  c.absorb-v.ensures.sub,
  c.absorb-x.ensures.sub,
  follow _ _ _ _ c.loop-t.v c.loop-t.x c.absorb-v.result c.absorb-x.result c.row_at-k.result c.weak-d.result c.covered.result c.in-Some.t c.row_at-k.ensures c.covered.ensures c.weak-d.ensures.1 c.in-Some.ensures c.absorb-v.ensures c.absorb-x.ensures c.loop-t.invariant.2,
)

pub returns : goal.returns
returns c = found _ _ _ _ _ c.loop-t.x c.loop-t.invariant.0 c.in_default.ensures c.loop-t.invariant.2
