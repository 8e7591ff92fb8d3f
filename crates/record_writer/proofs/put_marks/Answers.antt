use Prim.Native.Nat.{ℕ, ◌<◌}
use native.Mathlib.Omega.{arith}
use lib.ListN.{get_or, length-replicate}
use Rattle.lists.specs.Arrays.{blank}
use mathlib.Core.List.{List}
use Rattle.arc_sets.specs.Sets.{Within}
use Rattle.condition_sets.specs.Sets.{InPlaces}
use Rattle.condition_sets.proofs.Words.{ready-none, low-place}
use Rattle.held_conditions.proofs.Reading.{passed_none, passed_later}
use Rattle.record_writer.proofs.Marks.{watched-low, row-notes, marks-none, marks-room, marks-next, marks-end}
use Rattle.record_writer.proofs.put_marks.Goals as goal
use Rattle.record_writer.proofs.put_marks.Goals.{In-loop-e}

pub enter_places-requires : goal.enter_places-requires
enter_places-requires c =
    let h = c.requires.0 in
    record { few = h.conditions; long = h.long; place = h.place; sets-long = length-replicate {A = ℕ} 256 0; zero = blank 256 }

pub loop-e-init : goal.loop-e-init
loop-e-init c = (
  ready-none (length-replicate {A = ℕ} 32 0) (length-replicate {A = ℕ} 256 0) (blank 256) (blank 32),
  λ h. passed_none _ _ _ _ (length-replicate {A = ℕ} 32 0) (blank 32),
  marks-none c.args.arcs.now c.args.rec.now c.args.steps.now c.args.s.conditions _ _ _,
)

-- the transition of an event is one of the net's
low-row : (c : In-loop-e) → get_or c.args.rec.now c.loop-e.e 0 < 32
low-row c = c.requires.0.low c.loop-e.e c.loop-e-test.true

pub bounds-rec-e : goal.bounds-rec-e
bounds-rec-e c = omega (arith, c.requires.0.events, c.requires.0.long, c.loop-e-test.true)

pub overflow_cast-t : goal.overflow_cast-t
overflow_cast-t c = omega (arith, low-row (goal.at.overflow_cast-t c).In-loop-e)

-- the set of a row has no place that is none
in-places : (sets : List ℕ) → Within 32 sets → (i : ℕ) → i < 128 → InPlaces (get_or sets i 0)
in-places sets W i h p = W i p h

pub ready-requires : goal.ready-requires
ready-requires c =
    (low-row (goal.at.ready-requires c).In-loop-e, in-places c.args.arcs.now c.requires.1 _ (omega (arith, low-row (goal.at.ready-requires c).In-loop-e)), c.loop-e.invariant.0)

pub overflow_add-t : goal.overflow_add-t
overflow_add-t c = omega (arith, low-row (goal.at.overflow_add-t c).In-loop-e)

pub offset_bounds-arcs-t : goal.offset_bounds-arcs-t
offset_bounds-arcs-t c = omega (arith, low-row (goal.at.offset_bounds-arcs-t c).In-loop-e)

pub bounds-arcs-t : goal.bounds-arcs-t
bounds-arcs-t c = omega (arith, low-row (goal.at.bounds-arcs-t c).In-loop-e)

pub reads_of-reads-requires : goal.reads_of-reads-requires
reads_of-reads-requires c = (
  in-places c.args.arcs.now c.requires.1 _ (omega (arith, low-row (goal.at.reads_of-reads-requires c).In-loop-e)),
  c.loop-e.invariant.1 c.loop-e-test.true,
)

pub put_row-next-requires : goal.put_row-next-requires
put_row-next-requires c = (
  low-row (goal.at.put_row-next-requires c).In-loop-e,
  λ d h b. c.requires.0.coded.consumer d (watched-low c.args.arcs.now c.loop-e.e c.enter_places.ensures c.requires.0.conditions c.requires.0.place c.ready.ensures.1 c.reads_of-reads.ensures.0 (λ p. low-place _ p (in-places c.args.arcs.now c.requires.1 _ (omega (arith, low-row (goal.at.put_row-next-requires c).In-loop-e)))) d h b),
  marks-room c.args.arcs.now c.args.rec.now c.args.steps.now c.args.s.conditions c.loop-e.e c.loop-e-test.true (row-notes c.args.arcs.now c.loop-e.e c.enter_places.ensures c.requires.0.conditions c.requires.0.place c.ready.ensures.1 c.reads_of-reads.ensures.0 (λ p. low-place _ p (in-places c.args.arcs.now c.requires.1 _ (omega (arith, low-row (goal.at.put_row-next-requires c).In-loop-e))))) c.loop-e.invariant.2 c.requires.2,
)

pub loop-e-preserved : goal.loop-e-preserved
loop-e-preserved c = (
  c.ready.ensures.0,
  λ h. passed_later (c.requires.0.ascend c.loop-e.e _ (omega arith) h) c.reads_of-reads.ensures.1,
  marks-next c.args.arcs.now c.args.rec.now c.args.steps.now c.args.s.conditions c.loop-e.e (row-notes c.args.arcs.now c.loop-e.e c.enter_places.ensures c.requires.0.conditions c.requires.0.place c.ready.ensures.1 c.reads_of-reads.ensures.0 (λ p. low-place _ p (in-places c.args.arcs.now c.requires.1 _ (omega (arith, low-row (goal.at.loop-e-preserved c).In-loop-e))))) c.loop-e.invariant.2 c.put_row-next.ensures,
)

pub returns : goal.returns
returns c =
    marks-end c.args.arcs.now c.args.rec.now c.args.steps.now c.args.s.conditions (omega (arith, c.loop-e-test.false)) c.loop-e.invariant.2
