-- `record_writer::put_record` meets its contract: the text of a record is that of its events, its conditions and its
-- marks, one behind the other, and so long is the room for it.
use native.Mathlib.Omega.{arith}
use Rattle.writing.proofs.Laws.{after, wrote-length}
use Rattle.record_writer.specs.Notes.{run_bytes}
use Rattle.record_writer.proofs.Marks.{run_length}
use Rattle.record_writer.proofs.put_record.Goals as goal

pub put_events-first-requires : goal.put_events-first-requires
put_events-first-requires c =
    (c.requires.0.events, c.requires.0.long, omega (arith, run_length c.args.arcs.now c.args.s c.args.rec.now c.args.steps.now, c.requires.2))

pub put_conditions-second-requires : goal.put_conditions-second-requires
put_conditions-second-requires c =
    let w = c.put_events-first.ensures in
    (c.requires.0.conditions, c.requires.0.long, omega (arith, run_length c.args.arcs.now c.args.s c.args.rec.now c.args.steps.now, c.requires.2, w.next, wrote-length w))

pub put_marks-requires : goal.put_marks-requires
put_marks-requires c =
    let w = c.put_events-first.ensures in
    let b = c.put_conditions-second.ensures in (
      c.requires.0,
      c.requires.1,
      record {
        text = omega (arith, run_length c.args.arcs.now c.args.s c.args.rec.now c.args.steps.now, c.requires.2, w.next, wrote-length w, b.next, wrote-length b);
        marks = omega (arith, c.requires.3);
        sub = c.requires.4;
      },
    )

pub returns : goal.returns
returns c =
    let written = after (after c.put_events-first.ensures c.put_conditions-second.ensures) c.put_marks.ensures.text in
    record { text = unfold run_bytes in written; count = omega (arith, c.put_marks.ensures.next); noted = c.put_marks.ensures.noted }
