-- `record_writer::put_due` meets its contract: at a condition that the event itself produced it has no mark; at any
-- other its mark is A if the consumer is of an earlier step, and it is written and noted as one.
use mathlib.Core.Path.{◌≡◌, sym, ap, ◌∙◌}
use mathlib.Core.List.{[], ◌∷◌}
use Rattle.record_columns.specs.Enters.{mark_of}
use Rattle.record_writer.specs.Notes.{guard_if}
use Rattle.record_writer.proofs.Noting.{puts_none, puts-as, room_as}
use Rattle.record_writer.proofs.Marks.{guard-own, guard-other}
use Rattle.record_writer.proofs.put_due.Goals as goal
use Rattle.record_writer.proofs.put_due.Goals.{After-kind_if-kind}

pub returns-then-m-c : goal.returns-then-m-c
returns-then-m-c c =
    puts-as (sym (guard-own c.args.m.now.rec.now c.args.m.now.steps.now c.args.m.now.event c.args.c c.if-m-c.true)) (puts_none _ _ _)

-- behind the test the event has one mark at the condition
one-note : (c : After-kind_if-kind)
    → guard_if 1 c.args.m.now.rec.now c.args.m.now.steps.now c.args.m.now.event c.args.c ≡ mark_of c.kind_if-kind.result c.args.c c.args.m.now.event ∷ []
one-note c =
    guard-other c.args.m.now.rec.now c.args.m.now.steps.now c.args.m.now.event c.args.c c.if-m-c.false c.earlier.ensures
    ∙ ap (λ x. mark_of x c.args.c c.args.m.now.event ∷ []) (sym c.kind_if-kind.ensures)

pub put_one-requires : goal.put_one-requires
put_one-requires c =
    (c.args.m.now.readable.event, c.requires.0, room_as (one-note (goal.at.put_one-requires c).After-kind_if-kind) c.requires.2)

pub returns : goal.returns
returns c =
    puts-as (sym (one-note (goal.at.returns c).After-kind_if-kind)) c.put_one.ensures
