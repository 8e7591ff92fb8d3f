-- `line_writer::put_end` meets its contract: by its byte an end is a dash or the number of an event (`end_none`,
-- `end-event`), and that field is written.
use mathlib.Core.Path.{ap, sym}
use mathlib.Core.List.{◌∷◌, []}
use native.Mathlib.Omega.{arith}
use Rattle.spec.specs.Text.{fields_bytes}
use Rattle.writing.proofs.Laws.{after, room_after}
use Rattle.line_writer.proofs.Lines.{wrote_as, room_as, end_none, end-event}
use Rattle.line_writer.proofs.put_end.Goals as goal

pub put_byte-next-requires : goal.put_byte-next-requires
put_byte-next-requires c = omega (arith, room_as c.args.at (end_none c.args.v (omega arith)) c.requires)

pub put_byte-requires : goal.put_byte-requires
put_byte-requires c = omega (arith, room_after (45 ∷ []) c.put_byte-next.ensures (room_as c.args.at (end_none c.args.v (omega arith)) c.requires))

pub returns-then-v-eq-NO_EVENT : goal.returns-then-v-eq-NO_EVENT
returns-then-v-eq-NO_EVENT c = wrote_as (after c.put_byte-next.ensures c.put_byte.ensures) (sym (end_none _ (omega arith)))

pub put_next-requires : goal.put_next-requires
put_next-requires c = room_as c.args.at (ap (λ f. fields_bytes (f ∷ [])) (end-event c.args.v c.if-v-eq-NO_EVENT.false)) c.requires

pub returns : goal.returns
returns c = wrote_as c.put_next.ensures (ap (λ f. fields_bytes (f ∷ [])) (sym (end-event _ c.if-v-eq-NO_EVENT.false)))
