-- `writing::put_fields` meets its contract. The loop's invariant: the fields so far are written. There is room for the
-- next one, since the first fields are no longer than all of them (`fields-part`).
use lib.ListN.{take}
use Rattle.spec.specs.Text.{fields_bytes}
use Rattle.writing.specs.Written.{Wrote}
use Rattle.writing.proofs.put_fields.Given as goal

abbrev pub invariant-loop-f : goal.invariant-loop-f
invariant-loop-f l = Wrote l.initial.out l.at (fields_bytes (take l.f-index l.fields)) l.next l.out
