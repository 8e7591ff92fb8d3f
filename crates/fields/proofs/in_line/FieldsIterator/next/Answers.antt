-- `fields::Fields::next` meets its contract: past the line none is left (`fields-none`), and inside it the field there is the first
-- of those left.
use Rattle.std.proofs.Common.{length, ap, arith}
use Rattle.fields.proofs.Laws.{fields-none}
use Rattle.fields.proofs.in_line.FieldsIterator.next.Goals as goal

pub returns-then-self-clause-steps : goal.returns-then-self-clause-steps
returns-then-self-clause-steps c = let e = fields-none _ _ _ c.if-self.true in (e, e)

pub returns-clause-steps : goal.returns-clause-steps
returns-clause-steps c = c.field_at-f.ensures.fields

pub returns-clause-goes : goal.returns-clause-goes
returns-clause-goes c = let e = ap length c.field_at-f.ensures.fields in
    record { on = λ f. (tt, tt, omega arith); keeps = tt; rests = λ f. tt }
