use Rattle.std.proofs.Common.{length, ap, arith}
use lib.Seq.{take_all}
use Rattle.spec.specs.Text.{fields_bytes}
use Rattle.spec.specs.declared.Field.TheVariants.{Number}
use Rattle.writing.proofs.Laws.{none, after, fields-none, fields-more, fields-part, wrote-length}
use Rattle.writing.proofs.put_fields.Goals as goal

pub loop-f-init : goal.loop-f-init
loop-f-init c = rw (fields-none _) (none _ _)

pub put_field-next-requires : goal.put_field-next-requires
put_field-next-requires c =
    let fs = c.args.fields.now in
    let w = c.loop-f.invariant in
    omega (arith, fields-part fs c.loop-f.f-index (length fs) (Number 0) (omega arith) (omega arith), ap (λ l. length (fields_bytes l)) (take_all (length fs) fs (omega arith)), w.next, wrote-length w)

pub loop-f-preserved : goal.loop-f-preserved
loop-f-preserved c = rw (fields-more c.args.fields.now c.loop-f.f-index (Number 0) (omega arith)) (after c.loop-f.invariant c.put_field-next.ensures)

pub returns : goal.returns
returns c = rw (take_all c.loop-f.f-index c.args.fields.now (omega arith)) at c.loop-f.invariant
