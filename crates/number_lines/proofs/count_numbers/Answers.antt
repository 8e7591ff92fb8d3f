-- `number_lines::count_numbers` meets its contract: a line has no more fields than bytes and one (`few-slots`).
use Rattle.std.proofs.Common.{length, arith, sym, ◌∙◌, inl, ap}
use lib.ListN.{length-map}
use Rattle.std.proofs.lemmas.Iterator.Consumers.{YieldsList-from_first, count_from_yields_List}
use Rattle.line_forms.specs.Rows.{value_of, slots_of, values_of}
use Rattle.fields.specs.Left.{fields_left}
use Rattle.number_lines.proofs.Lines.{few-slots}
use Rattle.number_lines.proofs.count_numbers.Goals as goal

pub count-requires-clause-fits : goal.count-requires-clause-fits
count-requires-clause-fits c = inl (omega (arith, few-slots 4 c.args.l.now, ap length c.fields_of.ensures))

pub returns : goal.returns
unfolding values_of
returns c =
    let e = count_from_yields_List _ _ c.count.ensures.ran (YieldsList-from_first (λ f. f) fields_left _ c.fields_of.ensures) in
    let n = length-map (slots_of 4 c.args.l.now) value_of in
    (e ∙ sym n, omega (arith, few-slots 4 c.args.l.now))
