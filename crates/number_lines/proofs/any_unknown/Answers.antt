-- `number_lines::any_unknown` meets its contract: `any` asks each number of the line, in its order.
use Rattle.std.proofs.Common.{rules, tests, leb, ◌∙◌}
use Rattle.std.proofs.lemmas.Iterator.Consumers.{YieldsList-from_first}
use Rattle.std.proofs.lemmas.Iterator.Search.{any_from_yields_List}
use Rattle.line_forms.specs.Rows.{value_of, values_of}
use Rattle.fields.specs.Left.{fields_left}
use Rattle.number_lines.proofs.Lines.{any-values}
use Rattle.number_lines.proofs.any_unknown.Goals as goal

pub returns : goal.returns
unfolding values_of
returns c =
    any_from_yields_List (λ f. leb c.args.known (value_of f)) c.any.new.self _ _ c.any.ensures.ran (YieldsList-from_first (λ f. f) fields_left _ c.fields_of.ensures) (λ x b q k. search (rules, tests))
    ∙ any-values (leb c.args.known) _
