-- `fields::all_numbers` meets its contract: `all` asks each of the fields that are left.
use Rattle.std.proofs.Common.{rules, tests, refl}
use Rattle.std.proofs.lemmas.Iterator.Consumers.{YieldsList-from_first}
use Rattle.std.proofs.lemmas.Iterator.Search.{all_from_yields_List}
use Rattle.line_forms.specs.Rows.{a_number}
use Rattle.fields.specs.Left.{fields_left}
use Rattle.fields.proofs.all_numbers.Goals as goal

pub returns : goal.returns
returns c = all_from_yields_List a_number c.all.new.self _ _ c.all.ensures.ran (YieldsList-from_first (λ f. f) fields_left _ refl) (λ x b q k. search (rules, tests))
