use mathlib.Core.Path.{◌≡◌}
use mathlib.Core.Bool.{true, false}
use Rattle.std.proofs.Common.{rules, tests}
use Rattle.std.proofs.lemmas.Iterator.{first_from_Range}
use Rattle.columns.specs.Columns.{column}
use Rattle.conditions.specs.Conditions.{free_at}
use Rattle.conditions.proofs.Taking.{first-free}
use Rattle.conditions.proofs.first_free.Goals as goal

pub returns : goal.returns
returns c =
    let w = free_at c.args.p (column 128 512 c.args.rec.now) (column 1152 512 c.args.rec.now) in
    first-free _ c.requires.0 (first_from_Range _ _ _ _ (λ i. w i ≡ true) (λ i. w i ≡ false) c.find.ensures.ran
    (λ x q m. search (rules, tests))
    (λ x q m. (search (rules, tests), search (rules, tests)))) c.unwrap_or.ensures
