use mathlib.Core.Path.{◌≡◌}
use mathlib.Core.Bool.{true, false}
use Rattle.std.proofs.Common.{rules, tests}
use Rattle.std.proofs.lemmas.Iterator.{first_from_Range}
use Rattle.held_conditions.specs.Held.{held_at}
use Rattle.held_conditions.proofs.Finding.{first-found}
use Rattle.held_conditions.proofs.Moment.first_held.Goals as goal

pub returns : goal.returns
returns c =
    let q = held_at c.args.self.now.rec.now c.args.self.now.steps.now c.args.p c.args.self.now.event in
    first-found q _ c.requires (first_from_Range _ _ _ _ (λ i. q i ≡ true) (λ i. q i ≡ false) c.find.ensures.ran
    (λ x f m. search (rules, tests))
    (λ x f m. (search (rules, tests), search (rules, tests)))) c.unwrap_or.ensures
