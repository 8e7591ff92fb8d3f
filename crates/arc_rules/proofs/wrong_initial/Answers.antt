-- `arc_rules::wrong_initial` meets its contract: the lowest place that is wrong is found, or none is.
use Rattle.std.proofs.Common.{◌≡◌, true, false, arith, rules, tests}
use Rattle.std.proofs.lemmas.Iterator.{first_from_Range}
use Rattle.lists.specs.Lowest.{lowest-found}
use Rattle.arc_rules.specs.Tests.{initial_wrong}
use Rattle.arc_rules.proofs.Arcs.{initial-lowest}
use Rattle.arc_rules.proofs.wrong_initial.Goals as goal

pub returns : goal.returns
unfolding initial_wrong
returns c net N R ep et h =
    let q = initial_wrong c.args.tokens.now c.initial-found.result in
    initial-lowest net _ _ N R h _ _ c.initial-found.ensures
    (rw (ep, et)
    (lowest-found q _ _
    (first_from_Range _ _ _ _ (λ p. q p ≡ true) (λ p. q p ≡ false) c.find.ensures.ran (λ p f k. grind (arith, tests)) (λ p f k. (search rules, grind (arith, tests))))))
