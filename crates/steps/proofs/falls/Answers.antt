-- `steps::falls` meets its contract: the chain asks the test of the definition of each place below `places`.
use Rattle.std.proofs.Common.{rules, tests, arith, refl, ℕ, ◌∙◌, get_or, ltb}
use Rattle.std.proofs.lemmas.Iterator.{YieldsList-from_range}
use Rattle.std.proofs.lemmas.Iterator.Search.{any_from_yields_List}
use Rattle.spec.specs.Lists.{up_to}
use Rattle.net.proofs.Chains.{any_is}
use Rattle.steps.specs.StepArrays.{falls}
use Rattle.steps.proofs.falls.Goals as goal

pub returns : goal.returns
unfolding falls up_to
returns c =
    let q = λ (p : ℕ). ltb (get_or c.args.marking.now p 0) (get_or c.args.taken.now p 0) in
    any_from_yields_List q _ _ _ c.any.ensures.ran (YieldsList-from_range 0 c.args.places c.args.places refl (omega arith)) (λ x b q k. search (rules, tests))
    ∙ any_is q 0 c.args.places
