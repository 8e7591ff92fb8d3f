-- `row_facts::first_loop` meets its contract: the lowest number that passes the test is found, or none is.
use Rattle.std.proofs.Common.{◌≡◌, true, false, arith, rules, tests}
use Rattle.std.proofs.lemmas.Iterator.{first_from_Range}
use Rattle.lists.specs.Lowest.{lowest-found}
use Rattle.row_facts.specs.Pairs.{on_cycle}
use Rattle.reach.specs.Rows.{cell_of}
use Rattle.row_facts.proofs.first_loop.Goals as goal

pub returns : goal.returns
returns c =
    let q = on_cycle (cell_of c.args.w.now) in
    lowest-found q _ _
    (first_from_Range _ _ _ _ (λ e. q e ≡ true) (λ e. q e ≡ false) c.find.ensures.ran (λ e f k. grind (arith, tests)) (λ e f k. (search rules, grind (arith, tests))))
