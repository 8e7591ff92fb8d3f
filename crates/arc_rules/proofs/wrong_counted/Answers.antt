-- `arc_rules::wrong_counted` meets its contract: the lowest event with wrong arcs is found, or none is. A count cut off
-- at 255 differs from an arc, which weighs 16 at most, where the whole count does.
use Rattle.std.proofs.Common.{◌≡◌, true, false, arith, rules, tests}
use Rattle.std.proofs.lemmas.Iterator.{first_from_Range}
use Rattle.lists.specs.Lowest.{lowest-found}
use Rattle.columns.specs.Columns.{column}
use Rattle.arc_rules.specs.Tests.{arcs_wrong}
use Rattle.arc_rules.proofs.Arcs.{arcs-lowest}
use Rattle.arc_rules.proofs.wrong_counted.Goals as goal

pub returns : goal.returns
unfolding arcs_wrong
returns c net N R ep ei eo h =
    let q = arcs_wrong c.args.rec.now c.tally.new.t (column 0 1024 c.args.arcs.now) c.tally-2.new.t (column 1024 1024 c.args.arcs.now) c.args.places in
    arcs-lowest net _ _ N R h _ _ c.tally.ensures.1 c.tally-2.ensures.1 _
    (rw (ep, ei, eo)
    (lowest-found q _ _
    (first_from_Range _ _ _ _ (λ e. q e ≡ true) (λ e. q e ≡ false) c.find.ensures.ran (λ e f k. grind (arith, tests)) (λ e f k. (search rules, grind (arith, tests))))))
