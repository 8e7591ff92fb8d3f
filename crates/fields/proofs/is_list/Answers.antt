-- `fields::is_list` meets its contract: the three tests that it joins are those of `list_told`.
use Rattle.std.proofs.Common.{arith}
use Rattle.std.proofs.lemmas.Bool.Decides.{nat_tests}
use Rattle.fields.proofs.Laws.{list_told}
use Rattle.fields.proofs.is_list.Goals as goal

pub returns-then-k-l : goal.returns-then-k-l
returns-then-k-l c =
    let e = list_told c.args.most c.args.letter c.args.l.now c.letter_at-k.result c.letter_at-k.ensures in
    grind (arith, nat_tests)

pub returns-else-k-l : goal.returns-else-k-l
returns-else-k-l c =
    let e = list_told c.args.most c.args.letter c.args.l.now c.letter_at-k.result c.letter_at-k.ensures in
    grind (arith, nat_tests)
