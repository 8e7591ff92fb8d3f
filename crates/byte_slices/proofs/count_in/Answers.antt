-- `byte_slices::count_in` meets its contract: 1 for each byte that is b, summed, counts them (`counted`),
-- and a part has no more of them than bytes.
use Rattle.std.proofs.Common.{◌≡◌, rules, sym, ◌∙◌, eqb, arith}
use Rattle.std.specs.Prelude.{count_by}
use Rattle.std.proofs.iter.runs.Made.{chains}
use Rattle.lists.specs.Laws.{count-length}
use Rattle.byte_slices.specs.Counts.{count_of}
use Rattle.byte_slices.proofs.Counting.{counted}
use Rattle.byte_slices.proofs.count_in.Goals as goal

pub returns : goal.returns
returns c =
    let n : c.sum-n.result ≡ count_by (λ x. eqb x c.args.b) c.args.part.now = search (rules, chains) in
    let counts : c.from.result ≡ count_of c.args.b c.args.part.now = c.from.ensures ∙ n ∙ sym (counted c.args.b c.args.part.now) in
    (counts, omega (arith, counts, c.requires, count-length (λ x. eqb x c.args.b) c.args.part.now))
