-- `bit_sets::WordMembers::next` meets its contract: a word is less without its lowest number.
use Rattle.std.proofs.Common.{refl, arith}
use Rattle.bit_sets.specs.WordMembers.{lowest-set, without-less}
use Rattle.bit_sets.proofs.WordMembersIterator.next.Goals as goal

pub returns-clause-goes : goal.returns-clause-goes
returns-clause-goes c =
    let r = lowest-set {x = c.args.self.now.left} (omega arith) c.if-bits-eq0.false refl in
    let h = without-less r.0 r.1 in
    record { on = λ f. (tt, tt, h); keeps = tt; rests = λ f. tt }
