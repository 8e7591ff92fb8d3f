-- `steps::short` meets its contract: some place falls short of what is needed there just if it falls short of what is
-- taken, or is read and empty.
use mathlib.Core.Path.{sym, ◌∙◌}
use native.Mathlib.Omega.{arith}
use Rattle.steps.proofs.Rows.{blank-summable, joined-within}
use Rattle.steps.proofs.Held.{short-taken, short-read}
use Rattle.steps.proofs.short.Goals as goal

pub add_all-requires : goal.add_all-requires
add_all-requires c = (c.requires.0, blank-summable 0 (omega arith) c.requires.2)

pub falls-requires : goal.falls-requires
falls-requires c = c.requires.1

pub returns-then-falls : goal.returns-then-falls
returns-then-falls c = λ N ts mk A S K H. sym (short-taken A S K H c.add_all.ensures (sym c.falls.ensures ∙ c.if-falls.true))

pub joined-requires : goal.joined-requires
joined-requires c = (c.requires.0, omega arith)

pub some_place-requires : goal.some_place-requires
some_place-requires c = joined-within c.args.sets.now 96 (omega arith) c.requires.0 c.requires.2 c.joined.ensures

pub returns : goal.returns
returns c = λ N ts mk A S K H.
    short-read A S K H c.add_all.ensures (sym c.falls.ensures ∙ c.if-falls.false) c.joined.ensures c.some_place.ensures
