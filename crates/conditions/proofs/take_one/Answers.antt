-- The cursor says where to look, and what is found is taken.
use mathlib.Core.Path.{sym}
use native.Mathlib.Omega.{arith}
use Rattle.columns.specs.Columns.{column-at}
use Rattle.conditions.proofs.Lent.{takes_none, takes_one}
use Rattle.conditions.proofs.take_one.Goals as goal

pub first_free-i-requires : goal.first_free-i-requires
first_free-i-requires c = let R = c.requires.2 in
    (omega (arith, column-at 64 32 c.args.counts.now c.args.p c.requires.1, R.ready.cursors.within c.args.p), R.ready.few, R.long)

pub returns-then-n-i : goal.returns-then-n-i
returns-then-n-i c = takes_none _ _ _ _ _ _ _ c.requires.2 (sym (column-at 64 32 c.args.counts.now c.args.p c.requires.1)) c.first_free-i.ensures c.if-n-i.true

pub returns : goal.returns
returns c = takes_one _ _ _ _ _ _ _ c.requires.2 (sym (column-at 64 32 c.args.counts.now c.args.p c.requires.1)) c.first_free-i.ensures c.requires.0 c.requires.1 c.if-n-i.false
