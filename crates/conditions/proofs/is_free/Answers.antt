use mathlib.Core.Path.{sym, refl}
use Rattle.conditions.proofs.Lent.{free-read}
use Rattle.conditions.proofs.is_free.Goals as goal

pub returns : goal.returns
returns c = sym (free-read c.args.p c.args.rec.now c.args.i _ _ c.requires.0 c.from.ensures refl)
