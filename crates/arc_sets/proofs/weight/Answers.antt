-- `arc_sets::weight` meets its contract: the word and the digit that it reads are those of `more_at`, and a digit is below 16.
use mathlib.Core.Path.{refl}
use native.Mathlib.Omega.{arith}
use Rattle.arc_sets.specs.Sets.{digit_at, more_at}
use Rattle.arc_sets.proofs.weight.Goals as goal

pub returns : goal.returns
unfolding digit_at more_at
returns c = (refl, omega arith)
