-- `accepting::bench` meets its contract: the three limits are those of the paper's bench, and so they are within them.
use mathlib.Core.Path.{refl}
use native.Mathlib.Omega.{arith}
use Rattle.spec.specs.Record.{bench as bench_d}
use Rattle.accepting.proofs.bench.Goals as goal

pub returns : goal.returns
unfolding bench_d
returns c = (refl, record { events = omega arith; conditions = omega arith; marks = omega arith })
