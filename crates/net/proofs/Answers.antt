-- The bounds of what the arrays hold.
use native.Mathlib.Omega.{arith}
use Rattle.spec.specs.Net.{Net as NetD}
use Rattle.net.specs.NetArrays.{Arrays, Draft, Few, Fits}
use Rattle.net.specs.declared.Size.{Size}

pub few : {s : Size} {a : Arrays} {m : NetD} → Draft s a m → Few s
few d = record { places = d.holds.counts.few_places; transitions = d.holds.counts.few_transitions }

pub fits : {s : Size} {a : Arrays} {m : NetD} → Draft s a m → Fits s
fits d = record { few = few d; total = omega (arith, d.total, d.holds.counts.most) }
