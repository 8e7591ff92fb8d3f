-- `arc_rules::wrong_arcs` meets its contract: small tables have room for few events and large ones for all that there
-- can be, and both are all zero.
use Prim.Native.Nat.{ℕ, ◌≤◌}
use native.Mathlib.Omega.{arith}
use lib.ListN.{replicate, length-replicate}
use Rattle.lists.specs.Arrays.{blank}
use Rattle.arc_rules.specs.Tests.{Uncounted}
use Rattle.arc_rules.proofs.wrong_arcs.Goals as goal

small : {n : ℕ} → n ≤ 16 → Uncounted n (replicate 512 0)
small h = record { room = omega (arith, length-replicate {A = ℕ} 512 0); zero = blank 512 }

large : {n : ℕ} → n ≤ 128 → Uncounted n (replicate 4096 0)
large h = record { room = omega (arith, length-replicate {A = ℕ} 4096 0); zero = blank 4096 }

pub wrong_counted-requires : goal.wrong_counted-requires
wrong_counted-requires c = (c.requires.0, c.requires.1, small c.if-s-le-FEW.true, small c.if-s-le-FEW.true)

pub returns-then-s-le-FEW : goal.returns-then-s-le-FEW
returns-then-s-le-FEW c = c.wrong_counted.ensures

pub wrong_counted-requires-2 : goal.wrong_counted-requires-2
wrong_counted-requires-2 c = (c.requires.0, c.requires.1, large c.requires.1.events, large c.requires.1.events)

pub returns : goal.returns
returns c = c.wrong_counted-2.ensures
