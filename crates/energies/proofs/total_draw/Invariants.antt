-- `energies::total_draw` meets its contract. The loop keeps that the sum is exactly what the events so far draw, whatever numbers
-- the draws stand for.
use mathlib.Core.Path.{◌≡◌}
use Prim.Native.Nat.{ℕ}
use mathlib.Core.List.{List}
use Rattle.spec.specs.Rounding.{float_of}
use Rattle.energies.specs.Promises.{Drawn}
use Rattle.energies.proofs.Sums.{first}
use Rattle.energies.proofs.total_draw.Given as goal

abbrev pub invariant-loop-t : goal.invariant-loop-t
invariant-loop-t l = (ns : List ℕ) → Drawn l.draws ns l.events → l.sum ≡ float_of (first ns l.events l.t-index)
