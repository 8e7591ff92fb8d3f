-- `energies::energies_of` meets its contract: the three floats are what the callees ensure, at the numbers that the capacitor and
-- the draws stand for.
use Prim.Native.Nat.{ℕ, ◌*◌, ◌≤◌}
use mathlib.Core.Path.{◌≡◌, sym, subst}
use mathlib.Core.List.{List}
use lib.ListN.{get_or}
use Rattle.spec.specs.Lists.{sum_of}
use Rattle.spec.specs.Rounding.{float_of}
use Rattle.spec.specs.Energy.{draw_of}
use Rattle.energies.specs.Promises.{NotNegative}
use Rattle.energies.proofs.Ranges.{draw-held}
use Rattle.energies.proofs.Floats.{usable-number, energies-are}
use Rattle.energies.proofs.Sums.{all_small}
use Rattle.energies.proofs.energies_of.Goals as goal

pub returns : goal.returns
unfolding draw_of
returns c k ns R h d e =
    let u = c.usable-most.ensures k h in
    let n = sum_of (λ t. get_or ns t 0) R.events in
    let s = subst (λ (events : List ℕ). c.total_draw-draw.result ≡ float_of (sum_of (λ t. get_or ns t 0) events)) (sym e) (c.total_draw-draw.ensures ns d) in
    let few = subst (λ (events : List ℕ). sum_of (λ t. get_or ns t 0) events ≤ 128 * 1000000000000) (sym e) (all_small d) in
    energies-are k n u s (c.left.ensures n (draw-held n few) s (subst NotNegative (sym u) (usable-number k h.small h.low h.above)))
