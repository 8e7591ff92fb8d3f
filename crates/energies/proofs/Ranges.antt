-- How large the whole numbers of the request become: all stay below 2 ^ 53, so each is an f64 exactly.
use Prim.Native.Nat.{ℕ, ◌-◌, ◌*◌, ◌^◌, ◌≤◌, ◌<◌, zero-le}
use mathlib.Core.Path.{sym, ap, ◌∙◌, subst}
use mathlib.Core.Bool.{false}
use mathlib.Core.List.{List}
use native.Mathlib.Nat.{le_trans, lt_of_not-le, lt_of_le_of_lt, le_of_lt, le_of_eq, sub-le, mul-le-mul, mul-le-mul_left}
use native.Mathlib.Decide.{dec_le}
use lib.Dec.{lit≤, lit<}
use lib.ListN.{length, get_or, get_or-eq_default}
use lib.Ieee.Exact.{HasValue}
use Rattle.spec.specs.Lists.{sum_of}
use Rattle.spec.specs.Rounding.{float_of}
use Rattle.spec.specs.Energy.{Ratings}
use Rattle.lists.specs.Laws.{sum_of-le, sum_of-one}
use Rattle.lists.specs.Grouped.{sum_of-scaled}
use Rattle.rounding.specs.Whole.{exact}
use Rattle.hold_up.specs.declared.Draw.{Draw}
use Rattle.hold_up.specs.declared.Draw.TheVariants.{Pulse, Load}
use Rattle.hold_up.specs.Floats.{Stands}

-- ---- what events draw: at most 10 ^ 12 µJ each, and 128 of them

pub draw-held : (n : ℕ) → n ≤ 128 * 1000000000000 → n ≤ 2 ^ 53
draw-held n h = le_trans h (lit≤ tt)

pub draw-exact : (n : ℕ) → n ≤ 128 * 1000000000000 → HasValue (float_of n) false n 1
draw-exact n h = exact n (draw-held n h)

pub event-small : (d : Draw) (n : ℕ) → Stands d n → n ≤ 1000000000000
event-small (Pulse x) n s = le_trans s.1 (lit≤ tt)
event-small (Load x y) n s = subst (λ (z : ℕ). z ≤ 1000000000000) (sym s.energy) (mul-le-mul s.low s.short)

pub sum-small : (ns events : List ℕ) → ((t : ℕ) → t < length ns → get_or ns t 0 ≤ 1000000000000) → length events ≤ 128
    → sum_of (λ t. get_or ns t 0) events ≤ 128 * 1000000000000
sum-small ns events h l =
    le_trans (sum_of-le (λ t. get_or ns t 0) (λ t. 1000000000000 * 1) events (λ t _. each t))
    (le_trans (le_of_eq (sum_of-scaled 1000000000000 (λ t. 1) events ∙ ap (λ (z : ℕ). 1000000000000 * z) (sum_of-one events)))
    (mul-le-mul_left 1000000000000 l))
  where
    each : (t : ℕ) → get_or ns t 0 ≤ 1000000000000
    each t = elim (dec_le (length ns) t) [
      | yes l ↦ le_trans (le_of_eq (get_or-eq_default ns 0 l)) zero-le
      | no l ↦ h t (lt_of_not-le l)
    ]

-- ---- the capacitor's product, before it is halved: at most 3.6 * 10 ^ 15

pub product-held : (n : ℕ) → n ≤ 1000000 * (60000 * 60000) → n < 2 ^ 53
product-held n h = lt_of_le_of_lt h (lit< tt)

pub product-exact : (n : ℕ) → n ≤ 1000000 * (60000 * 60000) → HasValue (float_of n) false n 1
product-exact n h = exact n (le_of_lt (product-held n h))

module _ (k : Ratings) (under : k.full ≤ 60000) where
  pub squares-small : k.full * k.full - k.cutoff * k.cutoff ≤ 60000 * 60000
  squares-small = le_trans (sub-le (k.full * k.full) (k.cutoff * k.cutoff)) (mul-le-mul under under)

  pub product_small : k.capacitance ≤ 1000000 → k.capacitance * (k.full * k.full - k.cutoff * k.cutoff) ≤ 1000000 * (60000 * 60000)
  product_small h = mul-le-mul h squares-small
