-- What the code's floats are, from the whole numbers that they are made of: every product, sum and half is exact, and one division
-- and one difference round.
use Prim.Native.Nat.{ℕ, ◌-◌, ◌*◌, ◌^◌, ◌≤◌}
use mathlib.Core.Path.{◌≡◌, refl, sym, ap, ap₂, ◌∙◌, subst}
use mathlib.Core.Bool.{false}
use native.Mathlib.Nat.{le_trans, le_of_lt, lt_of_le_of_lt, mul-le-mul, mul-one}
use lib.Dec.{lit≤, lit<}
use lib.Ieee.{Float, binary64, nan, inf, fin, low, mul, sub, div, round, of_bits}
use lib.Ieee.Exact.{HasValue}
use lib.Ieee.Positive.{num, den, den_pos}
use lib.Ieee.Scale.{grid}
use Rattle.spec.specs.Rounding.{nearest, float_of}
use Rattle.spec.specs.Energy.{Ratings, usable_of, left_of, energies_of}
use Rattle.rounding.proofs.Correct.{round-value}
use Rattle.rounding.specs.Operations.{round_difference}
use Rattle.rounding.proofs.Operations.{sub_is, difference-is}
use Rattle.rounding.specs.Whole.{exact}
use Rattle.rounding.proofs.Whole.{mul-whole, sub-whole, halved, half-divided}
use Rattle.hold_up.specs.declared.Capacitor.{Capacitor}
use Rattle.hold_up.specs.declared.Draw.{Draw}
use Rattle.hold_up.specs.declared.Draw.TheVariants.{Pulse, Load}
use Rattle.hold_up.specs.Floats.{LoadOf, Stands, Holds}
use Rattle.energies.specs.Promises.{NotNegative}
use Rattle.energies.proofs.Ranges.{product-held, squares-small, product_small}

-- ---- one event

pub pulse-is : {d : Draw} {x : Float} → d ≡ Pulse x → (n : ℕ) → Stands d n → x ≡ float_of n
pulse-is e n s = (subst (λ (d : Draw). Stands d n) e s).0

pub load_is : {d : Draw} {x y : Float} → d ≡ Load x y → (n : ℕ) → Stands d n → mul binary64 x y ≡ float_of n
load_is {x = x} {y = y} e n s =
    let l : LoadOf x y n = subst (λ (d : Draw). Stands d n) e s in
    ap₂ (mul binary64) l.mW l.ms
    ∙ mul-whole l.power l.time (le_trans l.low (lit≤ tt)) (le_trans l.short (lit≤ tt))
    ∙ ap float_of (sym l.energy)

-- ---- the usable energy

two : of_bits binary64 0x4000_0000_0000_0000 ≡ float_of 2
unfolding of_bits float_of round
two = refl

million : of_bits binary64 0x412e_8480_0000_0000 ≡ float_of 1000000
unfolding of_bits float_of round
million = refl

-- the code's division, of whatever product and constants
abbrev millionths : Float → Float → Float → Float
millionths x u v = div binary64 (div binary64 x u) v

module _ (k : Ratings) (small : k.capacitance ≤ 1000000) (under : k.full ≤ 60000) (above : k.cutoff ≤ k.full) where
  abbrev ff : ℕ
  ff = k.full * k.full

  abbrev cc : ℕ
  cc = k.cutoff * k.cutoff

  product : mul binary64 (float_of k.capacitance) (sub binary64 (mul binary64 (float_of k.full) (float_of k.full)) (mul binary64 (float_of k.cutoff) (float_of k.cutoff)))
      ≡ float_of (k.capacitance * (ff - cc))
  product =
      let f : k.full ≤ 2 ^ 53 = le_trans under (lit≤ tt) in
      let c : k.cutoff ≤ 2 ^ 53 = le_trans above f in
      let h : ff ≤ 2 ^ 53 = le_trans (mul-le-mul under under) (lit≤ tt) in
      let g : cc ≤ ff = mul-le-mul above above in
      ap (mul binary64 (float_of k.capacitance))
      (ap₂ (sub binary64) (mul-whole k.full k.full f f) (mul-whole k.cutoff k.cutoff c c) ∙ sub-whole ff cc h (le_trans g h) g)
      ∙ mul-whole k.capacitance (ff - cc) (le_trans small (lit≤ tt)) (le_trans (squares-small k under) (lit≤ tt))

  quotient : millionths (float_of (k.capacitance * (ff - cc))) (float_of 2) (float_of 1000000) ≡ usable_of k
  unfolding usable_of
  quotient =
      let n = k.capacitance * (ff - cc) in
      let h = product-held n (product_small k under small) in
      ap (λ (x : Float). div binary64 x (float_of 1000000)) (halved n (le_of_lt h)) ∙ half-divided n 1000000 h (lit< tt) (lit≤ tt)

  -- it is a number, and no smaller than +0
  pub usable-number : NotNegative (usable_of k)
  unfolding usable_of nearest
  usable-number =
      let n = k.capacitance * (ff - cc) in
      own (round binary64 false n 2000000) (grid binary64 n 2000000) (2 ^ low binary64)
      (round-value binary64 false n 2000000 (lit< tt) (lt_of_le_of_lt (product_small k under small) (lit< tt)))
    where
      own : (x : Float) (a c : ℕ) → HasValue x false a c → NotNegative x
      own nan a c h = absurd h
      own (inf s) a c h = absurd h
      own (fin s m e) a c h = (h.0, refl)

-- by the floats and constants that the code has
pub usable-is : (c : Capacitor) (k : Ratings) → Holds c k
    → millionths (mul binary64 c.capacitance (sub binary64 (mul binary64 c.full c.full) (mul binary64 c.cutoff c.cutoff))) (of_bits binary64 0x4000_0000_0000_0000) (of_bits binary64 0x412e_8480_0000_0000)
    ≡ usable_of k
usable-is c k h =
    rw (h.capacitance, h.full, h.cutoff, two, million, product k h.small h.low h.above) (quotient k h.small h.low h.above)

-- ---- what is left

pub left_is : (x y : Float) (n : ℕ) → n ≤ 2 ^ 53 → y ≡ float_of n → NotNegative x → sub binary64 x y ≡ left_of x n
unfolding left_of
left_is x y n N e v =
    ap (sub binary64 x) e
    ∙ sub_is binary64 (num x) (den x) n 1 (den_pos x) (lit< tt) x (float_of n) v (exact n N)
    ∙ ap₂ (λ (i j : ℕ). round_difference binary64 i (n * den x) j) (mul-one (num x)) (mul-one (den x))
    ∙ sym (difference-is (num x) (n * den x) (den x))

-- ---- the three together

pub energies-are : (k : Ratings) (n : ℕ) {x y z : Float} → x ≡ usable_of k → y ≡ float_of n → z ≡ left_of x n
    → record { usable = x; draw = y; left = z } ≡ energies_of k n
unfolding energies_of
energies-are k n {x} {y} {z} u d l = simp (u, d, l)
