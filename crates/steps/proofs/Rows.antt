-- The rows of a step's events, one for each event, added up, joined and taken.
use Prim.Native.Nat.{ℕ, ◌+◌, ◌-◌, ◌*◌, ◌≤◌, ◌<◌, max}
use mathlib.Core.Path.{◌≡◌, refl, sym, ap, ◌∙◌}
use mathlib.Core.List.{List, []}
use native.Mathlib.Decide.{dec_lt}
use native.Mathlib.Omega.{arith}
use lib.Bits.{bit_or}
use lib.ListN.{length, get_or, take, drop, replicate, length-replicate}
use lib.Seq.{length-take-le, take-add, get_or-take}
use Rattle.spec.specs.Lists.{In, sum_of}
use Rattle.lists.specs.Laws
use Rattle.lists.specs.Arrays.{blank}
use Rattle.lists.specs.Along.{sum_of-more}
use Rattle.lists.specs.Grouped.{sum_of-scaled}
use Rattle.bit_sets.specs.Bits.{bit, bit-most, bit-or, bit-zero}
use Rattle.arc_sets.specs.Sets.{weight_at, arc_at, Within}
use Rattle.arc_sets.specs.Weights.{weight-none, weight-some, weight-most, arc-within}
use Rattle.steps.specs.StepArrays.{IsStep, over, Addable, AddedRow, Summable, Summed, Payable, TakenRow, Paid, Joined, Within32, Playable, MovedBy}

-- ---- sums

arc-most : (sets : List ℕ) (at t p : ℕ) → arc_at sets at t p ≤ 16
unfolding arc_at
arc-most sets at t p = weight-most sets (at + t) p

-- a sum over the events is at most sixteen times their number
pub over-most : (sets : List ℕ) (at : ℕ) (ts : List ℕ) (p : ℕ) → over (arc_at sets at) ts p ≤ 16 * length ts
over-most sets at ts p = omega (arith, Laws.sum_of-le (λ t. arc_at sets at t p) (λ t. 16 * 1) ts (λ t i. arc-most sets at t p), sum_of-scaled 16 (λ t. 1) ts, Laws.sum_of-one ts)

pub over_none : (f : ℕ → ℕ → ℕ) (p : ℕ) → over f [] p ≡ 0
unfolding sum_of
over_none f p = refl

-- the next event
module _ (sets xs : List ℕ) (at i : ℕ) (l : i < length xs) where
  pub over-next : {t : ℕ} (p : ℕ) → t ≡ get_or xs i 0 → over (arc_at sets at) (take (i + 1) xs) p ≡ over (arc_at sets at) (take i xs) p + weight_at sets (at + t) p
  unfolding arc_at
  over-next p e = sum_of-more 0 (λ t. arc_at sets at t p) xs i l ∙ ap (λ (z : ℕ). over (arc_at sets at) (take i xs) p + weight_at sets (at + z) p) (sym e)

-- the sum over some of the events is at most that over all
pub over-part : (f : ℕ → ℕ → ℕ) (xs : List ℕ) (i n p : ℕ) → i ≤ n → over f (take i xs) p ≤ over f (take n xs) p
over-part f xs i n p h =
    let e : n ≡ i + (n - i) = omega arith in
    omega (arith, ap (λ (z : ℕ). over f (take z xs) p) e, ap (λ zs. over f zs p) (take-add i (n - i) xs), Laws.sum_of-append (λ t. f t p) (take i xs) (take (n - i) (drop i xs)))

-- a loop over the events of a step: the one that is next, and that all have been
module _ {xs : List ℕ} {count : ℕ} (S : IsStep xs count) where
  events-long : length (take count xs) ≡ count
  events-long = length-take-le count xs (omega (arith, S.long, S.few))

  pub event-within : {i : ℕ} → i < length (take count xs) → i < count
  event-within h = omega (arith, events-long, h)

  pub event-told : {i : ℕ} → i < length (take count xs) → get_or (take count xs) i 0 ≡ get_or xs i 0
  event-told {i} h = get_or-take count xs i 0 (event-within h)

  pub events-done : {i : ℕ} → i ≤ length (take count xs) → length (take count xs) ≤ i → i ≡ count
  events-done l h = omega (arith, events-long, l, h)

-- the events' transitions are known
pub step-known : {xs : List ℕ} {count : ℕ} → IsStep xs count → (t : ℕ) → In t (take count xs) → t < 32
step-known {xs} {count} S t m =
    let r = Laws.in-at 0 t (take count xs) m in
    let l : r.0 < count = omega (arith, length-take-le count xs (omega (arith, S.long, S.few))) in
    omega (arith, get_or-take count xs r.0 0 l, S.known r.0 l)

-- so no event is joined to a place that is none
pub over-past : {m : ℕ} {xs : List ℕ} {count : ℕ} → IsStep xs count → (sets : List ℕ) (at : ℕ) → at ≤ 96 → Within m sets → (p : ℕ) → m ≤ p → over (arc_at sets at) (take count xs) p ≡ 0
over-past {xs = xs} {count} S sets at l W p h = Laws.sum_of-zero (λ t. arc_at sets at t p) (take count xs) (λ t i. arc-within sets W at t p (omega (arith, step-known S t i)) h)

-- ---- added up

module _ (f : ℕ → ℕ → ℕ) {from : ℕ} where
  pub summed-none : (xs : List ℕ) → Summed f [] from xs xs
  summed-none xs = record { long = refl; before = λ i h. refl; here = λ p h. omega (arith, over_none f p); beyond = λ i h. refl }

module _ {sets step old new : List ℕ} {at from i count : ℕ} (S : IsStep step count) (R : Summable at from sets old) (l : i < count) (U : Summed (arc_at sets at) (take i step) from old new) where
  long-step : i < length step
  long-step = omega (arith, S.long, S.few)

  row_low : {t : ℕ} → t ≡ get_or step i 0 → at + t < 128
  row_low e = omega (arith, S.known i l, R.kind)

  pub summed-room : {t : ℕ} → t ≡ get_or step i 0 → (at + t < 128) × Addable from (weight_at sets (at + t)) new
  summed-room {t} e = (
    row_low e,
    λ p w. elim (dec_lt p R.places) [
      | yes h ↦ (
        omega (arith, R.few),
        omega (arith, U.long, R.long, R.few),
        omega (arith, U.here p (omega (arith, R.few)), R.low p h, over-most sets at (take i step) p, weight-most sets (at + t) p, length-take-le i step (omega (arith, long-step)), S.few),
      )
      | no h ↦ absurd (omega (arith, weight-none sets (at + t) p (R.within (at + t) p (row_low e) (omega arith)), w))
    ],
  )

  pub summed-next : {t : ℕ} {newer : List ℕ} → t ≡ get_or step i 0 → AddedRow from (weight_at sets (at + t)) new newer → Summed (arc_at sets at) (take (i + 1) step) from old newer
  summed-next {t} {newer} e A = record {
    long = A.long ∙ U.long;
    before = λ j h. A.before j h ∙ U.before j h;
    here = λ p h. omega (arith, A.here p, U.here p h, over-next sets step at i long-step p e);
    beyond = λ j h.
        let p : ℕ = j - from in
        let q : from + p ≡ j = omega arith in
        ap (λ (z : ℕ). get_or newer z 0) (sym q) ∙ A.here p ∙ omega (arith, weight-none sets (at + t) p (R.within (at + t) p (row_low e) (omega (arith, R.few))), ap (λ (z : ℕ). get_or new z 0) q, U.beyond j h);
  }

-- ---- joined

module _ (sets step : List ℕ) (at : ℕ) where
  pub joined-none : Joined (arc_at sets at) [] 0
  joined-none = record { none = λ p h. over_none (arc_at sets at) p; some = λ p h. absurd (omega (arith, bit-zero p)) }

  pub joined-next : {i set t : ℕ} → i < length step → t ≡ get_or step i 0 → Joined (arc_at sets at) (take i step) set → Joined (arc_at sets at) (take (i + 1) step) (bit_or set (get_or sets (at + t) 0))
  joined-next {i} {set} {t} l e G = record {
    none = λ p h. omega (arith, weight-none sets (at + t) p (omega (arith, both p)), over-next sets step at i l p e, G.none p (omega (arith, both p)));
    some = λ p h. elim (dec_lt 0 (bit set p)) [
      | yes k ↦ omega (arith, over-next sets step at i l p e, G.some p (omega (arith, bit-most set p)))
      | no k ↦ omega (arith, over-next sets step at i l p e, weight-some sets (at + t) p (omega (arith, both p)))
    ];
  }
    where
      both : (p : ℕ) → bit (bit_or set (get_or sets (at + t) 0)) p ≡ max (bit set p) (bit (get_or sets (at + t) 0) p)
      both p = bit-or set (get_or sets (at + t) 0) p

-- ---- paid

module _ (f : ℕ → ℕ → ℕ) where
  pub paid-none : (xs : List ℕ) → Paid f [] xs xs
  paid-none xs = record { long = refl; here = λ p. omega (arith, over_none f p) }

module _ {sets step old new : List ℕ} {i count : ℕ} (S : IsStep step count) (R : Playable sets (take count step) old) (l : i < count) (U : Paid (arc_at sets 0) (take i step) old new) where
  long-paid : i < length step
  long-paid = omega (arith, S.long, S.few)

  -- what the next event takes
  paid-more : {t : ℕ} (p : ℕ) → t ≡ get_or step i 0 → over (arc_at sets 0) (take (i + 1) step) p ≡ over (arc_at sets 0) (take i step) p + weight_at sets t p
  paid-more {t} p e = let front : 0 + t ≡ t = omega arith in over-next sets step 0 i long-paid p e ∙ ap (λ (z : ℕ). over (arc_at sets 0) (take i step) p + weight_at sets z p) front

  pub paid-room : {t : ℕ} → t ≡ get_or step i 0 → (t < 128) × Payable (weight_at sets t) new
  paid-room {t} e = (
    row-paid,
    λ p w. elim (dec_lt p 32) [
      | yes h ↦ (h, omega (arith, U.here p, paid-more p e, over-part (arc_at sets 0) step (i + 1) count p (omega arith), R.enough p))
      | no h ↦ absurd (omega (arith, weight-none sets t p (R.within t p row-paid (omega arith)), w))
    ],
  )
    where
      row-paid : t < 128
      row-paid = omega (arith, S.known i l)

  pub paid-next : {t : ℕ} {newer : List ℕ} → t ≡ get_or step i 0 → TakenRow (weight_at sets t) new newer → Paid (arc_at sets 0) (take (i + 1) step) old newer
  paid-next e A = record { long = A.long ∙ U.long; here = λ p. omega (arith, A.here p, U.here p, paid-more p e) }

-- ---- played

module _ {sets ts old mid : List ℕ} (R : Playable sets ts old) (P : Paid (arc_at sets 0) ts old mid) where
  pub paid-low : Summable 32 0 sets mid
  paid-low = record {
    kind = omega arith;
    places = 32;
    few = omega arith;
    within = R.within;
    long = omega (arith, P.long, R.long);
    low = λ p h. omega (arith, ap (λ (z : ℕ). get_or mid z 0) (front p), P.here p, R.fits p h);
  }
    where
      front : (p : ℕ) → 0 + p ≡ p
      front p = omega arith

  pub moved : {new : List ℕ} → Summed (arc_at sets 32) ts 0 mid new → MovedBy sets ts old new
  moved {new} S = record { long = S.long ∙ P.long; here = λ p h. ap (λ (z : ℕ). get_or new z 0) (sym (front p)) ∙ S.here p h ∙ ap (λ (z : ℕ). z + over (arc_at sets 32) ts p) (ap (λ (z : ℕ). get_or mid z 0) (front p) ∙ P.here p) }
    where
      front : (p : ℕ) → 0 + p ≡ p
      front p = omega arith

-- what is summed from nothing
pub blank-summable : (at : ℕ) {sets : List ℕ} → at ≤ 96 → Within 32 sets → Summable at 0 sets (replicate 32 0)
blank-summable at h w = record { kind = h; places = 32; few = omega arith; within = w; long = omega (arith, length-replicate {A = ℕ} 32 0); low = λ p k. omega (arith, blank 32 (0 + p)) }

-- a set that is joined has no place beyond
pub joined-within : (sets : List ℕ) (at : ℕ) {step : List ℕ} {count set : ℕ} → at ≤ 96 → IsStep step count → Within 32 sets → Joined (arc_at sets at) (take count step) set → Within32 set
joined-within sets at {step} {count} {set} l S W G p h = elim (dec_lt 0 (bit set p)) [
  | yes b ↦ absurd (omega (arith, G.some p (omega (arith, bit-most set p)), over-past S sets at l W p h))
  | no b ↦ omega arith
]
