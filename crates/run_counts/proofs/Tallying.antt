-- Sums and products that a loop adds up, and the tally after a step.
use Prim.Native.Nat.{ℕ, ◌+◌, ◌*◌, ◌≤◌, ◌<◌}
use mathlib.Core.Path.{◌≡◌, refl, sym, ap, ap₂, ◌∙◌}
use mathlib.Core.List.{List, []}
use native.Mathlib.Nat.{mul-le-mul, le_of_eq, le_trans}
use native.Mathlib.Omega.{arith}
use lib.ListN.{length, get_or, take}
use lib.Seq.{ext_get_or, get_or-take, length-take-le}
use Rattle.spec.specs.Lists.{up_to, sum_of}
use Rattle.lists.specs.Along.{sum_of-more}
use Rattle.lists.specs.Grouped.{sum_of-next}
use Rattle.columns.specs.Columns.{column, column-at, column-length}
use Rattle.arc_sets.specs.Sets.{arc_at}
use Rattle.steps.specs.StepArrays.{IsStep, over, Summed}
use Rattle.run_counts.specs.Tally.{StepEvents, size_of, both_of, times_at, tally_at, Tallies}

-- ---- sums over the events

pub all_none : (f : ℕ → ℕ) → sum_of f [] ≡ 0
unfolding sum_of
all_none f = refl

pub all-next : {v t : ℕ} (f : ℕ → ℕ) (ts : List ℕ) (i r : ℕ) → i < length ts → r ≡ sum_of f (take i ts) → t ≡ get_or ts i 0 → v ≡ f t → r + v ≡ sum_of f (take (i + 1) ts)
all-next f ts i r l h e q = ap₂ (λ (x y : ℕ). x + y) h (q ∙ ap f e) ∙ sym (sum_of-more 0 f ts i l)

-- the events of a step in an array
module _ {xs : List ℕ} {n : ℕ} (S : IsStep xs n) where
  pub step-size : length (take n xs) ≡ n
  step-size = length-take-le n xs (omega (arith, S.long, S.few))

  pub step-events : StepEvents (take n xs)
  step-events = record { few = omega (arith, S.few, step-size); known = λ i h. let l : i < n = omega (arith, step-size) in omega (arith, get_or-take n xs i 0 l, S.known i l) }

-- ---- products

-- a product of two numbers that are small
pub product-fits : {a b x y : ℕ} (h : ℕ) (k : ℕ) → a ≡ x → b ≡ y → x ≤ h → y ≤ k → a * b ≤ h * k
product-fits h k p q l m = mul-le-mul (le_trans (le_of_eq p) l) (le_trans (le_of_eq q) m)

-- a place's conditions, and the events that it inhibits, as the code reads them
pub held-read : (counts : List ℕ) (p : ℕ) → p < 32 → get_or (column 0 32 counts) p 0 ≡ get_or counts p 0
held-read counts p h = column-at 0 32 counts p h ∙ ap (λ (i : ℕ). get_or counts i 0) (omega arith)

pub watched-read : (counts : List ℕ) (p : ℕ) → p < 32 → get_or (column 32 32 counts) p 0 ≡ get_or counts (32 + p) 0
watched-read counts p h = column-at 32 32 counts p h

pub product-next : {a b : ℕ} (counts : List ℕ) (p r : ℕ) → p < 32 → r ≡ sum_of (times_at (column 0 32 counts) (column 32 32 counts)) (up_to p) → a ≡ get_or counts p 0 → b ≡ get_or counts (32 + p) 0
    → r + a * b ≡ sum_of (times_at (column 0 32 counts) (column 32 32 counts)) (up_to (p + 1))
unfolding times_at
product-next counts p r l h e f = sum_of-next (times_at (column 0 32 counts) (column 32 32 counts)) p r _ h (ap₂ (λ (x y : ℕ). x * y) (e ∙ sym (held-read counts p l)) (f ∙ sym (watched-read counts p l)))

-- ---- the tally after a step

module _ (sets : List ℕ) {ts old mid new : List ℕ} (A : Summed (arc_at sets 32) ts 0 old mid) (B : Summed (arc_at sets 64) ts 32 mid new) where
  pub tally-after : {m v w : ℕ} → m ≤ 32 → length old ≡ 96 → (own reads : ℕ) → v ≡ sum_of (both_of sets) ts → w ≡ sum_of (size_of sets 96) ts
      → Tallies sets m ts (tally_at own reads old) (tally_at (own + v) (reads + w) new)
  tally-after few long own reads e f = record {
    long_held = column-length 0 32 new (omega (arith, A.long, B.long));
    long_watched = column-length 32 32 new (omega (arith, A.long, B.long));
    held = λ p l. let h : p < 32 = omega arith in held-read new p h ∙ B.before p h ∙ ap (λ (z : ℕ). get_or mid z 0) (sym (front p)) ∙ A.here p h ∙ ap (λ (z : ℕ). z + over (arc_at sets 32) ts p) (ap (λ (z : ℕ). get_or old z 0) (front p) ∙ sym (held-read old p h));
    watched = λ p l. let h : p < 32 = omega arith in watched-read new p h ∙ B.here p h ∙ ap (λ (z : ℕ). z + over (arc_at sets 64) ts p) (A.beyond (32 + p) (omega arith) ∙ sym (watched-read old p h));
    own = ap (λ (z : ℕ). own + z) e;
    reads = ap (λ (z : ℕ). reads + z) f;
  }
    where
      front : (p : ℕ) → 0 + p ≡ p
      front p = omega arith

  -- the cursors stay
  pub cursors-after : length old ≡ 96 → column 64 32 new ≡ column 64 32 old
  cursors-after long = ext_get_or 0 _ _ (wide new (B.long ∙ A.long ∙ long) ∙ sym (wide old long)) (λ p h. let l : p < 32 = omega (arith, wide new (B.long ∙ A.long ∙ long)) in
      column-at 64 32 new p l ∙ B.beyond (64 + p) (omega arith) ∙ A.beyond (64 + p) (omega arith) ∙ sym (column-at 64 32 old p l))
    where
      wide : (xs : List ℕ) → length xs ≡ 96 → length (column 64 32 xs) ≡ 32
      wide xs e = column-length 64 32 xs (omega arith)
