-- One pair more in the rows: a bit joined into the word that says of its second event whether it is on a path, and if
-- the pair is strict into the word two further on.
use mathlib.Core.Path.{◌≡◌, refl, sym, ap, ap₂, ◌∙◌}
use mathlib.Core.Logic.{◌≢◌}
use mathlib.Core.Bool.{Bool, true, false, cond}
use mathlib.Core.List.{List}
use Prim.Native.Nat.{ℕ, ◌+◌, ◌-◌, ◌*◌, ◌/◌, ◌%◌, ◌^◌, ◌≤◌, ◌<◌, min, max}
use native.Mathlib.Decide.{ℕ_discrete, dec_le}
use native.Mathlib.Omega.{arith}
use lib.Bits.{bit_or, bit_and}
use lib.Dec.{eqb, ltb}
use borrow.Author.Tests.{eq-eqb, ne_eqb, lt-ltb, le-ltb}
use lib.ListN.{length, get_or, set, length-set}
use lib.Seq.{get_or-set_same, get_or-set_other}
use Rattle.bit_sets.specs.Bits.{bit, bit-most, bit-or, bit-zero, bit-pow, bit-pow-other}
use Rattle.bit_sets.specs.Sets.{has, has-low, has-high, has-most}
use Rattle.bit_sets.proofs.Laws.{bit_test}
use Rattle.reach.specs.Rows.{value_of, Sub, row_of, cell_of, way, Raised}

-- ---- a set has f by a bit: in which of its words, and at which place there

abbrev word : ℕ → ℕ
word f = min 1 (f / 64)

abbrev place : ℕ → ℕ
place f = f - 64 * min 1 (f / 64)

has-bit : (w : List ℕ) (k l f : ℕ) → l ≡ k + 1 → has (record { lo = get_or w k 0; hi = get_or w l 0 }) f ≡ bit (get_or w (k + word f) 0) (place f)
has-bit w k l f h = elim (dec_le 64 f) [
  | yes m ↦ has-high _ f m ∙ ap₂ (λ (i j : ℕ). bit (get_or w i 0) j) (omega arith) (omega arith)
  | no d ↦ has-low _ f (omega arith) ∙ ap₂ (λ (i j : ℕ). bit (get_or w i 0) j) (omega arith) (omega arith)
]

-- words and places tell the events of the rows apart
one_cell : (i j e f : ℕ) → 4 * i + word j ≡ 4 * e + word f → place j ≡ place f → (i ≡ e) × (j ≡ f)
one_cell i j e f p q =
    let k : i ≡ e = omega arith in
    let l : word j ≡ word f = omega arith in
    (k, omega arith)

-- ---- bits x joined into word k

abbrev joined : List ℕ → ℕ → ℕ → List ℕ
joined w k x = set w k (bit_or (get_or w k 0) x)

bit-joined : (w : List ℕ) (k x f : ℕ) → k < length w → bit (get_or (joined w k x) k 0) f ≡ max (bit (get_or w k 0) f) (bit x f)
bit-joined w k x f l = ap (λ (z : ℕ). bit z f) (get_or-set_same w k (bit_or (get_or w k 0) x) 0 l) ∙ bit-or (get_or w k 0) x f

-- where x has no bit but that at i, no other changes
bit-stays : (w : List ℕ) (k x i j f : ℕ) → k < length w → ((g : ℕ) → g ≢ i → bit x g ≡ 0) → (j ≡ k → f ≡ i → ⊥) → bit (get_or (joined w k x) j 0) f ≡ bit (get_or w j 0) f
bit-stays w k x i j f l h d = elim (ℕ_discrete j k) [
  | yes q ↦ rw q (bit-joined w k x f l ∙ omega (arith, h f (d q)))
  | no n ↦ ap (λ (z : ℕ). bit z f) (get_or-set_other w k j (bit_or (get_or w k 0) x) 0 n)
]

-- ---- the pair of e and f

module _ (w v v' : List ℕ) (e f at p q : ℕ) (b : Bool) (n : 4 * e + 4 ≤ length w) (f<128 : f < 128) (g : Sub (row_of w e)) (hp : p ≡ 2 ^ (f % 64)) (hq : q ≡ cond b p 0)
    (ha : at ≡ 4 * e + f / 64) (hv : v ≡ joined w at p) (hv' : v' ≡ joined v (at + 2) q) where
  long : length v ≡ length w
  long = ap length hv ∙ length-set w at _

  p-bit : ((i : ℕ) → i ≢ place f → bit p i ≡ 0) × (bit p (place f) ≡ 1)
  p-bit =
      let z : p ≡ 2 ^ place f = hp ∙ ap (λ (i : ℕ). 2 ^ i) (omega arith) in
      ((λ i d. ap (λ (x : ℕ). bit x i) z ∙ bit-pow-other (place f) i d), ap (λ (x : ℕ). bit x (place f)) z ∙ bit-pow (place f))

  q-bit : (b : Bool) → q ≡ cond b p 0 → ((i : ℕ) → i ≢ place f → bit q i ≡ 0) × (bit q (place f) ≡ way b - 1)
  q-bit true h = rw h p-bit
  q-bit false h = rw h ((λ i d. bit-zero i), bit-zero (place f))

  -- the first word that is joined stands in a path set, the second one in a strict set
  path-is : (i j : ℕ) → has (row_of v' i).path j ≡ bit (get_or v (4 * i + word j) 0) (place j)
  unfolding row_of
  path-is i j = has-bit v' (4 * i) (4 * i + 1) j refl ∙ rw hv' (bit-stays v (at + 2) q (place f) (4 * i + word j) (place j) (omega (arith, long)) (q-bit b hq).0 (λ k. absurd (omega arith)))

  strict-was : (i j : ℕ) → has (row_of w i).strict j ≡ bit (get_or v (4 * i + 2 + word j) 0) (place j)
  unfolding row_of
  strict-was i j = has-bit w (4 * i + 2) (4 * i + 3) j (omega arith) ∙ sym (rw hv (bit-stays w at p (place f) (4 * i + 2 + word j) (place j) (omega arith) p-bit.0 (λ k. absurd (omega arith))))

  path-here : has (row_of v' e).path f ≡ 1
  path-here =
      let k : 4 * e + word f ≡ at = omega arith in
      path-is e f ∙ rw (k, hv) (bit-joined w at p (place f) (omega arith) ∙ omega (arith, p-bit.1, bit-most (get_or w at 0) (place f)))

  strict-here : has (row_of v' e).strict f ≡ max (has (row_of w e).strict f) (way b - 1)
  unfolding row_of
  strict-here =
      let k : 4 * e + 2 + word f ≡ at + 2 = omega arith in
      let now : bit (get_or v' (at + 2) 0) (place f) ≡ max (bit (get_or v (at + 2) 0) (place f)) (bit q (place f)) = rw hv' (bit-joined v (at + 2) q (place f) (omega (arith, long))) in
      let new : has (row_of v' e).strict f ≡ bit (get_or v' (at + 2) 0) (place f) = has-bit v' (4 * e + 2) (4 * e + 3) f (omega arith) ∙ ap (λ (i : ℕ). bit (get_or v' i 0) (place f)) k in
      let old : has (row_of w e).strict f ≡ bit (get_or v (at + 2) 0) (place f) = strict-was e f ∙ ap (λ (i : ℕ). bit (get_or v i 0) (place f)) k in
      omega (arith, (q-bit b hq).1)

  module _ (i j : ℕ) (d : (i ≡ e) × (j ≡ f) → ⊥) where
    path-stays : has (row_of v' i).path j ≡ has (row_of w i).path j
    unfolding row_of
    path-stays = path-is i j ∙ rw hv (bit-stays w at p (place f) (4 * i + word j) (place j) (omega arith) p-bit.0 (λ k l. d (one_cell i j e f (omega arith) l))) ∙ sym (has-bit w (4 * i) (4 * i + 1) j refl)

    strict-stays : has (row_of v' i).strict j ≡ has (row_of w i).strict j
    unfolding row_of
    strict-stays = has-bit v' (4 * i + 2) (4 * i + 3) j (omega arith)
        ∙ rw hv' (bit-stays v (at + 2) q (place f) (4 * i + 2 + word j) (place j) (omega (arith, long)) (q-bit b hq).0 (λ k l. d (one_cell i j e f (omega arith) l))) ∙ sym (strict-was i j)

  sub-stays : (i j : ℕ) → Sub (row_of w i) → ((i ≡ e) × (j ≡ f) → ⊥) → has (row_of v' i).strict j ≤ has (row_of v' i).path j
  unfolding Sub
  sub-stays i j l d = omega (arith, path-stays i j d, strict-stays i j d, l j)

  here-is : (b : Bool) → has (row_of v' e).strict f ≡ max (has (row_of w e).strict f) (way b - 1) → cell_of v' e f ≡ max (cell_of w e f) (way b)
  unfolding cell_of value_of Sub
  here-is true h = omega (arith, h, path-here, has-most (row_of w e).path f, has-most (row_of w e).strict f)
  here-is false h = omega (arith, h, path-here, has-most (row_of w e).path f, g f)

  pub raised_is : Raised w e f (way b) v'
  unfolding cell_of value_of Sub
  raised_is = record {
    long = ap length hv' ∙ length-set v (at + 2) _ ∙ long;
    sub = λ i l j. elim (ℕ_discrete i e) [
      | no d ↦ sub-stays i j l (λ z. d z.0)
      | yes y ↦ elim (ℕ_discrete j f) [
        | no d ↦ sub-stays i j l (λ z. d z.1)
        | yes z ↦ rw (y, z) (omega (arith, path-here, has-most (row_of v' e).strict f))
      ]
    ];
    here = here-is b strict-here;
    other = λ i j d. ap₂ ◌+◌ (path-stays i j d) (strict-stays i j d);
  }

-- ---- a value that is not 0, by one bit

not-zero : (x y : ℕ) → x < 2 → y ≤ x → eqb x 1 ≡ ltb 0 (x + y)
not-zero x y l h = elim (ℕ_discrete x 1) [
  | yes q ↦ eq-eqb x 1 q ∙ sym (lt-ltb 0 (x + y) (omega arith))
  | no d ↦ ne_eqb x 1 d ∙ sym (le-ltb 0 (x + y) (omega arith))
]

pub related-is : (w : List ℕ) (e f : ℕ) → f < 128 → Sub (row_of w e) → eqb (bit_and (get_or w (4 * e + f / 64) 0 / 2 ^ (f % 64)) 1) 1 ≡ ltb 0 (cell_of w e f)
unfolding cell_of value_of row_of Sub
related-is w e f u g =
    let h : bit_and (get_or w (4 * e + f / 64) 0 / 2 ^ (f % 64)) 1 ≡ has (row_of w e).path f = bit_test _ (f % 64) ∙ ap₂ (λ (i j : ℕ). bit (get_or w i 0) j) (omega arith) (omega arith) ∙ sym (has-bit w (4 * e) (4 * e + 1) f refl) in
    ap (λ (x : ℕ). eqb x 1) h ∙ not-zero _ _ (has-most (row_of w e).path f) (g f)
