-- What all arrangements that keep an order agree on is the order (the generalised Szpilrajn theorem, 004's formula (1)):
-- for each event f one numbering that puts no event before f but those that must be; and so for any events of which none is
-- strictly before another, which it puts on one line.
use Rattle.std.specs.Prelude.{◌≡◌, ◌≢◌, ◌↔◌, List, [], ◌∷◌, map}
use Rattle.std.proofs.Math.Path.{refl, ap}
use Rattle.std.proofs.Common.{sym, le_refl, le_of_eq, le_trans, eq-eqb, ne_eqb}
use Prim.Native.Nat.{ℕ, zero, suc, ◌+◌, ◌≤◌, ◌<◌, max, zero-le}
use Rattle.std.proofs.Math.Decide.{dec_le, ℕ_discrete}
use native.Mathlib.Omega.{arith}
use mathlib.Core.List.Memᴰ
use Rattle.spec.specs.Lists.{In}
use Rattle.spec.specs.Arrangement.{index}
use Rattle.lists.specs.Laws.{here, greatest-above, greatest-least, greatest-in}
use Rattle.order.specs.Closure.{close}
use Rattle.order.proofs.Closure.{close-least}
use Rattle.order.specs.Paths.{Path}
use Rattle.order.proofs.Paths.{sound, complete, strict-is-path}
use Rattle.order.specs.Order.{Order, Keeps, Acyclic}
use Rattle.order.proofs.Order.{closed, along, keeps-closed}
use Rattle.order.specs.Level.{lev}
use Rattle.order.proofs.Level.{lev-keeps, lev-bound}
use Rattle.order.specs.Arrange.{Kept, arrange, squeeze}
use Rattle.order.proofs.Arrange.{kept_less, arrange-index, squeeze-lt, squeeze-le, squeezed}
use Rattle.order.specs.Exact.{toward, toward_all, place, late, NoneBefore, of_one}

toward-self : (c : ℕ → ℕ → ℕ) (f : ℕ) → toward c f f ≡ 1
unfolding toward
toward-self c f = rw (eq-eqb f f refl)

toward-other : (c : ℕ → ℕ → ℕ) (g f : ℕ) → g ≢ f → toward c g f ≡ c g f
unfolding toward
toward-other c g f h = rw (ne_eqb g f h)

place-late : (n a x : ℕ) → a < 2 → n ≤ place n a x
unfolding place
place-late n zero x h = omega arith
place-late n (suc zero) x h = le_refl n
place-late n (suc (suc a)) x h = omega arith

-- a step of d lines, 0 or 1, from an event that stands to fs as a says to one that stands as b says
place_up : (n a b x y d : ℕ) → d ≤ 1 → x < n → (0 < b → max b (suc d) ≤ a) → x + d ≤ y → place n a x + d ≤ place n b y
unfolding place
place_up n zero zero x y d i l h s = omega arith
place_up n zero (suc b) x y d i l h s = omega (arith, h (omega arith))
place_up n (suc zero) zero x y d i l h s = omega arith
place_up n (suc zero) (suc zero) x y d i l h s = omega (arith, h (omega arith))
place_up n (suc zero) (suc (suc b)) x y d i l h s = omega (arith, h (omega arith))
place_up n (suc (suc a)) zero x y d i l h s = omega arith
place_up n (suc (suc a)) (suc zero) x y d i l h s = omega arith
place_up n (suc (suc a)) (suc (suc b)) x y d i l h s = s

module _ (n : ℕ) (c : ℕ → ℕ → ℕ) (o : Order n c) (fs : List ℕ) (within : (f : ℕ) → In f fs → f < n) where
  toward-above : (g f : ℕ) → f < n → c g f ≤ toward c g f
  toward-above g f l = elim (ℕ_discrete g f) [ yes q ↦ rw (q, toward-self c f) (omega (arith, o.acyclic f l)) | no q ↦ le_of_eq (sym (toward-other c g f q)) ]

  -- what comes before h stands to f at least as h does
  down : (g h f : ℕ) → g < n → h < n → f < n → 0 < c g h → 0 < toward c h f → max (c g h) (toward c h f) ≤ toward c g f
  down g h f i l m p q = elim (ℕ_discrete h f) [
    | yes r ↦ let p' : 0 < c g f = rw r at p in rw (r, toward-self) (omega (arith, toward-above g f m))
    | no r ↦ let q' : 0 < c h f = rw (toward-other c h f r) at q in rw (toward-other c h f r) (omega (arith, o.trans g h f i l m p q', toward-above g f m))
  ]

  each_below : (g f : ℕ) → In f fs → toward c g f ≤ toward_all c fs g
  unfolding toward_all
  each_below g f m = greatest-above _ _ (Memᴰ.map (toward c g) m)

  down-all : (g h : ℕ) → g < n → h < n → 0 < c g h → 0 < toward_all c fs h → max (c g h) (toward_all c fs h) ≤ toward_all c fs g
  down-all g h i l p q =
      let r : (f : ℕ) × In f fs × (toward c h f ≡ toward_all c fs h) = unfold toward_all in Memᴰ.of_map (toward c h) fs (greatest-in (map (toward c h) fs) (unfold toward_all in q)) in
      omega (arith, r.2, down g h r.0 i l (within r.0 r.1) p (omega (arith, r.2)), each_below g r.0 r.1)

  pub late-keeps : Keeps n c (late n c fs)
  unfolding late
  late-keeps = record {
    strict = λ e g l m s. omega (arith, up e g 1 l m (le_refl 1) s (omega (arith, (lev-keeps n c o).strict e g l m s)));
    weak = λ e g l m s. omega (arith, up e g 0 l m zero-le s (omega (arith, (lev-keeps n c o).weak e g l m s)));
  }
    where
      up : (e g d : ℕ) → e < n → g < n → d ≤ 1 → suc d ≤ c e g → lev n c e + d ≤ lev n c g
          → place n (toward_all c fs e) (lev n c e) + d ≤ place n (toward_all c fs g) (lev n c g)
      up e g d l m i s h = place_up n (toward_all c fs e) (toward_all c fs g) (lev n c e) (lev n c g) d i (lev-bound n c o e l) (λ q. omega (arith, down-all e g l m (omega arith) q)) h

  -- what is strictly before none of them comes no earlier than line n,
  few : (e : ℕ) → ((f : ℕ) → In f fs → c e f < 2) → toward_all c fs e ≤ 1
  unfolding toward_all
  few e h = greatest-least 1 _ (λ x m.
      let r : (f : ℕ) × In f fs × (toward c e f ≡ x) = Memᴰ.of_map (toward c e) fs m in
      elim (ℕ_discrete e r.0) [
        | yes q ↦ omega (arith, r.2, ap (toward c e) q, toward-self c e)
        | no q ↦ omega (arith, r.2, toward-other c e r.0 q, h r.0 r.1)
      ])

  pub late-strict : (e : ℕ) → ((f : ℕ) → In f fs → c e f < 2) → n ≤ late n c fs e
  unfolding late
  late-strict e h = place-late n (toward_all c fs e) (lev n c e) (omega (arith, few e h))

  -- what is in no relation to any of them, and none of them itself, behind it,
  pub late-weak : (e : ℕ) → ((f : ℕ) → In f fs → (e ≢ f) × (c e f ≡ 0)) → n < late n c fs e
  unfolding late place
  late-weak e h = rw none (omega arith)
    where
      none : toward_all c fs e ≡ 0
      none = let z : toward_all c fs e ≤ 0 = unfold toward_all in greatest-least 0 (map (toward c e) fs) (λ x m.
          let r : (f : ℕ) × In f fs × (toward c e f ≡ x) = Memᴰ.of_map (toward c e) fs m in
          omega (arith, r.2, toward-other c e r.0 (h r.0 r.1).0, (h r.0 r.1).1)) in omega arith

  -- and each of them on it, where none is strictly before another
  pub late-together : NoneBefore c fs → (e : ℕ) → In e fs → late n c fs e ≡ n
  unfolding late place
  late-together h e m = let q : toward_all c fs e ≡ 1 = omega (arith, few e (h e m), each_below e e m, toward-self c e) in rw q refl

module _ (n : ℕ) (c : ℕ → ℕ → ℕ) (o : Order n c) (f : ℕ) (m : f < n) where
  abbrev pub late_by : ℕ → ℕ
  late_by = late n c (f ∷ [])

  within-one : (g : ℕ) → In g (f ∷ []) → g < n
  within-one = of_one (λ g. g < n) f m

  pub one-keeps : Keeps n c late_by
  one-keeps = late-keeps n c o (f ∷ []) within-one

  own_line : late_by f ≡ n
  own_line = late-together n c o (f ∷ []) within-one (of_one (λ g. (h : ℕ) → In h (f ∷ []) → c g h < 2) f (of_one (λ h. c f h < 2) f (o.acyclic f m))) f here

  -- what is not strictly before f comes no earlier than f, and what is in no relation to f comes later
  pub one-strict : (e : ℕ) → c e f < 2 → late_by f ≤ late_by e
  one-strict e h = le_trans (le_of_eq own_line) (late-strict n c o (f ∷ []) within-one e (of_one (λ g. c e g < 2) f h))

  pub one-weak : (e : ℕ) → e ≢ f → c e f ≡ 0 → late_by f < late_by e
  one-weak e d h = omega (arith, own_line, late-weak n c o (f ∷ []) within-one e (of_one (λ g. (e ≢ g) × (c e g ≡ 0)) f (d, h)))

-- ---- arrangements

module _ (n : ℕ) (c : ℕ → ℕ → ℕ) (o : Order n c) where
  -- an arrangement in which nothing stands before f that need not
  after : ℕ → List (List ℕ)
  after f = arrange n (squeeze n (late n c (f ∷ [])))

  after_kept : (f : ℕ) → f < n → Kept n c (after f)
  unfolding after
  after_kept f m = squeezed n _ c (one-keeps n c o f m)

  after-index : (e f : ℕ) → e < n → index e (after f) ≡ squeeze n (late n c (f ∷ [])) e
  unfolding after
  after-index e f l = arrange-index n (squeeze n (late n c (f ∷ []))) e l

  after-strict : (e f : ℕ) → e < n → f < n → c e f < 2 → index f (after f) ≤ index e (after f)
  after-strict e f l m h = omega (arith, after-index e f l, after-index f f m, squeeze-le n (late n c (f ∷ [])) f e m l (one-strict n c o f m e h))

  after-weak : (e f : ℕ) → e < n → f < n → e ≢ f → c e f ≡ 0 → index f (after f) < index e (after f)
  after-weak e f l m d h = omega (arith, after-index e f l, after-index f f m, squeeze-lt n (late n c (f ∷ [])) f e m l (one-weak n c o f m e d h))

  -- e stands on an earlier line in each arrangement just where it is strictly before
  pub exact-strict : (e f : ℕ) → e < n → f < n → ((ls : List (List ℕ)) → Kept n c ls → index e ls < index f ls) ↔ (2 ≤ c e f)
  exact-strict e f l m = (
    λ h. elim (dec_le 2 (c e f)) [ yes s ↦ s | no s ↦ absurd (omega (arith, h (after f) (after_kept f m), after-strict e f l m (omega arith))) ],
    λ s ls k. k.keeps.strict e f l m s,
  )

  pub exact-weak : (e f : ℕ) → e < n → f < n → e ≢ f → ((ls : List (List ℕ)) → Kept n c ls → index e ls ≤ index f ls) ↔ (0 < c e f)
  exact-weak e f l m d = (
    λ h. elim (dec_le 1 (c e f)) [ yes s ↦ s | no s ↦ absurd (omega (arith, h (after f) (after_kept f m), after-weak e f l m d (omega arith))) ],
    λ s ls k. k.keeps.weak e f l m s,
  )

-- ---- the same, said of a relation and its paths

module _ (pair : ℕ → ℕ → ℕ) (n : ℕ) (small : (e f : ℕ) → pair e f ≤ 2) (h : Acyclic pair n) (e f : ℕ) (l : e < n) (m : f < n) where
  pub strict-in-all : ((ls : List (List ℕ)) → Kept n pair ls → index e ls < index f ls) ↔ Path pair n 2 e f
  strict-in-all = (
    λ k. (strict-is-path pair n small e f l m).0 ((exact-strict n (close pair n) (closed pair n h) e f l m).0
        (λ ls r. k ls (kept_less n pair (close pair n) ls (close-least pair n) r))),
    λ p ls r. (keeps-closed pair n _ r.keeps).strict e f l m (complete pair n p),
  )

  pub weak-in-all : e ≢ f → ((ls : List (List ℕ)) → Kept n pair ls → index e ls ≤ index f ls) ↔ ((v : ℕ) × Path pair n v e f)
  weak-in-all d = (
    λ k. (
      close pair n e f,
      sound pair n n (le_refl n) e f l m ((exact-weak n (close pair n) (closed pair n h) e f l m d).0
          (λ ls r. k ls (kept_less n pair (close pair n) ls (close-least pair n) r))),
    ),
    λ p ls r. (along pair n _ r.keeps p.1).0,
  )
