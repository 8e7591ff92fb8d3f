-- The greatest of h 0, .., h (m - 1), and their sum.
use Rattle.std.specs.Prelude.{◌≡◌, ℕ, suc, ◌+◌, ◌≤◌, ◌<◌, max, [], ◌∷◌, map}
use Rattle.std.proofs.Common.{sym, ap, ◌∙◌, subst, le_refl, le_antisymm, eq-or-lt_of_le, le_of_suc-le-suc, arith, inl, inr}
use mathlib.Core.List.Memᴰ
use Rattle.spec.specs.Lists.{In, up_to, greatest, sum_of}
use Rattle.lists.specs.Laws.{greatest-above, greatest-least, greatest-in, map_same, up_to-in, in-up_to, up_to-snoc, sum_of-append, sum_of-lt, sum_of-one, length-up_to}

unfoldable pub max_below : ℕ → (ℕ → ℕ) → ℕ
max_below m h = greatest (map h (up_to m))

unfoldable pub sum_below : ℕ → (ℕ → ℕ) → ℕ
sum_below m h = sum_of h (up_to m)

-- a number below suc m is below m, or m
pub below-cases {ℓ} : {X : ℕ → Type ℓ} {m : ℕ} → ((g : ℕ) → g < m → X g) → X m → (g : ℕ) → g < suc m → X g
below-cases {X} r x g h = elim (eq-or-lt_of_le (le_of_suc-le-suc h)) [ inl e ↦ subst X (sym e) x | inr l ↦ r g l ]

-- ---- the greatest

pub max-above : (m : ℕ) (h : ℕ → ℕ) (g : ℕ) → g < m → h g ≤ max_below m h
unfolding max_below
max-above m h g l = greatest-above (h g) _ (Memᴰ.map h (up_to-in m l))

pub max_least : (m : ℕ) (h : ℕ → ℕ) (x : ℕ) → ((g : ℕ) → g < m → h g ≤ x) → max_below m h ≤ x
unfolding max_below
max_least m h x p = greatest-least x _ (λ y i.
    let r : (g : ℕ) × In g (up_to m) × (h g ≡ y) = Memᴰ.of_map h (up_to m) i in omega (arith, r.2, p r.0 (in-up_to m r.1)))

-- where it is not 0, it is one of them
pub max-attained : (m : ℕ) (h : ℕ → ℕ) → 0 < max_below m h → (g : ℕ) × (g < m) × (h g ≡ max_below m h)
unfolding max_below
max-attained m h p =
    let r : (g : ℕ) × In g (up_to m) × (h g ≡ greatest (map h (up_to m))) = Memᴰ.of_map h (up_to m) (greatest-in (map h (up_to m)) p) in
    (r.0, in-up_to m r.1, r.2)

pub max-same : (m : ℕ) (h k : ℕ → ℕ) → ((g : ℕ) → g < m → h g ≡ k g) → max_below m h ≡ max_below m k
unfolding max_below
max-same m h k p = ap greatest (map_same h k (up_to m) (λ g i. p g (in-up_to m i)))

pub max-suc : (m : ℕ) (h : ℕ → ℕ) → max_below (suc m) h ≡ max (max_below m h) (h m)
max-suc m h = le_antisymm
    (max_least (suc m) h _ (below-cases {X = λ g. h g ≤ max (max_below m h) (h m)} (λ g l. omega (arith, max-above m h g l)) (omega arith)))
    (omega (arith, max_least m h _ (λ g l. max-above (suc m) h g (omega arith)), max-above (suc m) h m (le_refl (suc m))))

-- ---- the sum

pub sum-suc : (m : ℕ) (h : ℕ → ℕ) → sum_below (suc m) h ≡ sum_below m h + h m
unfolding sum_below sum_of
sum-suc m h = ap (sum_of h) (up_to-snoc m) ∙ sum_of-append h (up_to m) (m ∷ []) ∙ omega arith

pub sum_lt : (m : ℕ) (h k : ℕ → ℕ) → ((g : ℕ) → g < m → h g ≤ k g) → (g : ℕ) → g < m → h g < k g → sum_below m h < sum_below m k
unfolding sum_below
sum_lt m h k p g l q = sum_of-lt h k g (up_to m) (λ g i. p g (in-up_to m i)) (up_to-in m l) q

pub sum_one : (m : ℕ) → sum_below m (λ g. 1) ≡ m
unfolding sum_below
sum_one m = sum_of-one (up_to m) ∙ length-up_to m
