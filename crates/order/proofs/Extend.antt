-- Pairs added to a relation, however many at once: there is an arrangement that keeps both exactly when the two together have no strict
-- cycle (`extendable`), and so for pairs that a list has (`extension`); and which pairs may be added: one pair, and those that put events
-- into one step.
use Rattle.std.specs.Prelude.{◌≡◌, refl, ℕ, ◌≤◌, ◌<◌, ◌≢◌, ◌↔◌, ◌&&◌, eqb}
use Rattle.std.proofs.Math.Path.{sym}
use Rattle.std.proofs.Common.{ap, ◌∙◌, subst, le_refl, le_of_eq, not-suc-le-zero, arith, inl, inr, eq-eqb, eqb-true}
use Rattle.std.proofs.Math.Nat.{le_trans, le-max_left, le-max_right}
use Rattle.std.proofs.Math.Decide.{dec_le}
use mathlib.Core.List.Memᴰ
use mathlib.Core.List.{List, [], ◌∷◌, map}
use Rattle.spec.specs.Lists.{In, greatest}
use Rattle.spec.specs.Arrangement.{index}
use Rattle.lists.specs.Laws.{here, all_none, all_cons, in-flat-map, flat-map-in, true-or-false, and-true, greatest-above, greatest-in}
use Rattle.order.specs.Closure.{close}
use Rattle.order.proofs.Closure.{close-least}
use Rattle.order.specs.Order.{Order, Keeps, Acyclic}
use Rattle.order.proofs.Order.{keeps-less, closed, keeps-closed, closed-keeps, keeps-acyclic}
use Rattle.order.specs.Level.{lev}
use Rattle.order.proofs.Level.{lev-keeps}
use Rattle.order.specs.Arrange.{Kept, arrange}
use Rattle.order.proofs.Arrange.{kept_less, levels-kept}
use Rattle.order.specs.Exact.{NoneBefore, late, of_one}
use Rattle.order.proofs.Exact.{late-keeps, late-together, one-strict, one-weak}
use Rattle.order.specs.Extend.{joint, Added, added_at, listed, Within, KeepsPair, weak_pair, strict_pair, in_one_step}

-- a relation without a strict cycle is one that some numbering keeps
pub acyclic-numbered : (pair : ℕ → ℕ → ℕ) (n : ℕ) → Acyclic pair n ↔ ((ρ : ℕ → ℕ) × Keeps n pair ρ)
acyclic-numbered pair n = (
  λ h. (lev n (close pair n), closed-keeps pair n _ (lev-keeps n (close pair n) (closed pair n h))),
  λ k. keeps-acyclic pair n k.0 k.1,
)

module _ (pair more : ℕ → ℕ → ℕ) (n : ℕ) where
  pub joint-keeps : (ρ : ℕ → ℕ) → Keeps n (joint pair more) ρ ↔ (Keeps n pair ρ × Keeps n more ρ)
  unfolding joint
  joint-keeps ρ = (
    λ k. (keeps-less n _ _ ρ (λ e f. le-max_left (pair e f) (more e f)) k, keeps-less n _ _ ρ (λ e f. le-max_right (pair e f) (more e f)) k),
    λ k. record {
      strict = λ e f l m s. elim (dec_le 2 (pair e f)) [ yes p ↦ k.0.strict e f l m p | no p ↦ k.1.strict e f l m (omega arith) ];
      weak = λ e f l m s. elim (dec_le 1 (pair e f)) [ yes p ↦ k.0.weak e f l m p | no p ↦ k.1.weak e f l m (omega arith) ];
    },
  )

  pub extended : Acyclic (joint pair more) n
      → Kept n pair (arrange n (lev n (close (joint pair more) n))) × Kept n more (arrange n (lev n (close (joint pair more) n)))
  unfolding joint
  extended h =
      let k = levels-kept n (close (joint pair more) n) (closed (joint pair more) n h) in
      (kept_less n pair _ _ (λ e f. omega (arith, close-least (joint pair more) n e f)) k, kept_less n more _ _ (λ e f. omega (arith, close-least (joint pair more) n e f)) k)

  pub extendable : Acyclic (joint pair more) n ↔ ((ls : List (List ℕ)) × Kept n pair ls × Kept n more ls)
  extendable = (
    λ h. (_, (extended h).0, (extended h).1),
    λ k. keeps-acyclic (joint pair more) n _ ((joint-keeps _).1 (k.1.keeps, k.2.keeps)),
  )

added-here : (p : Added) → added_at p.source p.target p ≡ p.value
unfolding added_at
added-here p = rw (eq-eqb p.source p.source refl, eq-eqb p.target p.target refl)

added-there : (p : Added) (x y : ℕ) → 0 < added_at x y p → (x ≡ p.source) × (y ≡ p.target) × (added_at x y p ≡ p.value)
unfolding added_at
added-there p x y h = elim (true-or-false (eqb x p.source && eqb y p.target)) [
  | inl t ↦ let r = and-true (eqb x p.source) (eqb y p.target) t in (eqb-true x p.source r.0, eqb-true y p.target r.1, rw t)
  | inr t ↦ absurd (not-suc-le-zero (rw t at h))
]

module _ (n : ℕ) (ps : List Added) (within : Within n ps) (ρ : ℕ → ℕ) where
  listed_above : (p : Added) → In p ps → p.value ≤ listed ps p.source p.target
  unfolding listed
  listed_above p m = le_trans (le_of_eq (sym (added-here p))) (greatest-above _ _ (Memᴰ.map (added_at p.source p.target) m))

  -- a value of the relation is that of one of the pairs
  listed-from : (x y : ℕ) → 0 < listed ps x y → (p : Added) × In p ps × (x ≡ p.source) × (y ≡ p.target) × (listed ps x y ≡ p.value)
  unfolding listed
  listed-from x y h =
      let r : (p : Added) × In p ps × (added_at x y p ≡ greatest (map (added_at x y) ps)) = Memᴰ.of_map (added_at x y) ps (greatest-in (map (added_at x y) ps) h) in
      let z = added-there r.0 x y (omega (arith, r.2)) in
      (r.0, r.1, z.0, z.1, sym r.2 ∙ z.2)

  pub listed-keeps : Keeps n (listed ps) ρ ↔ ((p : Added) → In p ps → KeepsPair ρ p)
  listed-keeps = (
    λ k p m. let w = within p m in record {
      weak = λ h. k.weak p.source p.target w.0 w.1 (omega (arith, listed_above p m));
      strict = λ h. k.strict p.source p.target w.0 w.1 (omega (arith, listed_above p m));
    },
    λ k. record {
      strict = λ x y a b s. let r = listed-from x y (omega arith) in omega (arith, ap ρ r.2, ap ρ r.3, (k r.0 r.1).strict (omega (arith, r.4)));
      weak = λ x y a b s. let r = listed-from x y s in omega (arith, ap ρ r.2, ap ρ r.3, (k r.0 r.1).weak (omega (arith, r.4)));
    },
  )

-- the extension law: pairs may be added just where an arrangement that keeps the relation keeps each of them
pub extension : (pair : ℕ → ℕ → ℕ) (n : ℕ) (ps : List Added) → Within n ps
    → Acyclic (joint pair (listed ps)) n ↔ ((ls : List (List ℕ)) × Kept n pair ls × ((p : Added) → In p ps → KeepsPair (λ e. index e ls) p))
extension pair n ps within = (
  λ a. let r = (extendable pair (listed ps) n).0 a in (r.0, r.1, (listed-keeps n ps within (λ e. index e r.0)).0 r.2.keeps),
  λ r. (extendable pair (listed ps) n).1 (r.0, r.1, record { arranged = r.1.arranged; keeps = (listed-keeps n ps within (λ e. index e r.0)).1 r.2 }),
)

-- a numbering will do as well
numbered : (pair : ℕ → ℕ → ℕ) (n : ℕ) (ps : List Added) → Within n ps → (ρ : ℕ → ℕ) → Keeps n pair ρ → ((p : Added) → In p ps → KeepsPair ρ p) → Acyclic (joint pair (listed ps)) n
numbered pair n ps within ρ k h = (acyclic-numbered (joint pair (listed ps)) n).1 (ρ, (joint-keeps pair (listed ps) n ρ).1 (k, (listed-keeps n ps within ρ).1 h))

module _ (pair : ℕ → ℕ → ℕ) (n : ℕ) (h : Acyclic pair n) where
  abbrev c : ℕ → ℕ → ℕ
  c = close pair n

  o : Order n c
  o = closed pair n h

  -- the pairs of a list may be added where the numbering of formula (1) keeps each of them
  late-added : (fs : List ℕ) → ((f : ℕ) → In f fs → f < n) → (ps : List Added) → Within n ps → ((p : Added) → In p ps → KeepsPair (late n c fs) p)
      → Acyclic (joint pair (listed ps)) n
  late-added fs m ps within k = numbered pair n ps within (late n c fs) (closed-keeps pair n _ (late-keeps n c o fs m)) k

  -- ---- one pair, from f to e

  module _ (e f : ℕ) (l : e < n) (m : f < n) where
    abbrev ρ : ℕ → ℕ
    ρ = late n c (f ∷ [])

    pub one-within : (v : ℕ) → Within n (record { source = f; target = e; value = v } ∷ [])
    one-within v = all_cons _ _ [] (m, l) (all_none _)

    one-added : (v : ℕ) → KeepsPair ρ (record { source = f; target = e; value = v }) → Acyclic (joint pair (listed (record { source = f; target = e; value = v } ∷ []))) n
    one-added v k = late-added (f ∷ []) (of_one (λ g. g < n) f m) _ (one-within v) (all_cons (KeepsPair ρ) _ [] k (all_none _))

    pub weak-added : Acyclic (joint pair (listed (weak_pair f e ∷ []))) n ↔ (c e f < 2)
    weak-added = (
      λ a. let r = (extension pair n _ (one-within 1)).0 a in elim (dec_le 2 (c e f)) [
        | yes s ↦ absurd (omega (arith, (keeps-closed pair n _ r.1.keeps).strict e f l m s, (r.2 _ here).weak (le_refl 1)))
        | no s ↦ omega arith
      ],
      λ s. one-added 1 (record { weak = λ z. one-strict n c o f m e s; strict = λ z. absurd (omega arith) }),
    )

    pub strict-added : Acyclic (joint pair (listed (strict_pair f e ∷ []))) n ↔ ((e ≢ f) × (c e f ≡ 0))
    strict-added = (
      λ a. let r = (extension pair n _ (one-within 2)).0 a in let k = (r.2 _ here).strict (le_refl 2) in (
        λ q. omega (arith, ap (λ (g : ℕ). index g r.0) q),
        elim (dec_le 1 (c e f)) [
          | yes s ↦ absurd (omega (arith, (keeps-closed pair n _ r.1.keeps).weak e f l m s))
          | no s ↦ omega arith
        ],
      ),
      λ s. let w = one-weak n c o f m e s.0 s.1 in one-added 2 (record { weak = λ z. omega arith; strict = λ z. w }),
    )

  -- ---- a weak pair each way between each two of fs: they stand in one step

  module _ (fs : List ℕ) (m : (f : ℕ) → In f fs → f < n) where
    -- each pair of the list is a weak one between two of them
    pair_of : (p : Added) → In p (in_one_step fs) → (e : ℕ) × (f : ℕ) × In e fs × In f fs × (weak_pair e f ≡ p)
    unfolding in_one_step
    pair_of p k =
        let r = in-flat-map (λ e. map (weak_pair e) fs) fs k in
        let s : (f : ℕ) × In f fs × (weak_pair r.0 f ≡ p) = Memᴰ.of_map (weak_pair r.0) fs r.2 in
        (r.0, s.0, r.1, s.1, s.2)

    pub pair-in : (e f : ℕ) → In e fs → In f fs → In (weak_pair e f) (in_one_step fs)
    unfolding in_one_step
    pair-in e f i j = flat-map-in (λ e. map (weak_pair e) fs) fs i (Memᴰ.map (weak_pair e) j)

    pub step-within : Within n (in_one_step fs)
    step-within p k = let r = pair_of p k in subst (λ q. (q.source < n) × (q.target < n)) r.4 (m r.0 r.2, m r.1 r.3)

    pub step_added : Acyclic (joint pair (listed (in_one_step fs))) n ↔ NoneBefore c fs
    step_added = (
      λ a e i f j. let r = (extension pair n _ step-within).0 a in elim (dec_le 2 (c e f)) [
        | yes s ↦ absurd (omega (arith, (keeps-closed pair n _ r.1.keeps).strict e f (m e i) (m f j) s, (r.2 _ (pair-in f e j i)).weak (le_refl 1)))
        | no s ↦ omega arith
      ],
      λ z. let level = late-together n c o fs m z in late-added fs m (in_one_step fs) step-within (λ p k.
          let r = pair_of p k in
          subst (KeepsPair (late n c fs)) r.4 (record { weak = λ y. omega (arith, level r.0 r.2, level r.1 r.3); strict = λ y. absurd (omega arith) })),
    )
