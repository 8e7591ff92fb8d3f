-- Two events that stand in no relation are free to swap: there are arrangements that keep the order with one first, with the other
-- first, and with both in one step. Each is an extension of the relation: by a strict pair one way, by one the other way, by weak
-- pairs both ways. Where one is not later than the other, the other is first in none.
use Rattle.std.specs.Prelude.{◌≡◌, ℕ, ◌<◌, ◌≢◌, ◌↔◌, List, [], ◌∷◌}
use Rattle.std.proofs.Common.{sym, le_refl, le_antisymm, arith}
use Rattle.std.proofs.Math.Decide.{dec_le}
use Rattle.spec.specs.Lists.{In}
use Rattle.spec.specs.Arrangement.{index}
use Rattle.lists.specs.Laws.{here, there, all_cons}
use Rattle.order.specs.Closure.{close}
use Rattle.order.specs.Order.{Acyclic}
use Rattle.order.proofs.Order.{keeps-closed}
use Rattle.order.specs.Arrange.{Kept}
use Rattle.order.specs.Exact.{NoneBefore, of_one}
use Rattle.order.proofs.Extend.{extension, one-within, strict-added, pair-in, step-within, step_added}

module _ (pair : ℕ → ℕ → ℕ) (n : ℕ) (h : Acyclic pair n) where
  abbrev c : ℕ → ℕ → ℕ
  c = close pair n

  -- some arrangement that keeps the closed order
  abbrev pub InSome : (List (List ℕ) → Type 0) → Type 0
  InSome P = (ls : List (List ℕ)) × Kept n c ls × P ls

  kept-closed : {ls : List (List ℕ)} → Kept n pair ls → Kept n c ls
  kept-closed k = record { arranged = k.arranged; keeps = keeps-closed pair n _ k.keeps }

  module _ (e f : ℕ) (l : e < n) (m : f < n) where
    -- e is first in some just where f is not bound to be no later: a strict pair from e to f may be added
    pub first-in-some : e ≢ f → InSome (λ ls. index e ls < index f ls) ↔ (c f e ≡ 0)
    first-in-some d = (
      λ r. elim (dec_le 1 (c f e)) [ yes s ↦ absurd (omega (arith, r.2, r.1.keeps.weak f e m l s)) | no s ↦ omega arith ],
      λ z. let r = (extension pair n _ (one-within pair n h f e m l 2)).0 ((strict-added pair n h f e m l).1 (λ q. d (sym q), z)) in
          (r.0, kept-closed r.1, (r.2 _ here).strict (le_refl 2)),
    )

    -- they stand in one step in some just where neither is strictly before the other: weak pairs both ways may be added
    pub together-in-some : InSome (λ ls. index e ls ≡ index f ls) ↔ ((c e f < 2) × (c f e < 2))
    together-in-some = (
      λ r. (
        elim (dec_le 2 (c e f)) [ yes s ↦ absurd (omega (arith, r.2, r.1.keeps.strict e f l m s)) | no s ↦ omega arith ],
        elim (dec_le 2 (c f e)) [ yes s ↦ absurd (omega (arith, r.2, r.1.keeps.strict f e m l s)) | no s ↦ omega arith ],
      ),
      λ z. let r = (extension pair n _ (step-within pair n h both within)).0 ((step_added pair n h both within).1 (none_before z.0 z.1)) in
          (r.0, kept-closed r.1, le_antisymm ((r.2 _ (pair-in pair n h both within e f here (there here))).weak (le_refl 1)) ((r.2 _ (pair-in pair n h both within f e (there here) here)).weak (le_refl 1))),
    )
      where
        both : List ℕ
        both = e ∷ f ∷ []

        of-both : (P : ℕ → Type 0) → P e → P f → (g : ℕ) → In g both → P g
        of-both P p q = all_cons P e (f ∷ []) p (of_one P f q)

        within : (g : ℕ) → In g both → g < n
        within = of-both (λ g. g < n) l m

        none_before : c e f < 2 → c f e < 2 → NoneBefore c both
        none_before p q = of-both (λ g. (k : ℕ) → In k both → c g k < 2) (of-both (λ k. c e k < 2) (h e l) p) (of-both (λ k. c f k < 2) q (h f m))
