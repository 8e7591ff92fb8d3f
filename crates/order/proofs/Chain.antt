-- The level of an event is the length, in strict pairs, of the longest chain that ends at it, weak pairs allowed; and how it is computed so.
use Rattle.std.specs.Prelude.{◌≡◌, refl, ◌↔◌, Bool, true, false}
use Prim.Native.Nat.{ℕ, zero, suc, ◌≤◌, ◌<◌, zero-le}
use Rattle.std.proofs.Math.Nat.{le_trans, le_antisymm}
use Rattle.std.proofs.Common.{arith}
use Rattle.lists.specs.Laws.{clash}
use Rattle.order.specs.Below.{max-above, max_least}
use Rattle.order.specs.Order.{Order}
use Rattle.order.specs.Level.{lev_f, lev}
use Rattle.order.proofs.Level.{gate-le, lev-keeps, lev-dense}
use Rattle.order.specs.Chain.{Chain, alone, weakly, strictly, prolong, chain_f}

module _ (n : ℕ) (c : ℕ → ℕ → ℕ) (o : Order n c) where
  chain-in : {k e : ℕ} → Chain n c k e → e < n
  chain-in (alone l) = l
  chain-in (weakly r l s) = l
  chain-in (strictly r l s) = l

  pub chain-most : {k e : ℕ} → Chain n c k e → k ≤ lev n c e
  chain-most (alone l) = zero-le
  chain-most (weakly {g} {e} r l s) = omega (arith, chain-most r, (lev-keeps n c o).weak g e (chain-in r) l s)
  chain-most (strictly {g} {e} r l s) = omega (arith, chain-most r, (lev-keeps n c o).strict g e (chain-in r) l s)

  pub chain-is : (k e : ℕ) → e < n → lev n c e ≡ k → Chain n c k e
  chain-is zero e l q = alone l
  chain-is (suc k) e l q = let r = lev-dense n c o e k l q in strictly (chain-is k r.0 r.1 r.3) l r.2

prolong-le : (s w : Bool) (k x : ℕ) → (s ≡ true → k < x) → (w ≡ true → k ≤ x) → prolong s w k ≤ x
unfolding prolong
prolong-le true w k x h m = h refl
prolong-le false true k x h m = m refl
prolong-le false false k x h m = zero-le

prolong-strict : (s w : Bool) (k : ℕ) → s ≡ true → prolong s w k ≡ suc k
unfolding prolong
prolong-strict true w k h = refl
prolong-strict false w k h = clash h refl

module _ (n : ℕ) (c : ℕ → ℕ → ℕ) (o : Order n c) (before not_later : ℕ → ℕ → Bool)
    (strict : (g e : ℕ) → g < n → e < n → (before g e ≡ true) ↔ (2 ≤ c g e)) (weak : (g e : ℕ) → g < n → e < n → not_later g e ≡ true → 0 < c g e) where
  chain_f-most : (k e : ℕ) → e < n → chain_f n before not_later k e ≤ lev n c e
  unfolding chain_f
  chain_f-most zero e l = zero-le
  chain_f-most (suc k) e l = max_least n _ _ (λ g m. prolong-le (before g e) (not_later g e) _ _
      (λ s. omega (arith, chain_f-most k g m, (lev-keeps n c o).strict g e m l ((strict g e m l).0 s)))
      (λ w. omega (arith, chain_f-most k g m, (lev-keeps n c o).weak g e m l (weak g e m l w))))

  chain_f-least : (k e : ℕ) → e < n → lev_f n c k e ≤ chain_f n before not_later k e
  unfolding chain_f lev_f
  chain_f-least zero e l = zero-le
  chain_f-least (suc k) e l = max_least n _ _ (λ g m. gate-le (c g e) _ _ (λ s. le_trans
      (omega (arith, chain_f-least k g m, prolong-strict (before g e) (not_later g e) (chain_f n before not_later k g) ((strict g e m l).1 s)))
      (max-above n (λ g. prolong (before g e) (not_later g e) (chain_f n before not_later k g)) g m)))

  pub chain_f-level : (e : ℕ) → e < n → chain_f n before not_later n e ≡ lev n c e
  unfolding lev
  chain_f-level e l = le_antisymm (chain_f-most n e l) (chain_f-least n e l)
