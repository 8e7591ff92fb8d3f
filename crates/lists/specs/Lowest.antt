-- The lowest number below a bound that passes a test, as `find` answers it: that number, or none.
use Rattle.std.specs.Prelude.{ℕ, zero, suc, ◌+◌, ◌-◌, ◌<◌, ◌≤◌, ◌≡◌, Bool, true, false, Option, Some, None, MatchOption}
use Rattle.std.proofs.Common.{sym, ◌∙◌, subst, arith, add-one}
use Rattle.std.proofs.Math.Option.{none, some}
use Rattle.spec.specs.Lists.{from, up_to, first, lowest}
use Rattle.lists.specs.Search.{lowest_start, first_on, first-hit, first-end, first-same}

pub record Lowest (q : ℕ → Bool) (n : ℕ) (r : Option ℕ) : Type 0 where
  pub is : MatchOption r (lowest q n ≡ none) (λ p. (p < n) × (lowest q n ≡ some p))

module _ (q : ℕ → Bool) (p n : ℕ) (left : first q (from p (n - p)) ≡ lowest q n) where
  pub lowest-hit : p < n → q p ≡ true → Lowest q n (Some p)
  lowest-hit l h = record { is = (l, sym left ∙ first-hit q p n l h) }

  pub lowest-end : n ≤ p → Lowest q n None
  lowest-end h = record { is = sym left ∙ first-end q p n h }

-- what `find` says of the numbers below the bound, which it goes over in their order
module _ (q : ℕ → Bool) (n : ℕ) where
  passed : (p : ℕ) → p ≤ n → ((k : ℕ) → k < p → q k ≡ false) → first q (from p (n - p)) ≡ lowest q n
  passed zero l h = lowest_start q n
  passed (suc p) l h =
      let e : p + 1 ≡ suc p = add-one p in
      rw (← e) (first_on q p n l (h p (omega arith)) ∙ passed p (omega arith) (λ k m. h k (omega arith)))

  pub lowest-found : (o : Option ℕ) → MatchOption o ((k : ℕ) → 0 ≤ k → k < n → q k ≡ false) (λ p. (0 ≤ p) × (p < n) × (q p ≡ true) × ((k : ℕ) → 0 ≤ k → k < p → q k ≡ false)) → Lowest q n o
  lowest-found None m = lowest-end q n n (passed n (omega arith) (λ k l. m k (omega arith) l)) (omega arith)
  lowest-found (Some p) m = lowest-hit q p n (passed p (omega arith) (λ k l. m.3 k (omega arith) l)) m.1 m.2

-- two tests that agree below the bound
pub lowest-same : {q s : ℕ → Bool} {n k : ℕ} {r : Option ℕ} → n ≡ k → ((p : ℕ) → p < k → q p ≡ s p) → Lowest q n r → Lowest s k r
unfolding lowest up_to
lowest-same {q} {s} {n} {k} {r} z h l = record { is = go r (subst (λ (z : ℕ). Lowest q z r) z l).is }
  where
    e : lowest s k ≡ lowest q k
    e = sym (first-same q s 0 k (λ p u. h p (omega arith)))

    go : (o : Option ℕ) → MatchOption o (lowest q k ≡ none) (λ p. (p < k) × (lowest q k ≡ some p)) → MatchOption o (lowest s k ≡ none) (λ p. (p < k) × (lowest s k ≡ some p))
    go None m = e ∙ m
    go (Some p) m = (m.0, e ∙ m.1)
