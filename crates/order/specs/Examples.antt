-- Two cases that show what the definitions guard against.
use Rattle.std.specs.Prelude.{◌≡◌, refl, ℕ, zero, suc, max}
use Rattle.std.proofs.Common.{◌∙◌}
use Rattle.order.specs.Join.{join}
use Rattle.order.specs.Closure.{col, step, close}
use Rattle.order.specs.Structure.{StratifiedOrder, NotLater◇}

-- ---- Warshall without the loop at the middle event misses a walk round a strict loop.

plain : (ℕ → ℕ → ℕ) → ℕ → ℕ → ℕ → ℕ
plain pair zero e f = pair e f
plain pair (suc k) e f = max (plain pair k e f) (join (plain pair k e k) (plain pair k k f))

-- 0 and 1 weakly both ways, 1 strictly before itself: so 0 is strictly before itself
round : ℕ → ℕ → ℕ
round zero zero = 0
round zero (suc f) = 1
round (suc e) zero = 1
round (suc e) (suc f) = 2

plain-misses : plain round 2 0 0 ≡ 1
unfolding plain round join
plain-misses = refl

close-finds : close round 2 0 0 ≡ 2
unfolding close step col round join
close-finds = refl

-- ---- C1 to C4 allow x ⊏ x, and the ◇-closure then loses it.

weak-loops : StratifiedOrder {X = ℕ} (λ x y. ⊥) (λ x y. x ≡ y)
weak-loops = record {
  C1 = λ x p. p;
  composes = record { C2 = λ x y p. absurd p; C3 = λ x y z p q d. p ∙ q; C4 = λ x y z p q. q; C4' = λ x y z p q. p };
}

closure-has-none : (x : ℕ) → ¬ NotLater◇ {X = ℕ} (λ x y. ⊥) (λ x y. x ≡ y) x x
closure-has-none x p = p.0 refl
