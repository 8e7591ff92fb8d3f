-- The value of two paths one after the other, from the values of the two, and its algebra with `max`.
use Rattle.std.specs.Prelude.{◌≡◌, refl, ℕ, zero, suc, ◌≤◌, ◌<◌, max}
use Rattle.std.proofs.Common.{zero-le, arith}
use Rattle.std.proofs.Math.Nat.{zero-max, max-zero}

-- 0 no path, 1 a path, 2 a path with a strict pair. One path after another.
unfoldable pub join : ℕ → ℕ → ℕ
join zero b = 0
join (suc a) zero = 0
join (suc a) (suc b) = max (suc a) (suc b)

pub join-mono : {a b a' b' : ℕ} → a ≤ a' → b ≤ b' → join a b ≤ join a' b'
unfolding join
join-mono {a = zero} p q = zero-le
join-mono {a = suc a} {b = zero} p q = zero-le
join-mono {a = suc a} {b = suc b} {a' = zero} p q = omega arith
join-mono {a = suc a} {b = suc b} {a' = suc a'} {b' = zero} p q = omega arith
join-mono {a = suc a} {b = suc b} {a' = suc a'} {b' = suc b'} p q = omega arith

pub join-zero : (a : ℕ) → join a zero ≡ zero
unfolding join
join-zero zero = refl
join-zero (suc a) = refl

pub join-idem : (a : ℕ) → join a a ≡ a
unfolding join
join-idem zero = refl
join-idem (suc a) = omega arith

-- a positive value
pub join-pos : (a b : ℕ) → 0 < a → 0 < b → join a b ≡ max a b
unfolding join
join-pos zero b p q = omega arith
join-pos (suc a) zero p q = omega arith
join-pos (suc a) (suc b) p q = refl

pub join-assoc : (a b c : ℕ) → join (join a b) c ≡ join a (join b c)
unfolding join
join-assoc zero b c = refl
join-assoc (suc a) zero c = refl
join-assoc (suc a) (suc b) zero = join-zero (max (suc a) (suc b))
join-assoc (suc a) (suc b) (suc c) =
    rw (join-pos (max (suc a) (suc b)) (suc c) (omega arith) (omega arith), join-pos (suc a) (max (suc b) (suc c)) (omega arith) (omega arith))
    (omega arith)

pub join-max-l : (a b c : ℕ) → join (max a b) c ≡ max (join a c) (join b c)
unfolding join
join-max-l a b zero = simp join-zero (omega arith)
join-max-l zero b (suc c) = simp (zero-max)
join-max-l (suc a) zero (suc c) = simp (max-zero)
join-max-l (suc a) (suc b) (suc c) = rw (join-pos (max (suc a) (suc b)) (suc c) (omega arith) (omega arith)) (omega arith)

pub join-max-r : (a b c : ℕ) → join a (max b c) ≡ max (join a b) (join a c)
unfolding join
join-max-r zero b c = refl
join-max-r (suc a) zero c = simp (zero-max)
join-max-r (suc a) (suc b) zero = simp (max-zero)
join-max-r (suc a) (suc b) (suc c) = rw (join-pos (suc a) (max (suc b) (suc c)) (omega arith) (omega arith)) (omega arith)

pub join-bound : (a b : ℕ) → a ≤ 2 → b ≤ 2 → join a b ≤ 2
unfolding join
join-bound zero b h k = zero-le
join-bound (suc a) zero h k = zero-le
join-bound (suc a) (suc b) h k = omega arith
