-- One value at most is `Rounded` for a fraction, so `Rounded` says which: two that are as near are equal, or the last bits of
-- their patterns would each be the even one.
use Rattle.std.specs.Prelude.{◌≡◌, ℕ, ◌+◌, ◌-◌, ◌*◌, ◌/◌, ◌^◌, ◌≤◌, ◌<◌, Bool, false, cond, ◌||◌, T, eqb, pos, Float}
use Rattle.std.proofs.Common.{sym, ap, ◌∙◌, subst, inl, inr, le_antisymm, mul_right_comm, mul-one, mul_assoc, zero-mul, arith, eqb→eq}
use Rattle.std.specs.Bool.{beq}
use Rattle.std.specs.Float.{nan, inf, fin, Format}
use Rattle.std.specs.Float.Ieee.{prec, emax, low, up, down, size, hid, top, eq, fits, to_bits, of_bits, round}
use Rattle.std.specs.Float.Ieee.Fits.{and_l, down_pos}
use Rattle.std.specs.Float.Ieee.Bits.{of_bits-to_bits}
use Rattle.std.specs.Float.Ieee.Nearest.{div_same}
use Rattle.std.specs.Float.Ieee.Scale.{finite}
use Rattle.std.specs.Float.Ieee.Positive.{num, den}
use Rattle.spec.specs.Rounding.{negative, apart, gap, Rounded}
use Rattle.rounding.proofs.Correct.{not-both, rounded}

-- two values of one sign that are == have one bit pattern
pattern : (f : Format) (x y : Float) → T (finite x) → T (finite y) → negative x ≡ negative y → T (eq x y) → to_bits f x ≡ to_bits f y
unfolding to_bits eq
pattern f nan y t u e h = absurd t
pattern f (inf s) y t u e h = absurd t
pattern f (fin s m e) nan t u g h = absurd u
pattern f (fin s m e) (inf v) t u g h = absurd u
pattern f (fin s m e) (fin v n d) t u g h =
    let A = m * up e * down d in
    let B = n * up d * down e in
    let c : A ≡ B = eqb→eq A B (and_l (eqb A B) (beq s v || eqb A 0) h) in
    let w : m * up e * 2 ^ low f / down e ≡ n * up d * 2 ^ low f / down d =
    div_same (m * up e * 2 ^ low f) (down e) (n * up d * 2 ^ low f) (down d) (down_pos e) (down_pos d) (mul_right_comm (m * up e) (2 ^ low f) (down d) ∙ ap (λ (z : ℕ). z * 2 ^ low f) c ∙ mul_right_comm (n * up d) (down e) (2 ^ low f)) in
    ap (λ (z : Bool). cond z (top f) 0 + (size (m * up e * 2 ^ low f / down e) - prec f) * hid f + m * up e * 2 ^ low f / down e / 2 ^ (size (m * up e * 2 ^ low f / down e) - prec f)) g
    ∙ ap (λ (z : ℕ). cond v (top f) 0 + (size z - prec f) * hid f + z / 2 ^ (size z - prec f)) w

module _ (f : Format) (s : Bool) (a c : ℕ) where
  equal : (x y : Float) → Rounded f s a c x → Rounded f s a c y → T (eq x y) → x ≡ y
  equal x y p q h =
      sym (of_bits-to_bits f x p.held)
      ∙ ap (of_bits f) (pattern f x y p.number q.number (p.sign ∙ sym q.sign) h)
      ∙ of_bits-to_bits f y q.held

  pub only : (x y : Float) → Rounded f s a c x → Rounded f s a c y → x ≡ y
  only x y p q =
      let as-near : gap s a c x * den y ≡ gap s a c y * den x = le_antisymm (p.near y q.held q.number) (q.near x p.held p.number) in
      elim (p.even y q.held q.number as-near) [
        | inl h ↦ equal x y p q h
        | inr w ↦ elim (q.even x p.held p.number (sym as-near)) [
          | inl h ↦ sym (equal y x q p h)
          | inr v ↦ absurd (not-both (to_bits f x) w.0 v.1)
        ]
      ]

-- so a correctly rounded value is what `round` gives
pub rounds-to : (f : Format) (s : Bool) (a c : ℕ) (x : Float) → 0 < c → a < 2 ^ emax f * c → Rounded f s a c x → x ≡ round f s a c
rounds-to f s a c x C A p = only f s a c x (round f s a c) p (rounded f s a c C A)

-- zero is a value of each format, so a correctly rounded value is at most twice the fraction in size
pub at-most-twice : (f : Format) (a c : ℕ) (x : Float) → Rounded f false a c x → num x * c ≤ 2 * a * den x
unfolding fits
at-most-twice f a c x p =
    let z : Float = fin false 0 (pos 0) in
    let h : gap false a c x * 1 ≤ gap false a c z * den x = p.near z tt tt in
    let own : gap false a c x ≡ apart (num x * c) (a * den x) = ap (λ (s : Bool). cond (beq false s) (apart (num x * c) (a * den x)) (num x * c + a * den x)) p.sign in
    let far : gap false a c z * den x ≡ a * den x = ap (λ (i : ℕ). i * den x) (from_zero a) in
    twice (num x * c) (a * den x) (subst (λ (i : ℕ). i ≤ a * den x) own (subst (λ (i : ℕ). gap false a c x ≤ i) far (subst (λ (i : ℕ). i ≤ gap false a c z * den x) (mul-one (gap false a c x)) h))) (mul_assoc 2 a (den x))
  where
    from_zero : (i : ℕ) → apart (0 * 1 * c) (i * 1) ≡ i
    from_zero i = omega (arith, zero-mul c)

    twice : (i j : ℕ) {k : ℕ} → apart i j ≤ j → k ≡ 2 * j → i ≤ k
    twice i j h e = omega arith
