-- The numbers of a word, the lowest first: those whose bit is set.
use Rattle.std.specs.Prelude.{◌≡◌, ◌≢◌, ℕ, zero, suc, ◌-◌, ◌*◌, ◌/◌, ◌%◌, ◌^◌, ◌<◌, min, Option, Some, None}
use Rattle.std.proofs.Common.{sym, ap, ◌∙◌, inl, inr, one-mul, pow-suc, arith, lit<, shl_exact}
use Rattle.std.proofs.Math.Decide.{ℕ_discrete}
use Rattle.std.proofs.lemmas.Nat.{and_le_l}
use Rattle.std.specs.Int.Bits.{bit_and, bit_xor}
use Rattle.std.specs.Int.Count.{count_trailing_zeros}
use Rattle.bit_sets.specs.Bits.{bit, bit-less, bit-suc, bit-low, bit-pow, trailing}
use Rattle.bit_sets.specs.declared.WordMembers.{WordMembers}

-- a word without number p
abbrev pub without : ℕ → ℕ → ℕ
without bits p = bit_and bits (bit_xor bits ((1 * 2 ^ p) % 2 ^ 64))

-- none is left exactly where the word is 0; else it is the lowest, and the others stay
abbrev pub NextMember : WordMembers → Option ℕ → WordMembers → Type 0
NextMember s None t = (s.left ≡ 0) × (t.left ≡ 0)
NextMember s (Some p) t = (s.left ≢ 0) × (p ≡ count_trailing_zeros 64 s.left) × (t.left ≡ without s.left p)

-- ---- a word with a number in it has a lowest one, and is less without it

pub word-one : (k : ℕ) → k < 64 → (1 * 2 ^ k) % 2 ^ 64 ≡ 2 ^ k
word-one k h = shl_exact 1 k 64 (lit< tt) (omega arith) ∙ one-mul (2 ^ k)

no_bits : (k x : ℕ) → x < 2 ^ k → ((f : ℕ) → f < k → bit x f ≡ 0) → x ≡ 0
no_bits zero x l z = omega arith
no_bits (suc k) x l z =
    let q : 2 ^ suc k ≡ 2 ^ k * 2 = pow-suc 2 k in
    omega (arith, bit-low x, z 0 (omega arith), no_bits k (x / 2) (omega arith) (λ f h. sym (bit-suc x f) ∙ z (suc f) (omega arith)))

pub lowest-set : {x p : ℕ} → x < 2 ^ 64 → x ≢ 0 → p ≡ count_trailing_zeros 64 x → (p < 64) × (bit x p ≡ 1)
lowest-set {x} l z t = elim (trailing 64 x) [
  | inl r ↦ (omega (arith, r.0), ap (bit x) t ∙ r.1)
  | inr r ↦ absurd (z (no_bits 64 x l r.1))
]

pub without-bit : (x : ℕ) {p : ℕ} → p < 64 → (j : ℕ) → bit (without x p) j ≡ min (bit x j) (1 - bit (2 ^ p) j)
without-bit x {p} h j = ap (λ (z : ℕ). bit (bit_and x (bit_xor x z)) j) (word-one p h) ∙ bit-less x (2 ^ p) j

pub without-less : {x p : ℕ} → p < 64 → bit x p ≡ 1 → without x p < x
without-less {x} {p} h b = elim (ℕ_discrete (without x p) x) [
  | yes q ↦ absurd (omega (arith, ap (λ (z : ℕ). bit z p) q, without-bit x h p, bit-pow p))
  | no g ↦ omega (arith, and_le_l x (bit_xor x ((1 * 2 ^ p) % 2 ^ 64)))
]
