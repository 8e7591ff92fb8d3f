-- A word walked bit by bit, from the lowest on: what is left of it, and what was passed over.
use Rattle.std.specs.Prelude.{ℕ, zero, suc, ◌+◌, ◌-◌, ◌*◌, ◌/◌, ◌%◌, ◌^◌, ◌≤◌, ◌<◌, min, ◌≡◌, refl}
use Rattle.std.proofs.Common.{sym, ap, ◌∙◌, inl, inr, one-mul, pow-suc, not-suc-le-zero, arith, lit<, shl_exact}
use Rattle.std.proofs.Math.Decide.{ℕ_discrete, dec_lt}
use Rattle.std.specs.Int.Bits.{bit_and, bit_xor}
use Rattle.std.proofs.lemmas.Nat.{and_le_l}
use Rattle.std.specs.Int.Count.{count_trailing_zeros, under}
use Rattle.bit_sets.specs.Bits.{bit, bit-most, bit-less, bit-zero, bit-suc, bit-low, bit-pow, bit-pow-other, trailing}

pub word-one : (k : ℕ) → k < 64 → (1 * 2 ^ k) % 2 ^ 64 ≡ 2 ^ k
word-one k h = shl_exact 1 k 64 (lit< tt) (omega arith) ∙ one-mul (2 ^ k)

pub trailing_below : (k x f : ℕ) → f < count_trailing_zeros k x → bit x f ≡ 0
unfolding count_trailing_zeros
trailing_below zero x f h = absurd (not-suc-le-zero h)
trailing_below (suc k) x f h = go (x % 2) refl (trailing_below k (x / 2)) f h
  where
    go : (d : ℕ) → x % 2 ≡ d → ((f : ℕ) → f < count_trailing_zeros k (x / 2) → bit (x / 2) f ≡ 0) → (f : ℕ) → f < under d (count_trailing_zeros k (x / 2)) → bit x f ≡ 0
    go (suc d) q b f u = absurd (not-suc-le-zero u)
    go zero q b zero u = bit-low x ∙ q
    go zero q b (suc f) u = bit-suc x f ∙ b f (omega arith)

no_bits : (k x : ℕ) → x < 2 ^ k → ((f : ℕ) → f < k → bit x f ≡ 0) → x ≡ 0
no_bits zero x l z = omega arith
no_bits (suc k) x l z =
    let q : 2 ^ suc k ≡ 2 ^ k * 2 = pow-suc 2 k in
    omega (arith, bit-low x, z 0 (omega arith), no_bits k (x / 2) (omega arith) (λ f h. sym (bit-suc x f) ∙ z (suc f) (omega arith)))

-- bits holds those of word from d on
pub record Left (word bits d : ℕ) : Type 0 where
  pub small : bits < 2 ^ 64
  pub done : (i : ℕ) → i < d → bit bits i ≡ 0
  pub left : (i : ℕ) → d ≤ i → bit bits i ≡ bit word i

pub left-all : (word : ℕ) → word < 2 ^ 64 → Left word word 0
left-all word h = record { small = h; done = λ i h. absurd (not-suc-le-zero h); left = λ i h. refl }

module _ {word bits d i : ℕ} (L : Left word bits d) (t : i ≡ count_trailing_zeros 64 bits) where
  pub lowest : (bits ≡ 0 → ⊥) → (i < 64) × (bit bits i ≡ 1)
  lowest z = elim (trailing 64 bits) [
    | inl r ↦ (omega (arith, r.0), ap (bit bits) t ∙ r.1)
    | inr r ↦ absurd (z (no_bits 64 bits L.small r.1))
  ]

  module _ (b : bit bits i ≡ 1) where
    pub left-within : d ≤ i
    left-within = elim (dec_lt i d) [ yes h ↦ absurd (omega (arith, L.done i h)) | no g ↦ omega arith ]

    pub lowest-word : bit word i ≡ 1
    lowest-word = sym (L.left i left-within) ∙ b

    pub skipped : (j : ℕ) → d ≤ j → j < i → bit word j ≡ 0
    skipped j h l = sym (L.left j h) ∙ trailing_below 64 bits j (omega arith)

    abbrev rest : ℕ
    rest = bit_and bits (bit_xor bits ((1 * 2 ^ i) % 2 ^ 64))

    rest-bit : i < 64 → (j : ℕ) → bit rest j ≡ min (bit bits j) (1 - bit (2 ^ i) j)
    rest-bit h j = ap (λ (z : ℕ). bit (bit_and bits (bit_xor bits z)) j) (word-one i h) ∙ bit-less bits (2 ^ i) j

    pub left-rest : i < 64 → Left word rest (i + 1)
    left-rest h = record {
      small = omega (arith, L.small, and_le_l bits (bit_xor bits ((1 * 2 ^ i) % 2 ^ 64)));
      done = λ j l. elim (ℕ_discrete j i) [
        | yes q ↦ rw q (omega (arith, rest-bit h i, bit-pow i))
        | no g ↦ omega (arith, rest-bit h j, trailing_below 64 bits j (omega arith))
      ];
      left = λ j l. omega (arith, rest-bit h j, bit-pow-other i j (λ q. omega arith), L.left j (omega (arith, left-within)), bit-most bits j);
    }

    -- the word gets less
    pub rest-less : i < 64 → rest < bits
    rest-less h = elim (ℕ_discrete rest bits) [
      | yes q ↦ absurd (omega (arith, ap (λ (z : ℕ). bit z i) q, rest-bit h i, bit-pow i))
      | no g ↦ omega (arith, and_le_l bits (bit_xor bits ((1 * 2 ^ i) % 2 ^ 64)))
    ]

pub nothing_left : {word bits d : ℕ} → Left word bits d → bits ≡ 0 → (j : ℕ) → d ≤ j → bit word j ≡ 0
nothing_left L z j h = sym (L.left j h) ∙ ap (λ (x : ℕ). bit x j) z ∙ bit-zero j

-- ---- what a loop over the bits of a word knows at the lowest bit that is left

-- a word without bit i
abbrev pub without : ℕ → ℕ → ℕ
without bits i = bit_and bits (bit_xor bits ((1 * 2 ^ i) % 2 ^ 64))

pub record Lowest (word bits d i : ℕ) : Type 0 where
  pub low : i < 64
  pub within : d ≤ i
  pub set : bit word i ≡ 1
  pub left : bit bits i ≡ 1
  pub passed : (j : ℕ) → d ≤ j → j < i → bit word j ≡ 0
  pub less : without bits i < bits
  pub next : Left word (without bits i) (i + 1)

pub at-lowest : {word bits d i : ℕ} → Left word bits d → i ≡ count_trailing_zeros 64 bits → (bits ≡ 0 → ⊥) → Lowest word bits d i
at-lowest L t z =
    let b = lowest L t z in
    record {
      low = b.0;
      within = left-within L t b.1;
      set = lowest-word L t b.1;
      left = b.1;
      passed = skipped L t b.1;
      less = rest-less L t b.1 b.0;
      next = left-rest L t b.1 b.0;
    }
