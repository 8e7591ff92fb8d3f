-- The digits of a word, four bits each: what a number put at one digit does to each of them, and so to the weights of rows.
use Prim.Native.Nat.{ℕ, ◌+◌, ◌-◌, ◌*◌, ◌/◌, ◌%◌, ◌^◌, ◌<◌}
use mathlib.Core.Path.{◌≡◌, sym, ap, ap₂, ◌∙◌}
use mathlib.Core.List.{List}
use native.Mathlib.Nat.{zero-div, mul_assoc, mod-eq_of_lt, div-eq_of_lt, lt_of_lt_of_le}
use native.Mathlib.Decide.{ℕ_discrete, dec_lt}
use native.Mathlib.Omega.{arith}
use lib.Pow.{pow-add, pow_mono, shl_lt, shl_exact, shl-shr}
use lib.Bits.{bit_or, or_shr, or_mod, or_zero_l, or_zero_r}
use lib.ListN.{length, get_or, set}
use lib.Seq.{get_or-set_same, get_or-set_other}
use Rattle.arc_sets.specs.Sets.{digit_at, more_at}

-- ---- a word

digit_or : (a b d : ℕ) → digit_at (bit_or a b) d ≡ bit_or (digit_at a d) (digit_at b d)
unfolding digit_at
digit_or a b d = ap (λ (z : ℕ). z % 16) (or_shr a b (4 * d)) ∙ or_mod (a / 2 ^ (4 * d)) (b / 2 ^ (4 * d)) 4

pub digit-zero : (d : ℕ) → digit_at 0 d ≡ 0
unfolding digit_at
digit-zero d = ap (λ (z : ℕ). z % 16) (zero-div (2 ^ (4 * d)))

-- a number below 16 that stands at one digit: there it is that number, and elsewhere nothing
module _ (v d : ℕ) (h : v < 16) where
  digit-here : digit_at (v * 2 ^ (4 * d)) d ≡ v
  unfolding digit_at
  digit-here = ap (λ (z : ℕ). z % 16) (shl-shr v (4 * d)) ∙ mod-eq_of_lt h

  digit-below : (e : ℕ) → e < d → digit_at (v * 2 ^ (4 * d)) e ≡ 0
  unfolding digit_at
  digit-below e l = ap (λ (z : ℕ). z / 2 ^ (4 * e) % 16) higher ∙ ap (λ (z : ℕ). z % 16) (shl-shr (v * 2 ^ (4 * (d - e - 1)) * 16) (4 * e)) ∙ omega arith
    where
      higher : v * 2 ^ (4 * d) ≡ v * 2 ^ (4 * (d - e - 1)) * 16 * 2 ^ (4 * e)
      higher = ap (λ (z : ℕ). v * 2 ^ z) (omega arith) ∙ ap (λ (z : ℕ). v * z) (pow-add 2 (4 * (d - e - 1) + 4) (4 * e) ∙ ap (λ (z : ℕ). z * 2 ^ (4 * e)) (pow-add 2 (4 * (d - e - 1)) 4)) ∙ sym (mul_assoc v _ _) ∙ ap (λ (z : ℕ). z * 2 ^ (4 * e)) (sym (mul_assoc v _ _))

  digit-above : (e : ℕ) → d < e → digit_at (v * 2 ^ (4 * d)) e ≡ 0
  unfolding digit_at
  digit-above e l = ap (λ (z : ℕ). z % 16) (div-eq_of_lt (lt_of_lt_of_le (shl_lt 4 (4 * d) h) (pow_mono (omega arith))))

  -- put into a word that has nothing there, it changes no other digit
  pub digit-put : (w : ℕ) → digit_at w d ≡ 0 → digit_at (bit_or w (v * 2 ^ (4 * d))) d ≡ v
  digit-put w z = digit_or w (v * 2 ^ (4 * d)) d ∙ ap₂ bit_or z digit-here ∙ or_zero_l v

  pub digit-kept : (w e : ℕ) → (e ≡ d → ⊥) → digit_at (bit_or w (v * 2 ^ (4 * d))) e ≡ digit_at w e
  digit-kept w e n = digit_or w (v * 2 ^ (4 * d)) e ∙ ap (bit_or (digit_at w e)) (elim (dec_lt e d) [ yes l ↦ digit-below e l | no l ↦ digit-above e (omega arith) ]) ∙ or_zero_r (digit_at w e)

-- ---- the weights of rows, once one is put

-- the word with the weight of place p of a row, and all words once v is put there
abbrev pub word_at : ℕ → ℕ → ℕ
word_at row p = 128 + 2 * row + p / 16

abbrev pub with_more : List ℕ → ℕ → ℕ → ℕ → List ℕ
with_more sets row p v = set sets (word_at row p) (bit_or (get_or sets (word_at row p) 0) ((v * 2 ^ (4 * (p % 16))) % 2 ^ 64))

-- a set that is put changes no weight
pub more-set : (sets : List ℕ) (row v i p : ℕ) → row < 128 → more_at (set sets row v) i p ≡ more_at sets i p
unfolding more_at
more-set sets row v i p h = ap (λ (w : ℕ). digit_at w (p % 16)) (get_or-set_other sets row (word_at i p) v 0 (λ e. omega arith))

module _ (sets : List ℕ) (row p v : ℕ) (low : p < 32) (small : v < 16) (long : word_at row p < length sets) where
  -- nothing is shifted out of the word
  word : get_or (with_more sets row p v) (word_at row p) 0 ≡ bit_or (get_or sets (word_at row p) 0) (v * 2 ^ (4 * (p % 16)))
  word = get_or-set_same sets (word_at row p) _ 0 long ∙ ap (bit_or (get_or sets (word_at row p) 0)) (shl_exact 4 (4 * (p % 16)) 64 small (omega arith))

  pub more-here : more_at sets row p ≡ 0 → more_at (with_more sets row p v) row p ≡ v
  unfolding more_at
  more-here z = ap (λ (w : ℕ). digit_at w (p % 16)) word ∙ digit-put v (p % 16) small (get_or sets (word_at row p) 0) z

  pub more-other : (i q : ℕ) → q < 32 → (i ≡ row → q ≡ p → ⊥) → more_at (with_more sets row p v) i q ≡ more_at sets i q
  unfolding more_at
  more-other i q l n = elim (ℕ_discrete (word_at i q) (word_at row p)) [
    | yes e ↦ rw e (ap (λ (w : ℕ). digit_at w (q % 16)) word ∙ digit-kept v (p % 16) small (get_or sets (word_at row p) 0) (q % 16) (λ d. n (omega arith) (omega arith)))
    | no d ↦ ap (λ (w : ℕ). digit_at w (q % 16)) (get_or-set_other sets (word_at row p) (word_at i q) _ 0 d)
  ]

  pub more-sets : (i : ℕ) → i < 128 → get_or (with_more sets row p v) i 0 ≡ get_or sets i 0
  more-sets i h = get_or-set_other sets (word_at row p) i _ 0 (λ e. omega arith)
