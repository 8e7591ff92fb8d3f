-- A call whose answer is given: what it returned, and what it left in its buffer.
use mathlib.Core.Path.{◌≡◌, refl, sym, ap, ◌∙◌}
use Prim.Native.Nat.{ℕ, ◌<◌}
use mathlib.Core.List.{List, []}
use lib.ListN.{length, get_or, take, drop, get_or-append}
use lib.Seq.{take-append_seam}
use Rattle.spec.specs.Answer.{Answer, gives, refuses, returned}
use Rattle.spec.specs.Buffer.{over, leaves}
use Rattle.spec.specs.Values.{as_numbers}
use Rattle.spec.specs.Refusals.{NumberAndSpots, RefusesOnly}
use Rattle.spec.specs.declared.Numbers.{Numbers}
use Rattle.demands.specs.Exactly.{Exactly}

module _ {A : Type 0} (values : A → ℕ × ℕ × ℕ) (written : A → List ℕ) {x : Answer A} {a : A} (g : x ≡ gives a) where
  pub numbers-given : {r : Numbers} → r ≡ as_numbers (returned values x) → r ≡ as_numbers (gives (values a))
  unfolding returned
  numbers-given p = p ∙ ap (λ y. as_numbers (returned values y)) g

  pub left-given : (old : List ℕ) {new : List ℕ} → new ≡ leaves written x old → new ≡ over (written a) old
  unfolding leaves
  left-given old p = p ∙ ap (λ y. leaves written y old) g

-- the written values stand at the start of the buffer
pub start_is : (ws old : List ℕ) {new : List ℕ} {k : ℕ} → new ≡ over ws old → k ≡ length ws → take k new ≡ ws
unfolding over
start_is ws old p q = rw (p, q) (take-append_seam ws (drop (length ws) old))

-- an entry of what was written
pub entry-is : (ws old : List ℕ) {new : List ℕ} (i : ℕ) → new ≡ over ws old → i < length ws → get_or new i 0 ≡ get_or ws i 0
unfolding over
entry-is ws old i p h = rw p (get_or-append ws (drop (length ws) old) 0 i h)

-- ---- no refusal has number 0, so that 0 says that something is given

module _ {A : Type 0} (values : A → ℕ × ℕ × ℕ) {rs : List NumberAndSpots} (x : Answer A) (F : RefusesOnly rs x) {r : Numbers} (e : r ≡ as_numbers (returned values x)) where
  pub zero-given : r.number ≡ 0 → (a : A) × (x ≡ gives a)
  unfolding returned
  zero-given z = go x refl
    where
      go : (y : Answer A) → x ≡ y → (a : A) × (x ≡ gives a)
      go (gives a) q = (a, q)
      go (refuses n s) q =
          let m : n ≡ 0 = sym (ap (λ (w : Numbers). w.number) (e ∙ ap (λ y. as_numbers (returned values y)) q)) ∙ z in
          absurd (F.nonzero s (q ∙ ap (λ (k : ℕ). refuses k s) m))

  pub given-zero : {a : A} → x ≡ gives a → r.number ≡ 0
  given-zero g = ap (λ (w : Numbers). w.number) (numbers-given values (λ b. []) g e)

  -- it is given exactly where P holds, and is `what` then
  pub exactly : {P : Type 0} (written : A → List ℕ) (what : A) {old new : List ℕ} → new ≡ leaves written x old → (P → x ≡ gives what) → ((a : A) → x ≡ gives a → P) → Exactly P values written what old r new
  exactly written what {old} b t f =
      let g : r.number ≡ 0 → x ≡ gives what = λ z. let w = zero-given z in t (f w.0 w.1) in
      record {
        accepted = (λ z. let w = zero-given z in f w.0 w.1, λ p. given-zero (t p));
        returns = λ z. numbers-given values written (g z) e;
        leaves = λ z. left-given values written (g z) old b;
      }
