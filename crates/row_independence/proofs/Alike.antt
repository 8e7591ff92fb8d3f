-- Synchronous events and their rows. If e is not later than f, the row of f is a part of e's. So two synchronous events
-- have the same row. And if e is on a loop, and the row of an event f in e's row has as many events as e's, the two are
-- the same, so that f's row has e: the two events are synchronous.
use Rattle.std.specs.Prelude.{◌≡◌, List, ℕ, ◌≤◌, ◌<◌, min, max}
use Rattle.std.proofs.Common.{sym, ◌∙◌, arith}
use Rattle.std.proofs.Math.Path.{ap}
use Rattle.std.proofs.Math.Nat.{le_antisymm}
use Rattle.std.proofs.Math.Decide.{dec_le}
use Rattle.order.specs.Below.{sum_below, sum_lt}
use Rattle.order.specs.Order.{Order}
use Rattle.bit_sets.specs.Sets.{has, has-most}
use Rattle.bit_sets.specs.declared.Set.{Set}
use Rattle.bit_sets.specs.Sums.{sum_same}
use Rattle.set_rows.specs.Sets.{set_of}
use Rattle.row_facts.specs.Counts.{set-size}
use Rattle.row_independence.specs.Pairs.{ordered, synchronous}
use Rattle.row_independence.specs.Ordered.{row_size}
use Rattle.row_independence.proofs.Ordered.{ordered-is}
use Rattle.row_independence.specs.Alike.{ByRows}

-- a part of the size of the whole is the whole
whole : (n : ℕ) (h k : ℕ → ℕ) → ((g : ℕ) → g < n → h g ≤ k g) → sum_below n h ≡ sum_below n k
    → (g : ℕ) → g < n → h g ≡ k g
whole n h k p q g l = elim (dec_le (k g) (h g)) [
  | yes i ↦ le_antisymm (p g l) i
  | no i ↦ absurd (omega (arith, sum_lt n h k p g l (omega arith)))
]

module _ (n : ℕ) (c : ℕ → ℕ → ℕ) (o : Order n c) where
  part : (e f : ℕ) → e < n → f < n → 0 < c e f → (g : ℕ) → g < n → ordered c f g ≤ ordered c e g
  part e f l m p g i = elim (dec_le 1 (c f g)) [
    | yes q ↦ omega (arith, ordered-is c f g, ordered-is c e g, o.trans e f g l m i p q)
    | no q ↦ omega (arith, ordered-is c f g)
  ]

  same_size : (e f : ℕ) → e < n → f < n → 0 < c e f → 0 < c f e → row_size n c f ≡ row_size n c e
  unfolding row_size
  same_size e f l m p q = sum_same n _ _ (λ g i. le_antisymm (part e f l m p g i) (part f e m l q g i))

  same_row : (e f : ℕ) → e < n → f < n → 0 < c e e → 0 < c e f → row_size n c f ≡ row_size n c e → 0 < c f e
  unfolding row_size
  same_row e f l m p q s =
      omega (arith, ordered-is c e e, ordered-is c f e, whole n (ordered c f) (ordered c e) (part e f l m q) s e l)

-- of those sorted with e, just the ones in its row are synchronous with it
module _ (n : ℕ) (c : ℕ → ℕ → ℕ) (o : Order n c) (e : ℕ) (l : e < n) (q : 0 < ordered c e e)
    (b : List ℕ) (h : ByRows n c e b) where
  among : (f : ℕ) → f < e → 0 < c e f → has (set_of b (row_size n c e)) f ≡ ordered c f e
  among f i p = elim (dec_le 1 (c f e)) [
    | yes z ↦
        let m : f < n = omega arith in
        let t : max (c f e) (c e f) ≤ c f f = o.trans f e f m l m z p in
        ap (λ (s : ℕ). has (set_of b s) f) (sym (same_size n c o e f l m p z))
        ∙ h.all f (i, omega (arith, ordered-is c f f)) ∙ omega (arith, ordered-is c f e)
    | no z ↦ elim (dec_le 1 (has (set_of b (row_size n c e)) f)) [
      | yes y ↦
          let r = h.fair (row_size n c e) f (omega (arith, has-most (set_of b (row_size n c e)) f)) in
          absurd (z (same_row n c o e f l (omega arith) (omega (arith, ordered-is c e e)) p r.1))
      | no y ↦ omega (arith, ordered-is c f e)
    ]
  ]

  pub alike_size : (k : ℕ) (x y s : Set) → k ≡ row_size n c e → x ≡ set_of b k → ((f : ℕ) → has y f ≡ ordered c e f)
      → ((f : ℕ) → has s f ≡ min (has x f) (has y f)) → n ≤ 128 → sum_below 128 (has s) ≡ sum_below e (synchronous c e)
  unfolding synchronous
  alike_size k x y s hk hx hy hs few = set-size s e (synchronous c e) (omega arith) same beyond
    where
      from : (f : ℕ) → has x f ≡ has (set_of b (row_size n c e)) f
      from f = ap (λ (z : Set). has z f) (hx ∙ ap (set_of b) hk)

      same : (f : ℕ) → f < e → has s f ≡ min (ordered c e f) (ordered c f e)
      same f i = elim (dec_le 1 (c e f)) [
        | yes p ↦ omega (arith, hs f, hy f, from f, among f i p)
        | no p ↦ omega (arith, hs f, hy f, ordered-is c e f)
      ]

      beyond : (f : ℕ) → e ≤ f → has s f ≡ 0
      beyond f i = elim (dec_le 1 (has x f)) [
        | yes p ↦ absurd (omega (arith, (h.fair (row_size n c e) f (omega (arith, from f, has-most x f))).0.0))
        | no p ↦ omega (arith, hs f)
      ]
