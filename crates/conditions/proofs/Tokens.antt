-- The tokens of an event, place by place, and of a step, event by event.
use Prim.Native.Nat.{ℕ, zero, suc, ◌+◌, ◌-◌, ◌≤◌, ◌<◌}
use native.Mathlib.Nat.{le_trans, le_of_eq}
use mathlib.Core.Path.{◌≡◌, refl, sym, ap, ap₂, ◌∙◌}
use mathlib.Core.List.{List, [], ◌∷◌, ◌++◌, map, map-append, append-nil, append_assoc}
use native.Mathlib.Omega.{arith}
use native.Mathlib.Numerals.{add-one}
use lib.ListN.{length, get_or, take, drop, replicate, length-append, length-replicate}
use lib.Seq.{take-suc, take-add, take-length, length-take-le}
use Rattle.spec.specs.Lists.{from, up_to, flat}
use Rattle.lists.specs.Laws
use Rattle.bit_sets.specs.Bits.{bit}
use Rattle.arc_sets.specs.Sets.{weight_at, arc_at}
use Rattle.arc_sets.specs.Weights.{weight-none}
use Rattle.runs.specs.Flows.{flow, spread, flows}
use Rattle.conditions.specs.Conditions.{tokens_of}

pub spread-more : (h : ℕ → ℕ) (p : ℕ) → spread h (p + 1) ≡ spread h p ++ replicate (h p) p
unfolding spread
spread-more h p =
    ap (λ z. flat (map (λ q. replicate (h q) q) z)) (ap up_to (add-one p) ∙ Laws.up_to-snoc p)
    ∙ ap flat (map-append (λ q. replicate (h q) q) (up_to p) (p ∷ []))
    ∙ Laws.flat_append (map (λ q. replicate (h q) q) (up_to p)) (replicate (h p) p ∷ [])
    ∙ ap (λ z. flat (map (λ q. replicate (h q) q) (up_to p)) ++ z) (unfold flat in (append-nil (replicate (h p) p)))

module _ (sets : List ℕ) (row e : ℕ) where
  -- the next place
  pub tokens-next : (p k : ℕ) → k ≡ weight_at sets row p → tokens_of sets row e p ++ replicate k (flow e p) ≡ tokens_of sets row e (p + 1)
  unfolding tokens_of
  tokens-next p k q = rw q (sym (ap (map (flow e)) (spread-more (weight_at sets row) p)
      ∙ map-append (flow e) (spread (weight_at sets row) p) (replicate (weight_at sets row p) p)
      ∙ ap (λ z. map (flow e) (spread (weight_at sets row) p) ++ z) (Laws.map-replicate (flow e) (weight_at sets row p) p)))

  pub tokens_none : tokens_of sets row e 0 ≡ []
  unfolding tokens_of spread up_to from flat
  tokens_none = refl

  -- places that the row has not have no token
  tokens-pass : (d k : ℕ) → ((j : ℕ) → d ≤ j → j < d + k → bit (get_or sets row 0) j ≡ 0) → tokens_of sets row e d ≡ tokens_of sets row e (d + k)
  tokens-pass d zero z = ap (tokens_of sets row e) (omega arith)
  tokens-pass d (suc k) z =
      let q : d + k + 1 ≡ d + suc k = omega arith in
      tokens-pass d k (λ j l h. z j l (omega arith))
      ∙ sym (append-nil (tokens_of sets row e (d + k)))
      ∙ tokens-next (d + k) 0 (sym (weight-none sets row (d + k) (z (d + k) (omega arith) (omega arith))))
      ∙ ap (tokens_of sets row e) q

  pub tokens-skip : (d i : ℕ) → d ≤ i → ((j : ℕ) → d ≤ j → j < i → bit (get_or sets row 0) j ≡ 0) → tokens_of sets row e d ≡ tokens_of sets row e i
  tokens-skip d i h z = tokens-pass d (i - d) (λ j l k. z j l (omega arith)) ∙ ap (tokens_of sets row e) (omega arith)

-- all that an event moves
tokens-all : (sets : List ℕ) (at t e : ℕ) → tokens_of sets (at + t) e 64 ≡ map (flow e) (spread (arc_at sets at t) 64)
unfolding tokens_of arc_at
tokens-all sets at t e = refl

-- the next event
flows-append : (h : ℕ → ℕ → ℕ) (m e : ℕ) (ss ts : List ℕ) → flows h m e (ss ++ ts) ≡ flows h m e ss ++ flows h m (e + length ss) ts
unfolding flows
flows-append h m e [] ts = ap (λ (z : ℕ). flows h m z ts) (omega arith)
flows-append h m e (s ∷ ss) ts =
    ap (λ z. map (flow e) (spread (h s) m) ++ z) (flows-append h m (suc e) ss ts ∙ ap (λ (z : ℕ). flows h m (suc e) ss ++ flows h m z ts) (omega arith))
    ∙ sym (append_assoc (map (flow e) (spread (h s) m)) (flows h m (suc e) ss) (flows h m (e + suc (length ss)) ts))

flows-last : (h : ℕ → ℕ → ℕ) (m e : ℕ) (ts : List ℕ) (i t : ℕ) → i < length ts → t ≡ get_or ts i 0
    → flows h m e (take i ts) ++ map (flow (e + i)) (spread (h t) m) ≡ flows h m e (take (i + 1) ts)
unfolding flows
flows-last h m e ts i t l q = sym (
    ap (flows h m e) (ap (λ (z : ℕ). take z ts) (add-one i) ∙ take-suc ts i 0 l)
    ∙ flows-append h m e (take i ts) (get_or ts i 0 ∷ [])
    ∙ ap₂ (λ (z s : ℕ). flows h m e (take i ts) ++ (map (flow z) (spread (h s) m) ++ [])) (omega (arith, length-take-le i ts (omega arith))) (sym q)
    ∙ ap (λ z. flows h m e (take i ts) ++ z) (append-nil (map (flow (e + i)) (spread (h t) m)))
    )

pub flows-next : (sets : List ℕ) (at e : ℕ) (ts : List ℕ) (i t : ℕ) → i < length ts → t ≡ get_or ts i 0
    → flows (arc_at sets at) 64 e (take i ts) ++ tokens_of sets (at + t) (e + i) 64 ≡ flows (arc_at sets at) 64 e (take (i + 1) ts)
flows-next sets at e ts i t l q =
    ap (λ z. flows (arc_at sets at) 64 e (take i ts) ++ z) (tokens-all sets at t (e + i))
    ∙ flows-last (arc_at sets at) 64 e ts i t l q

-- by the rows that stand in front
pub inputs-next : (sets : List ℕ) (e : ℕ) (ts : List ℕ) (i t : ℕ) → i < length ts → t ≡ get_or ts i 0
    → flows (arc_at sets 0) 64 e (take i ts) ++ tokens_of sets t (e + i) 64 ≡ flows (arc_at sets 0) 64 e (take (i + 1) ts)
inputs-next sets e ts i t l q = ap (λ (z : ℕ). flows (arc_at sets 0) 64 e (take i ts) ++ tokens_of sets z (e + i) 64) (omega arith) ∙ flows-next sets 0 e ts i t l q

pub flows-none : (h : ℕ → ℕ → ℕ) (m e : ℕ) → flows h m e [] ≡ []
unfolding flows
flows-none h m e = refl

-- ---- how many there are

module _ (sets : List ℕ) (row e : ℕ) where
  next-length : (p k : ℕ) → k ≡ weight_at sets row p → length (tokens_of sets row e (p + 1)) ≡ length (tokens_of sets row e p) + k
  next-length p k q =
      ap length (sym (tokens-next sets row e p k q))
      ∙ length-append (tokens_of sets row e p) (replicate k (flow e p))
      ∙ ap (λ (z : ℕ). length (tokens_of sets row e p) + z) (length-replicate k (flow e p))

  more-places : (p d : ℕ) → length (tokens_of sets row e p) ≤ length (tokens_of sets row e (p + d))
  more-places p zero = le_of_eq (ap (λ (z : ℕ). length (tokens_of sets row e z)) (omega arith))
  more-places p (suc d) =
      let q : p + 1 + d ≡ p + suc d = omega arith in
      le_trans (omega (arith, next-length p _ refl)) (rw q at (more-places (p + 1) d))

  -- those of the places up to p are among those of all
  pub place-fits : (p m k : ℕ) → p < m → k ≡ weight_at sets row p → length (tokens_of sets row e p) + k ≤ length (tokens_of sets row e m)
  place-fits p m k l q =
      let d : m ≡ p + 1 + (m - (p + 1)) = omega arith in
      rw d (le_trans (le_of_eq (sym (next-length p k q))) (more-places (p + 1) (m - (p + 1))))

-- those of the events up to i are among those of the first n
pub event-fits : (sets : List ℕ) (at e : ℕ) (ts : List ℕ) (i n t : ℕ) → i < n → n ≤ length ts → t ≡ get_or ts i 0
    → length (flows (arc_at sets at) 64 e (take i ts)) + length (tokens_of sets (at + t) (e + i) 64) ≤ length (flows (arc_at sets at) 64 e (take n ts))
event-fits sets at e ts i n t l h q =
    let xs = take (i + 1) ts in
    let ys = take (n - (i + 1)) (drop (i + 1) ts) in
    let k : n ≡ i + 1 + (n - (i + 1)) = omega arith in
    omega (
      arith,
      length-append (flows (arc_at sets at) 64 e (take i ts)) (tokens_of sets (at + t) (e + i) 64),
      ap length (flows-next sets at e ts i t (omega arith) q),
      length-append (flows (arc_at sets at) 64 e xs) (flows (arc_at sets at) 64 (e + length xs) ys),
      ap length (flows-append (arc_at sets at) 64 e xs ys),
      ap (λ z. length (flows (arc_at sets at) 64 e z)) (ap (λ (z : ℕ). take z ts) k ∙ take-add (i + 1) (n - (i + 1)) ts),
    )

-- the same, of all the events that a walk goes over
pub walked-fits : (sets : List ℕ) (at e : ℕ) (ts : List ℕ) (i t : ℕ) → i < length ts → t ≡ get_or ts i 0
    → length (flows (arc_at sets at) 64 e (take i ts)) + length (tokens_of sets (at + t) (e + i) 64) ≤ length (flows (arc_at sets at) 64 e ts)
walked-fits sets at e ts i t l q = rw take-length at (event-fits sets at e ts i (length ts) t l (omega arith) q)
