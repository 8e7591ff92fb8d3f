-- The tokens that the events of a step take or make, each with its event and its place, and how many there are.
use Rattle.std.specs.Prelude.{◌≡◌, Bool, ◌&&◌, length, get_or, replicate}
use Rattle.std.proofs.Math.Path.{refl}
use Rattle.std.proofs.Common.{ap, ◌∙◌, le_refl, not-suc-le-zero, le_of_suc-le-suc, eq-eqb, ne_eqb}
use Rattle.std.proofs.Math.Logic.{inl, inr}
use Prim.Native.Nat.{ℕ, zero, suc, ◌+◌, ◌≤◌, ◌<◌}
use native.Mathlib.Omega.{arith}
use Rattle.std.proofs.Math.Bool.{and-true, and-false}
use mathlib.Core.List.Memᴰ
use mathlib.Core.List.{List, [], ◌∷◌, ◌++◌, map}
use Rattle.std.proofs.lemmas.List.{length-replicate, length-map}
use Rattle.std.proofs.Math.Dec.{eqb}
use Rattle.spec.specs.Lists.{In, from, up_to, count, sum_of, flat}
use Rattle.lists.specs.Laws

-- ---- each number as often as a list says

-- a as often as the list's first number says, a + 1 as often as its second, ..
unfoldable pub repeated : ℕ → List ℕ → List ℕ
repeated a [] = []
repeated a (k ∷ ks) = replicate k a ++ repeated (suc a) ks

pub in-repeated : {x : ℕ} (a : ℕ) (ks : List ℕ) → In x (repeated a ks) → (a ≤ x) × (x < a + length ks)
unfolding repeated
in-repeated a [] m = absurd (Memᴰ.not-nil m)
in-repeated a (k ∷ ks) m = elim (Memᴰ.append_cases (replicate k a) m) [
  | inl b ↦ let e = Laws.in-replicate k b in (omega arith, omega arith)
  | inr b ↦ let r = in-repeated (suc a) ks b in (omega arith, omega arith)
]

pub count-repeated : (q a : ℕ) (ks : List ℕ) (i : ℕ) → q ≡ a + i → count (λ p. eqb p q) (repeated a ks) ≡ get_or ks i 0
unfolding repeated
count-repeated q a [] i e = unfold count in refl
count-repeated q a (k ∷ ks) zero e = omega (
  arith,
  Laws.count-append (λ p. eqb p q) (replicate k a) (repeated (suc a) ks),
  Laws.count-all (λ p. eqb p q) (replicate k a) (λ p m. eq-eqb p q (omega (arith, Laws.in-replicate k m))),
  length-replicate k a,
  Laws.count_none (λ p. eqb p q) (repeated (suc a) ks) (λ p m. ne_eqb p q (λ z. omega (arith, in-repeated (suc a) ks m))),
)
count-repeated q a (k ∷ ks) (suc i) e = omega (
  arith,
  Laws.count-append (λ p. eqb p q) (replicate k a) (repeated (suc a) ks),
  Laws.count_none (λ p. eqb p q) (replicate k a) (λ p m. ne_eqb p q (λ z. omega (arith, Laws.in-replicate k m))),
  count-repeated q (suc a) ks i (omega arith),
)

-- ---- the places of a transition's arcs

-- each place p below n, as often as h says; inputs_of and outputs_of spread a transition's arcs so
unfoldable pub spread : (ℕ → ℕ) → ℕ → List ℕ
spread h n = flat (map (λ p. replicate (h p) p) (up_to n))

spread-repeated : (h : ℕ → ℕ) (n : ℕ) → spread h n ≡ repeated 0 (map h (up_to n))
unfolding spread up_to from flat repeated
spread-repeated h n = go 0 n
  where
    go : (a k : ℕ) → flat (map (λ p. replicate (h p) p) (from a k)) ≡ repeated a (map h (from a k))
    go a zero = refl
    go a (suc k) = ap (λ l. replicate (h a) a ++ l) (go (suc a) k)

count-spread : (h : ℕ → ℕ) (n q : ℕ) → q < n → count (λ p. eqb p q) (spread h n) ≡ h q
count-spread h n q l = ap (count (λ p. eqb p q)) (spread-repeated h n) ∙ count-repeated q 0 (map h (up_to n)) q (omega arith) ∙ Laws.get_or-table h n q 0 l

in-spread : (h : ℕ → ℕ) (n : ℕ) {q : ℕ} → In q (spread h n) → q < n
in-spread h n m = omega (arith, in-repeated 0 (map h (up_to n)) (rw spread-repeated at m), length-map (up_to n) h, Laws.length-up_to n)

-- ---- the tokens of a step

-- a token that an event takes from a place, or makes there
pub record Flow : Type 0 where
  pub event : ℕ
  pub place : ℕ

unfoldable pub flow : ℕ → ℕ → Flow
flow e p = record { event = e; place = p }

abbrev pub in_place : ℕ → Flow → Bool
in_place p x = eqb x.place p

unfoldable pub is_flow : ℕ → ℕ → Flow → Bool
is_flow e p x = in_place p x && eqb x.event e

module _ (h : ℕ → ℕ → ℕ) (n : ℕ) where
  -- those of a step's events, numbered from e, in the places below n: h t p for transition t and place p
  unfoldable pub flows : ℕ → List ℕ → List Flow
  flows e [] = []
  flows e (t ∷ ts) = map (flow e) (spread (h t) n) ++ flows (suc e) ts

  pub in-flows : {x : Flow} (e : ℕ) (ts : List ℕ) → In x (flows e ts) → (e ≤ x.event) × (x.event < e + length ts) × (x.place < n)
  unfolding flows flow
  in-flows e [] m = absurd (Memᴰ.not-nil m)
  in-flows e (t ∷ ts) m = elim (Memᴰ.append_cases (map (flow e) (spread (h t) n)) m) [
    | inl a ↦ let r = Memᴰ.of_map (flow e) (spread (h t) n) a in rw (← r.2) (le_refl e, omega arith, in-spread (h t) n r.1)
    | inr a ↦ let r = in-flows (suc e) ts a in (omega (arith, r.0), omega (arith, r.1), r.2)
  ]

  count-cons : (w : Flow → Bool) (e t : ℕ) (ts : List ℕ) → count w (flows e (t ∷ ts)) ≡ count (λ p. w (flow e p)) (spread (h t) n) + count w (flows (suc e) ts)
  unfolding flows
  count-cons w e t ts = Laws.count-append w (map (flow e) (spread (h t) n)) (flows (suc e) ts) ∙ rw Laws.count_map

  -- as many in a place as the arcs of all the step's transitions have
  pub flows-sum : (q e : ℕ) (ts : List ℕ) → q < n → count (in_place q) (flows e ts) ≡ sum_of (λ t. h t q) ts
  unfolding sum_of flow
  flows-sum q e [] l = unfold flows count in refl
  flows-sum q e (t ∷ ts) l = omega (arith, count-cons (in_place q) e t ts, count-spread (h t) n q l, flows-sum q (suc e) ts l)

  -- none of an event before the step
  pub flows-before : (f q e : ℕ) (ts : List ℕ) → f < e → count (is_flow f q) (flows e ts) ≡ 0
  unfolding is_flow
  flows-before f q e ts l = Laws.count_none (is_flow f q) (flows e ts) (λ x m. rw (ne_eqb x.event f (λ z. omega (arith, (in-flows e ts m).0))) (and-false (eqb x.place q)))

  -- an event of the step has those of its own transition
  pub flows-at : (f q e : ℕ) (ts : List ℕ) (i : ℕ) → f ≡ e + i → i < length ts → q < n → count (is_flow f q) (flows e ts) ≡ h (get_or ts i 0) q
  unfolding is_flow flow
  flows-at f q e [] i d m l = absurd (not-suc-le-zero m)
  flows-at f q e (t ∷ ts) zero d m l = omega (
    arith,
    count-cons (is_flow f q) e t ts,
    Laws.count_same (λ p. is_flow f q (flow e p)) (λ p. eqb p q) (spread (h t) n) (λ p m. rw (eq-eqb e f (omega arith)) (and-true (eqb p q))),
    count-spread (h t) n q l,
    flows-before f q (suc e) ts (omega arith),
  )
  flows-at f q e (t ∷ ts) (suc i) d m l = omega (
    arith,
    count-cons (is_flow f q) e t ts,
    Laws.count_none (λ p. is_flow f q (flow e p)) (spread (h t) n) (λ p m. rw (ne_eqb e f (omega arith)) (and-false (eqb p q))),
    flows-at f q (suc e) ts i (omega arith) (le_of_suc-le-suc m) l,
  )
