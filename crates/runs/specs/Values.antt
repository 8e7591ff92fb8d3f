-- The closed order of a record as a relation with the values 0, 1, 2, which crate `order` speaks of: 2 where a path of pairs
-- has a strict one, 1 or 2 where there is a path.
use Rattle.std.specs.Prelude.{◌≡◌, ◌≢◌, ◌↔◌, ℕ, ◌≤◌, ◌<◌, max, Bool, false, ◌||◌, cond, List, map, length, ltb, leb}
use Rattle.std.proofs.Math.Path.{refl, sym}
use Rattle.std.proofs.Common.{ap, ◌∙◌, zero-le, le_refl, le_trans, arith}
use Rattle.std.proofs.Math.Decide.{dec_le}
use Rattle.std.proofs.Math.Bool.{true, or_assoc}
use mathlib.Core.List.Memᴰ
use borrow.Author.Tests.{eq-eqb, eqb-true, lt-ltb, le-leb}
use Rattle.spec.specs.Lists.{In, greatest}
use Rattle.spec.specs.Net.{Net}
use Rattle.spec.specs.Record.{RunRecord}
use Rattle.spec.specs.Order.{Pair, pairs, Path, single, then, StrictlyBefore, NotLater, is_pair}
use Rattle.spec.specs.Process.{Process, WellFormed}
use Rattle.order.specs.Closure.{close}
use Rattle.order.proofs.Closure.{close-least, close-trans}
use Rattle.order.specs.Paths
use Rattle.order.specs.Order.{Order}
use Rattle.order.proofs.Order.{closed}
use Rattle.order.specs.Paths.{one, more}
use Rattle.order.proofs.Paths.{sound}
use Rattle.lists.specs.Laws
use Rattle.runs.specs.Pairs.{Bounded}
use Rattle.runs.specs.Sources.{bounded}

-- 2 for a strict pair, 1 for a weak one
unfoldable pub weight : Bool → ℕ
weight true = 2
weight false = 1

-- what a pair says of e and f: its weight, if it stands between them
unfoldable pub value_at : ℕ → ℕ → Pair → ℕ
value_at e f q = cond (is_pair e f q) (weight q.strict) 0

-- the greatest of the pairs from e to f, 0 if there is none
unfoldable pub pair_at : List Pair → ℕ → ℕ → ℕ
pair_at ps e f = greatest (map (value_at e f) ps)

-- the closed order of a record: 2 strictly before, 1 only not later, 0 neither
abbrev pub order_of : RunRecord → ℕ → ℕ → ℕ
order_of R = close (pair_at (pairs R)) (length R.events)

weight-pos : (s : Bool) → 0 < weight s
unfolding weight
weight-pos true = omega arith
weight-pos false = omega arith

weight-most : (s : Bool) → weight s ≤ 2
unfolding weight
weight-most true = omega arith
weight-most false = omega arith

weight-or : (s t : Bool) → weight (s || t) ≤ max (weight s) (weight t)
unfolding weight
weight-or true t = omega arith
weight-or false t = omega arith

weight-two : (s : Bool) {v : ℕ} → weight s ≡ v → s ≡ leb 2 v
unfolding weight
weight-two true q = rw (← q)
weight-two false q = rw (← q)

pub value_pos : (e f : ℕ) (q : Pair) → ltb 0 (value_at e f q) ≡ is_pair e f q
unfolding value_at
value_pos e f q = go (is_pair e f q)
  where
    go : (b : Bool) → ltb 0 (cond b (weight q.strict) 0) ≡ b
    go true = lt-ltb _ _ (weight-pos q.strict)
    go false = refl

value-most : (e f : ℕ) (q : Pair) → value_at e f q ≤ 2
unfolding value_at
value-most e f q = go (is_pair e f q)
  where
    go : (b : Bool) → cond b (weight q.strict) 0 ≤ 2
    go true = weight-most q.strict
    go false = zero-le

pub pair_ends : {e f : ℕ} (q : Pair) → is_pair e f q ≡ true → (q.source ≡ e) × (q.target ≡ f)
unfolding is_pair
pair_ends q h = let r = Laws.and-true _ _ h in (eqb-true _ _ r.0, eqb-true _ _ r.1)

ends-pair : (q : Pair) → is_pair q.source q.target q ≡ true
unfolding is_pair
ends-pair q = Laws.true-and (eq-eqb q.source _ refl) (eq-eqb q.target _ refl)

module _ (ps : List Pair) where
  pub pair-above : (q : Pair) → In q ps → weight q.strict ≤ pair_at ps q.source q.target
  unfolding pair_at value_at
  pair-above q m = rw (ends-pair q) at (Laws.greatest-above _ _ (Memᴰ.map (value_at q.source q.target) m))

  pub pair_found : (e f : ℕ) → 0 < pair_at ps e f → (q : Pair) × In q ps × (q.source ≡ e) × (q.target ≡ f) × (weight q.strict ≡ pair_at ps e f)
  unfolding pair_at value_at
  pair_found e f h =
      let r : (q : Pair) × In q ps × (value_at e f q ≡ pair_at ps e f) = Memᴰ.of_map (value_at e f) ps (Laws.greatest-in _ h) in
      let b : is_pair e f r.0 ≡ true = sym (value_pos e f r.0) ∙ lt-ltb 0 (value_at e f r.0) (omega (arith, r.2)) in
      let z = pair_ends r.0 b in
      (r.0, r.1, z.0, z.1, rw b at r.2)

  pub pair-most : (e f : ℕ) → pair_at ps e f ≤ 2
  unfolding pair_at
  pair-most e f = Laws.greatest-least 2 _ (λ y m. let r = Memᴰ.of_map (value_at e f) ps m in omega (arith, r.2, value-most e f r.0))

-- ---- paths, and the closure of the pairs as numbers

module _ {ps : List Pair} where
  pub cast : {s t : Bool} {e f g h : ℕ} → s ≡ t → e ≡ g → f ≡ h → Path ps s e f → Path ps t g h
  cast x y z p = rw (← x, ← y, ← z) p

  pub path-append : {s t : Bool} {e g f : ℕ} → Path ps s e g → Path ps t g f → Path ps (s || t) e f
  path-append (single q m) r = then q m r
  path-append {t} (then q {s} m p) r = cast (sym (or_assoc q.strict s t)) refl refl (then q m (path-append p r))

module _ (ps : List Pair) (n : ℕ) where
  pair-close : (q : Pair) → In q ps → weight q.strict ≤ close (pair_at ps) n q.source q.target
  pair-close q m = le_trans (pair-above ps q m) (close-least (pair_at ps) n _ _)

  pub path-close : Bounded ps n → {s : Bool} {e f : ℕ} → Path ps s e f → weight s ≤ close (pair_at ps) n e f
  path-close b (single q m) = pair-close q m
  path-close b (then q {s} {f} m p) =
      let x : weight s ≤ close (pair_at ps) n q.target f = path-close b p in
      omega (
        arith,
        weight-or q.strict s,
        pair-close q m,
        close-trans (pair_at ps) n q.source q.target f (b q m).1 (omega (arith, weight-pos q.strict, pair-close q m)) (omega (arith, weight-pos s)),
      )

  pub path-pos : Bounded ps n → {s : Bool} {e f : ℕ} → Path ps s e f → 0 < close (pair_at ps) n e f
  path-pos b {s} p = le_trans (weight-pos s) (path-close b p)

  path-of : {v e f : ℕ} → Paths.Path (pair_at ps) n v e f → Path ps (leb 2 v) e f
  path-of (one {e} {f} a b h) = let r = pair_found ps e f h in cast (weight-two _ r.4) r.2 r.3 (single r.0 r.1)
  path-of (more {v} {e} {g} {f} a h w) =
      let r = pair_found ps e g h in
      let s : (r.0.strict || leb 2 v) ≡ leb 2 (max (pair_at ps e g) v) = ap (λ (z : Bool). z || leb 2 v) (weight-two _ r.4) ∙ sym (Laws.leb-max 2 (pair_at ps e g) v) in
      cast s r.2 refl (then r.0 r.1 (rw r.3 (path-of w)))

  pub close-path : (e f : ℕ) → e < n → f < n → 0 < close (pair_at ps) n e f → Path ps (leb 2 (close (pair_at ps) n e f)) e f
  close-path e f l m h = path-of (sound (pair_at ps) n n (le_refl n) e f l m h)

-- ---- the order of a well-formed record

module _ (N : Net) (R : RunRecord) (W : WellFormed N R) where
  module _ (e f : ℕ) (l : e < length R.events) (m : f < length R.events) where
    pub strict-order : (2 ≤ order_of R e f) ↔ StrictlyBefore R e f
    unfolding weight
    strict-order = (
      λ h. cast (le-leb 2 (order_of R e f) h) refl refl (close-path (pairs R) _ e f l m (le_trans (omega arith) h)),
      path-close (pairs R) (length R.events) (bounded N R W),
    )

    pub some-order : (0 < order_of R e f) ↔ ((s : Bool) × Path (pairs R) s e f)
    some-order = (λ h. (_, close-path (pairs R) _ e f l m h), λ p. path-pos (pairs R) _ (bounded N R W) p.1)

    pub weak-order : ((e ≢ f) × (0 < order_of R e f)) ↔ NotLater R e f
    weak-order = (λ h. (h.0, some-order.0 h.1), λ h. (h.0, some-order.1 h.1))

  -- and of a process: no event is strictly before itself
  pub order : Process N R → Order (length R.events) (order_of R)
  order P = closed (pair_at (pairs R)) (length R.events) (λ e l. elim (dec_le 2 (order_of R e e)) [
    | yes s ↦ absurd (P.acyclic e ((strict-order e e l l).0 s))
    | no s ↦ omega arith
  ])
