-- The tests of a record's closed order, `is_strictly_before` and `is_not_later`, are those of paths of pairs.
use Rattle.std.specs.Prelude.{◌≡◌, ◌⊎◌, ◌≢◌, ◌↔◌, Bool, true, false, ◌&&◌, ◌||◌, cond, List, [], ◌∷◌, length, eqb, ltb, leb}
use Rattle.std.proofs.Math.Path.{refl}
use Rattle.std.proofs.Common.{sym, ap, ◌∙◌, arith}
use Rattle.std.proofs.Math.Logic.{inl, inr}
use Prim.Native.Nat.{ℕ, zero, suc, ◌≤◌, ◌<◌, max}
use Rattle.std.proofs.Math.Nat.{le_trans}
use Rattle.std.proofs.Math.Bool.{not, or-true}
use borrow.Author.Tests.{eq-eqb, ne_eqb, eqb-true, eqb-false, lt-ltb, le-leb, leb-true}
use Rattle.spec.specs.Lists.{In, any, greatest}
use Rattle.spec.specs.Net.{Net}
use Rattle.spec.specs.Record.{RunRecord}
use Rattle.spec.specs.Order.{Pair, pairs, Path, single, then, StrictlyBefore, NotLater, is_pair, reach, has_path, path_by, is_strictly_before, is_not_later}
use Rattle.spec.specs.Process.{Process, WellFormed}
use Rattle.spec.specs.Checking.{related, ordered}
use Rattle.order.specs.Join.{join}
use Rattle.order.specs.Closure.{col, step, close}
use Rattle.order.proofs.Closure.{close-bound}
use Rattle.order.specs.Diamond.{entry}
use Rattle.lists.specs.Laws
use Rattle.runs.specs.Sources.{bounded}
use Rattle.runs.specs.Values.{pair_at, value_at, order_of, value_pos, pair_ends, pair-most, cast, path-append, path-pos, strict-order, weak-order, order}

-- ---- `reach` is the closure of the pairs as numbers, with every value but 0 read as true

pos-join : (a b : ℕ) → ltb 0 (join a b) ≡ (ltb 0 a && ltb 0 b)
unfolding join
pos-join zero b = refl
pos-join (suc a) zero = rw (lt-ltb 0 (suc a) (omega arith))
pos-join (suc a) (suc b) = rw (lt-ltb 0 (suc a) (omega arith), lt-ltb 0 (suc b) (omega arith), lt-ltb 0 (max (suc a) (suc b)) (omega arith))

absorb : (a b : Bool) → (a || (a && b)) ≡ a
absorb true b = refl
absorb false b = refl

pos-step : (c : ℕ → ℕ → ℕ) (k e f : ℕ) → ltb 0 (step c k e f) ≡ (ltb 0 (c e f) || (ltb 0 (c e k) && ltb 0 (c k f)))
unfolding step col
pos-step c k e f = rw (
  Laws.leb-max 1 (c e f) (join (col c k e) (c k f)),
  pos-join (col c k e) (c k f),
  Laws.leb-max 1 (c e k) (join (c e k) (c k k)),
  pos-join (c e k) (c k k),
  absorb (ltb 0 (c e k)) (ltb 0 (c k k)),
)

pos-pairs : (ps : List Pair) (e f : ℕ) → any (is_pair e f) ps ≡ ltb 0 (pair_at ps e f)
unfolding any pair_at greatest
pos-pairs [] e f = refl
pos-pairs (q ∷ ps) e f = rw (Laws.leb-max 1 (value_at e f q) (pair_at ps e f), value_pos e f q, pos-pairs ps e f)

reach-is : (ps : List Pair) (k e f : ℕ) → reach ps k e f ≡ ltb 0 (close (pair_at ps) k e f)
unfolding reach close
reach-is ps zero e f = pos-pairs ps e f
reach-is ps (suc k) e f = rw (pos-step (close (pair_at ps) k) k e f, reach-is ps k e f, reach-is ps k e k, reach-is ps k k f)

-- ---- paths as the tests look for them

module _ (ps : List Pair) where
  -- some path from e to f, and one that may have no pair at all
  abbrev Some : ℕ → ℕ → Type 0
  Some e f = (s : Bool) × Path ps s e f

  abbrev To : ℕ → ℕ → Type 0
  To e f = (e ≡ f) ⊎ Some e f

  reach-path : (k e f : ℕ) → reach ps k e f ≡ true → Some e f
  unfolding reach
  reach-path zero e f h =
      let r : (q : Pair) × In q ps × (is_pair e f q ≡ true) = Laws.any_found (is_pair e f) ps h in
      let z = pair_ends r.0 r.2 in
      (r.0.strict, cast refl z.0 z.1 (single r.0 r.1))
  reach-path (suc k) e f h = elim (Laws.or-true (reach ps k e f) (reach ps k e k && reach ps k k f) h) [
    | inl a ↦ reach-path k e f a
    | inr a ↦
        let z = Laws.and-true (reach ps k e k) (reach ps k k f) a in
        let p : Some e k = reach-path k e k z.0 in
        let q : Some k f = reach-path k k f z.1 in
        (p.0 || q.0, path-append p.1 q.1)
  ]

  -- a path with a strict pair is a way to a strict pair and a way on
  abbrev By : ℕ → ℕ → Type 0
  By e f = (q : Pair) × In q ps × (q.strict ≡ true) × To e q.source × To q.target f

  path-by : {s : Bool} {e f : ℕ} → Path ps s e f → s ≡ true → By e f
  path-by (single q m) h = (q, m, h, inl refl, inl refl)
  path-by (then q {s} {f} m p) h = go q.strict refl h (λ j. path-by p j)
    where
      lead : (x : ℕ) → To q.target x → Some q.source x
      lead x (inl z) = (q.strict, cast refl refl z (single q m))
      lead x (inr w) = (q.strict || w.0, then q m w.1)

      go : (x : Bool) → q.strict ≡ x → (x || s) ≡ true → (s ≡ true → By q.target f) → By q.source f
      go true i k r = (q, m, i, inl refl, inr (s, p))
      go false i k r = let z : By q.target f = r k in (z.0, z.1, z.2, inr (lead z.0.source z.3), z.4)

  lead-in : {e g f : ℕ} → To e g → Path ps true g f → Path ps true e f
  lead-in (inl z) p = cast refl (sym z) refl p
  lead-in (inr w) p = cast (or-true w.0) refl refl (path-append w.1 p)

  lead-out : {e g f : ℕ} → Path ps true e g → To g f → Path ps true e f
  lead-out p (inl z) = cast refl refl z p
  lead-out p (inr w) = path-append p w.1

  by-path : {e f : ℕ} → By e f → Path ps true e f
  by-path r = lead-in r.3 (lead-out (cast r.2 refl refl (single r.0 r.1)) r.4)

-- ---- of a well-formed record: no path leaves its events

module _ (N : Net) (R : RunRecord) (W : WellFormed N R) where
  path-is : (e f : ℕ) → (has_path R e f ≡ true) ↔ Some (pairs R) e f
  unfolding has_path
  path-is e f = (
    reach-path (pairs R) (length R.events) e f,
    λ p. reach-is (pairs R) (length R.events) e f ∙ lt-ltb _ _ (path-pos (pairs R) _ (bounded N R W) p.1),
  )

  to_is : (e f : ℕ) → ((eqb e f || has_path R e f) ≡ true) ↔ To (pairs R) e f
  to_is e f = (
    λ h. elim (Laws.or-true (eqb e f) (has_path R e f) h) [ inl z ↦ inl (eqb-true e f z) | inr z ↦ inr ((path-is e f).0 z) ],
    λ h. elim h [ inl z ↦ Laws.true-or-l (has_path R e f) (eq-eqb e f z) | inr z ↦ Laws.true-or-r (eqb e f) ((path-is e f).1 z) ],
  )

  strict-path : (e f : ℕ) → is_strictly_before R e f ≡ true → StrictlyBefore R e f
  unfolding is_strictly_before path_by
  strict-path e f h =
      let r : (q : Pair) × In q (pairs R) × (path_by R e f q ≡ true) = Laws.any_found (path_by R e f) (pairs R) h in
      let x = Laws.and-true _ _ r.2 in
      let y = Laws.and-true _ _ x.0 in
      by-path (pairs R) (r.0, r.1, y.0, (to_is e r.0.source).0 y.1, (to_is r.0.target f).0 x.1)

  path-strict : (e f : ℕ) → StrictlyBefore R e f → is_strictly_before R e f ≡ true
  unfolding is_strictly_before path_by
  path-strict e f p =
      let r : By (pairs R) e f = path-by (pairs R) p refl in
      Laws.any-in (path_by R e f) r.0 (pairs R) r.1 (Laws.true-and (Laws.true-and r.2 ((to_is e r.0.source).1 r.3)) ((to_is r.0.target f).1 r.4))

  pub strict-is : (e f : ℕ) → (is_strictly_before R e f ≡ true) ↔ StrictlyBefore R e f
  strict-is e f = (strict-path e f, path-strict e f)

  pub weak-is : (e f : ℕ) → (is_not_later R e f ≡ true) ↔ NotLater R e f
  unfolding is_not_later
  weak-is e f = (
    λ h. let z = Laws.and-true (not (eqb e f)) (has_path R e f) h in (eqb-false e f (Laws.not-is-true _ z.0), (path-is e f).0 z.1),
    λ h. Laws.true-and (ap not (ne_eqb e f h.0)) ((path-is e f).1 h.1),
  )

-- ---- the tests on the values of the closed order: 2 is strictly before, and two different events with a value are ordered

module _ (N : Net) (R : RunRecord) (W : WellFormed N R) (e f : ℕ) (l : e < length R.events) (m : f < length R.events) where
  pub strict-test : is_strictly_before R e f ≡ leb 2 (order_of R e f)
  strict-test = Laws.same_tests _ _ (
    λ h. le-leb 2 (order_of R e f) ((strict-order N R W e f l m).1 ((strict-is N R W e f).0 h)),
    λ h. (strict-is N R W e f).1 ((strict-order N R W e f l m).0 (leb-true 2 (order_of R e f) h)),
  )

  pub ordered-test : e ≢ f → ordered R e f ≡ leb 1 (order_of R e f)
  unfolding ordered
  ordered-test d = Laws.same_tests _ _ (
    λ h. le-leb 1 (order_of R e f) (elim (Laws.or-true (is_strictly_before R e f) (is_not_later R e f) h) [
      | inl z ↦ le_trans (omega arith) ((strict-order N R W e f l m).1 ((strict-is N R W e f).0 z))
      | inr z ↦ ((weak-order N R W e f l m).1 ((weak-is N R W e f).0 z)).1
    ]),
    λ h. Laws.true-or-r (is_strictly_before R e f) ((weak-is N R W e f).1 ((weak-order N R W e f l m).0 (d, leb-true 1 (order_of R e f) h))),
  )

-- ---- the check's table: the values of the closed order, and 0 for an event and itself

table-value : (same : Bool) (x : ℕ) → x ≤ 2 → (same ≡ true → x < 2) → cond (leb 2 x) 2 (cond (not same && ltb 0 x) 1 0) ≡ cond same 0 x
table-value true zero l h = refl
table-value true (suc zero) l h = refl
table-value true (suc (suc x)) l h = absurd (omega (arith, h refl))
table-value false zero l h = refl
table-value false (suc zero) l h = refl
table-value false (suc (suc zero)) l h = refl
table-value false (suc (suc (suc x))) l h = absurd (omega arith)

module _ (N : Net) (R : RunRecord) (W : WellFormed N R) (P : Process N R) (e f : ℕ) (l : e < length R.events) (m : f < length R.events) where
  pub related-is : related R e f ≡ entry (order_of R) e f
  unfolding related entry is_not_later has_path
  related-is = rw (strict-test N R W e f l m, reach-is (pairs R) (length R.events) e f)
      (table-value (eqb e f) (order_of R e f) (close-bound (pair_at (pairs R)) (pair-most (pairs R)) _ e f)
      (λ q. rw (← eqb-true e f q) ((order N R W P).acyclic e l)))
