-- The conditions of a process in the course of an arrangement that keeps its order: when each comes and when it leaves, and
-- how many of each place have done so.
use Rattle.std.specs.Prelude.{◌≡◌, ℕ, suc, ◌+◌, ◌≤◌, ◌<◌, Bool, ◌&&◌, ◌||◌, List, [], get_or, take}
use Rattle.std.proofs.Math.Path.{refl, sym, ap, subst}
use Rattle.std.proofs.Common.{◌∙◌, le_of_eq}
use Rattle.std.proofs.Math.Logic.{inl, inr}
use native.Mathlib.Omega.{arith}
use Rattle.std.proofs.Math.Bool.{true, false, not, or-not_self, not-not}
use Rattle.std.proofs.Math.Option.{Option, none, some}
use Rattle.std.proofs.Math.ListN.{length}
use Rattle.std.proofs.Math.Dec.{eqb}
use borrow.Author.Tests.{eqb-true, ltb-true, lt-ltb, le-ltb}
use Rattle.spec.specs.Lists.{In, count, sum_of, as_count, flat}
use Rattle.spec.specs.Net.{Net, places, takes, makes, inhibits, reads}
use Rattle.spec.specs.Step.{tokens_at, taken, made}
use Rattle.spec.specs.Record.{RunRecord, Condition, no_condition, Mark, names, is_none, slot_of, guard_slot, is_at, due, transition_of, condition_at}
use Rattle.spec.specs.Order.{pairs}
use Rattle.spec.specs.Process.{Process, WellFormed, is_below, initial_in, consumed_in, produced_in, read_in, wrong_end}
use Rattle.spec.specs.Building.{is_free}
use Rattle.spec.specs.Arrangement.{Arrangement, index}
use Rattle.spec.specs.Replaying.{fired_by}
use Rattle.spec.specs.Runs.{KeepsOrder}
use Rattle.spec.specs.declared.MarkKind.{MarkKind}
use Rattle.spec.specs.declared.MarkKind.TheVariants.{Before, After, Read}
use Rattle.lists.specs.Laws
use Rattle.runs.specs.MarkSlots.{read-kind}
use Rattle.runs.specs.Pairs.{KeepsPairs, order-pairs}
use Rattle.runs.specs.Sources.{bounded, marked-in, condition-pair, before-pair, after-pair, made-read, read_taken}
use Rattle.runs.specs.Lines.{stands, line-below, line-inside, line-index, first-inside, first-lines}

-- A condition came with the first k lines: it is initial, or one of their events produces it.
unfoldable pub came : List (List ℕ) → ℕ → Condition → Bool
came lines k c = is_none c.producer || stands lines k c.producer

-- It has left with them: one of their events consumes it.
unfoldable pub left : List (List ℕ) → ℕ → Condition → Bool
left lines k c = stands lines k c.consumer

-- It is of place p and holds after the first k lines.
unfoldable pub holds : List (List ℕ) → ℕ → ℕ → Condition → Bool
holds lines k p c = eqb c.place p && (came lines k c && not (left lines k c))

-- how many of place p came, and how many have left
abbrev pub came_at : RunRecord → List (List ℕ) → ℕ → ℕ → ℕ
came_at R lines k p = count (λ c. eqb c.place p && came lines k c) R.conditions

abbrev pub left_at : RunRecord → List (List ℕ) → ℕ → ℕ → ℕ
left_at R lines k p = count (λ c. eqb c.place p && left lines k c) R.conditions

-- ---- the tokens that the events of the first k lines take and make are conditions that they consume and produce

module _ (N : Net) (R : RunRecord) (lines : List (List ℕ)) (A : Arrangement (length R.events) lines) (k p : ℕ) where
  -- one condition, counted at each event that it names
  named-once : (b : Bool) (a : Option ℕ) → is_below (length R.events) a ≡ true → sum_of (λ e. as_count (b && names a e)) (flat (take k lines)) ≡ as_count (b && stands lines k a)
  named-once true a h = sym (Laws.count-sum (names a) (flat (take k lines))) ∙ first-lines _ lines A k a h
  named-once false a h = Laws.sum_of-zero _ (flat (take k lines)) (λ e m. Laws.count-false {b = false} refl) ∙ sym (Laws.count-false {b = false} refl)

  -- for either end of the conditions, and the arcs that it stands for
  arcs-counted : (arc : ℕ → ℕ) (end : Condition → Option ℕ)
      → ((c : Condition) → In c R.conditions → is_below (length R.events) (end c) ≡ true)
      → ((e : ℕ) → e < length R.events → count (λ c. eqb c.place p && names (end c) e) R.conditions ≡ arc (transition_of R e))
      → sum_of arc (fired_by R lines k) ≡ count (λ c. eqb c.place p && stands lines k (end c)) R.conditions
  unfolding fired_by
  arcs-counted arc end w h =
      Laws.sum_of-map arc (transition_of R) (flat (take k lines))
      ∙ Laws.sum_of-same _ _ (flat (take k lines)) (λ e m. sym (h e (first-inside _ lines A k e m)) ∙ Laws.count-sum _ R.conditions)
      ∙ Laws.sum_of-swap (λ e c. as_count (eqb c.place p && names (end c) e)) (flat (take k lines)) R.conditions
      ∙ Laws.sum_of-same _ _ R.conditions (λ c m. named-once (eqb c.place p) (end c) (w c m))
      ∙ sym (Laws.count-sum _ R.conditions)

-- ---- ends

some_end : (a : Option ℕ) → is_none a ≡ false → (e : ℕ) × (a ≡ some e)
unfolding is_none
some_end none h = Laws.clash refl h
some_end (some e) h = (e, refl)

pub named_end : (a : Option ℕ) (e : ℕ) → names a e ≡ true → a ≡ some e
unfolding names
named_end none e h = Laws.clash h refl
named_end (some f) e h = ap some (eqb-true f e h)

module _ (lines : List (List ℕ)) (k : ℕ) where
  -- an initial condition has no event that produces it
  one-or-other : (b : Bool) (a : Option ℕ) → as_count (b && (is_none a || stands lines k a)) ≡ as_count (b && is_none a) + as_count (b && stands lines k a)
  unfolding is_none stands as_count
  one-or-other true none = refl
  one-or-other true (some e) = omega arith
  one-or-other false a = refl

  not-came : (c : Condition) {g : ℕ} → c.producer ≡ some g → k ≤ index g lines → came lines k c ≡ false
  unfolding came is_none stands
  not-came c {g} q h = rw q (le-ltb (index g lines) k h)

  -- it came, if its producer did; it has not left, if its consumer stands later
  has-come : (c : Condition) → ((g : ℕ) → c.producer ≡ some g → index g lines < k) → came lines k c ≡ true
  unfolding came is_none stands
  has-come c h = go c.producer h
    where
      go : (a : Option ℕ) → ((g : ℕ) → a ≡ some g → index g lines < k) → (is_none a || stands lines k a) ≡ true
      go none h = refl
      go (some g) h = lt-ltb (index g lines) k (h g refl)

  not_left : (c : Condition) → ((f : ℕ) → c.consumer ≡ some f → k ≤ index f lines) → left lines k c ≡ false
  unfolding left stands
  not_left c h = go c.consumer h
    where
      go : (a : Option ℕ) → ((f : ℕ) → a ≡ some f → k ≤ index f lines) → stands lines k a ≡ false
      go none h = refl
      go (some f) h = le-ltb (index f lines) k (h f refl)

  has_left : (c : Condition) {f : ℕ} → c.consumer ≡ some f → index f lines < k → left lines k c ≡ true
  unfolding left stands
  has_left c {f} q h = rw q (lt-ltb (index f lines) k h)

-- one test less another that asks more
holds-count : (b x y : Bool) → (y ≡ true → x ≡ true) → as_count (b && x) ≡ as_count (b && y) + as_count (b && (x && not y))
unfolding as_count
holds-count true true true h = refl
holds-count true true false h = refl
holds-count true false true h = Laws.clash (h refl) refl
holds-count true false false h = refl
holds-count false x y h = refl

-- ---- what the order says of a condition

module _ (N : Net) (R : RunRecord) (W : WellFormed N R) (P : Process N R) (lines : List (List ℕ)) (K : KeepsOrder R lines) where
  kept : KeepsPairs (pairs R) (λ e. index e lines)
  kept = order-pairs R (bounded N R W) lines K

  -- what one of the first k + 1 lines consumes was there after the first k
  came-first : (k : ℕ) (c : Condition) → In c R.conditions → left lines (suc k) c ≡ true → came lines k c ≡ true
  unfolding came left is_none stands
  came-first k c i = go c.producer c.consumer refl refl
    where
      go : (a b : Option ℕ) → c.producer ≡ a → c.consumer ≡ b → stands lines (suc k) b ≡ true → (is_none a || stands lines k a) ≡ true
      go a none p q h = Laws.clash h refl
      go none (some f) p q h = refl
      go (some e) (some f) p q h = lt-ltb (index e lines) k (omega (arith, ltb-true (index f lines) (suc k) h, kept.strict _ (condition-pair R i p q) refl))

  left-later : (k : ℕ) (c : Condition) → left lines k c ≡ true → left lines (suc k) c ≡ true
  unfolding left stands
  left-later k c = go c.consumer
    where
      go : (b : Option ℕ) → stands lines k b ≡ true → stands lines (suc k) b ≡ true
      go none h = h
      go (some f) h = lt-ltb (index f lines) (suc k) (omega (arith, ltb-true (index f lines) k h))

  -- a condition with a mark B or A at an event of line k has left by then if it came
  marked-left : (k : ℕ) (m : Mark) → In m R.marks → slot_of m.kind ≡ guard_slot → index m.event lines ≡ k → came lines k (condition_at R m.condition) ≡ true → left lines k (condition_at R m.condition) ≡ true
  unfolding wrong_end slot_of
  marked-left k m i s h = go m.kind refl s (P.kinds m i)
    where
      c : Condition
      c = condition_at R m.condition

      go : (x : MarkKind) → m.kind ≡ x → slot_of x ≡ guard_slot → wrong_end x c ≡ false → came lines k c ≡ true → left lines k c ≡ true
      go Before q s w t = let r = some_end c.producer w in Laws.clash t (not-came lines k c r.1 (omega (arith, kept.weak _ (before-pair R i q r.1))))
      go Read q s w t = absurd (omega arith)
      go After q s w t = let r = some_end c.consumer w in has_left lines k c r.1 (omega (arith, kept.strict _ (after-pair R i q r.1) refl))

  -- where a mark is due there is one
  due-mark : (j e : ℕ) → j < length R.conditions → e < length R.events → due N R j e ≡ true
      → (m : Mark) × In m R.marks × (slot_of m.kind ≡ guard_slot) × (m.condition ≡ j) × (m.event ≡ e)
  unfolding is_at
  due-mark j e l h d =
      let r : (m : Mark) × In m R.marks × (is_at guard_slot j e m ≡ true) = Laws.count-found (is_at guard_slot j e) R.marks (omega (arith, P.marks j e l h, Laws.count-true d)) in
      let z = Laws.and-three _ _ _ r.2 in
      (r.0, r.1, eqb-true _ _ z.0, eqb-true _ _ z.1, eqb-true _ _ z.2)

  -- so has every condition of a place that inhibits an event of line k
  inhibited-left : (k e : ℕ) → In e (get_or lines k []) → (c : Condition) → In c R.conditions → inhibits N c.place (transition_of R e) ≡ true → came lines k c ≡ true → left lines k c ≡ true
  unfolding due
  inhibited-left k e m c i h t = elim (Laws.true-or-false (names c.producer e)) [
    | inl a ↦ Laws.clash t (not-came lines k c (named_end c.producer e a) (le_of_eq (sym (line-index _ lines K.each-once k e m))))
    | inr a ↦
        let r : (j : ℕ) × (j < length R.conditions) × (condition_at R j ≡ c) = Laws.in-at no_condition c R.conditions i in
        let x = due-mark r.0 e r.1 (line-inside _ lines K.each-once k e m) (rw (r.2, h, a)) in
        let y : index x.0.event lines ≡ k = ap (λ (z : ℕ). index z lines) x.4 ∙ line-index _ lines K.each-once k e m in
        subst (λ (d : Condition). came lines k d ≡ true → left lines k d ≡ true) (ap (condition_at R) x.3 ∙ r.2) (marked-left k x.0 x.1 x.2 y) t
  ]

  -- an event of line k that reads place p has a mark R at a condition that holds then
  read-holds : (k p e : ℕ) → p < places N → In e (get_or lines k []) → reads N p (transition_of R e) ≡ true
      → (c : Condition) × In c R.conditions × (holds lines k p c ≡ true)
  unfolding read_in holds slot_of
  read-holds k p e l i h =
      let r : (m : Mark) × In m R.marks × (read_in R e p m ≡ true) =
      Laws.count-found (read_in R e p) R.marks (omega (arith, P.readings e p (line-inside _ lines K.each-once k e i) l, Laws.count-true h)) in
      let z = Laws.and-three _ _ _ r.2 in
      let c : Condition = condition_at R r.0.condition in
      let q : r.0.kind ≡ Read = read-kind r.0.kind (eqb-true _ _ z.0) in
      let d : index r.0.event lines ≡ k = ap (λ (x : ℕ). index x lines) (eqb-true _ _ z.1) ∙ line-index _ lines K.each-once k e i in (
        c,
        marked-in N R W r.0 r.1,
        Laws.true-and z.2 (Laws.true-and
            (has-come lines k c (λ g x. omega (arith, d, kept.strict _ (made-read R r.1 q x) refl)))
            (ap not (not_left lines k c (λ f x. omega (arith, d, kept.weak _ (read_taken R r.1 q x)))))),
      )

  -- ---- counted by place

  -- so its place is not empty
  pub present : (k p e : ℕ) → p < places N → In e (get_or lines k []) → reads N p (transition_of R e) ≡ true → 0 < count (holds lines k p) R.conditions
  present k p e l i h = let r = read-holds k p e l i h in Laws.count-in (holds lines k p) r.0 R.conditions r.1 r.2

  pub taken-left : (k p : ℕ) → p < places N → taken N (fired_by R lines k) p ≡ left_at R lines k p
  unfolding taken consumed_in left
  taken-left k p l = arcs-counted N R lines K.each-once k p (λ t. takes N t p) (λ c. c.consumer) W.consumers (λ e h. (P.arcs e p h l).0)

  pub made-came : (k p : ℕ) → p < places N → tokens_at N.tokens p + made N (fired_by R lines k) p ≡ came_at R lines k p
  unfolding made produced_in initial_in came
  made-came k p l = omega (
    arith,
    P.initial p l,
    arcs-counted N R lines K.each-once k p (λ t. makes N t p) (λ c. c.producer) W.producers (λ e h. (P.arcs e p h l).1),
    Laws.count-either (initial_in p) (λ c. eqb c.place p && stands lines k c.producer) (λ c. eqb c.place p && came lines k c) R.conditions
        (λ c i. one-or-other lines k (eqb c.place p) c.producer),
  )

  pub enough : (k p : ℕ) → left_at R lines (suc k) p ≤ came_at R lines k p
  enough k p = Laws.count-le _ _ R.conditions (λ c i. Laws.and_mono (eqb c.place p) (came-first k c i))

  pub emptied : (k p e : ℕ) → In e (get_or lines k []) → inhibits N p (transition_of R e) ≡ true → came_at R lines k p ≤ left_at R lines k p
  emptied k p e m h = Laws.count-le _ _ R.conditions (λ c i t.
      let z = Laws.and-true (eqb c.place p) (came lines k c) t in
      Laws.true-and z.0 (inhibited-left k e m c i (rw (eqb-true c.place p z.0) h) z.1))

  -- what came has left, or holds
  pub came-holds : (k p : ℕ) → came_at R lines k p ≡ left_at R lines k p + count (holds lines k p) R.conditions
  unfolding holds
  came-holds k p = Laws.count-either _ (holds lines k p) (λ c. eqb c.place p && came lines k c) R.conditions
      (λ c i. holds-count (eqb c.place p) (came lines k c) (left lines k c) (λ y. came-first k c i (left-later k c y)))

  -- ---- after the last line

  stands-all : (a : Option ℕ) → is_below (length R.events) a ≡ true → stands lines (length lines) a ≡ not (is_none a)
  unfolding is_below stands is_none
  stands-all none h = refl
  stands-all (some e) h = lt-ltb _ _ (line-below _ lines K.each-once e (ltb-true e _ h))

  pub holds-last : (p : ℕ) (c : Condition) → In c R.conditions → holds lines (length lines) p c ≡ is_free p c
  unfolding holds came left is_free
  holds-last p c i = rw (stands-all c.producer (W.producers c i), stands-all c.consumer (W.consumers c i), or-not_self, not-not)
