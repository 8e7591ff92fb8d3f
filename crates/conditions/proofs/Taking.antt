-- Free conditions by arrays and by lists, and what taking one of them changes.
use Prim.Native.Nat.{ℕ, zero, suc, ◌+◌, ◌≤◌, ◌<◌}
use mathlib.Core.Path.{◌≡◌, refl, sym, ap, ◌∙◌}
use mathlib.Core.Bool.{Bool, true, false, ◌&&◌, and-false}
use mathlib.Core.Logic.{◌⊎◌, inl, inr}
use mathlib.Core.List.{List, [], ◌∷◌, ◌++◌}
use native.Mathlib.Decide.{ℕ_discrete, dec_le}
use native.Mathlib.Omega.{arith}
use lib.Dec.{eqb}
use lib.ListN.{length, get_or, set, length-set}
use lib.Seq.{get_or-set_same, get_or-set_other}
use borrow.Author.Tests.{ne_eqb}
use Rattle.spec.specs.Record.{Condition, no_condition}
use Rattle.spec.specs.Building.{is_free, consumed_by, consume}
use Rattle.lists.specs.Tables.{table-set}
use Rattle.runs.specs.Flows.{Flow, flow}
use Rattle.runs.specs.Consume.{taking}
use Rattle.std.specs.Prelude.{Option, Some, None, MatchOption}
use Rattle.std.specs.Option.{unwrap_or}
use Rattle.conditions.proofs.Coded.{length-conditions, condition-at, event-coded, free-is}
use Rattle.conditions.specs.Conditions.{condition_in, conditions_in, free_at, FirstFree, Ready, Took}

-- ---- the test of the code

pub free-test : (p : ℕ) (ps fs : List ℕ) (i x : ℕ) (b : Bool) → x ≡ get_or ps i 0 → (eqb x p && eqb (get_or fs i 0) 128) ≡ b → free_at p ps fs i ≡ b
unfolding free_at
free-test p ps fs i x b e h = rw (← e) h

-- what a search from a number on finds
pub first-free : {p start end r : ℕ} {ps fs : List ℕ} (o : Option ℕ) → start ≤ end
    → MatchOption o ((k : ℕ) → start ≤ k → k < end → free_at p ps fs k ≡ false) (λ i. (start ≤ i) × (i < end) × (free_at p ps fs i ≡ true) × ((k : ℕ) → start ≤ k → k < i → free_at p ps fs k ≡ false))
    → r ≡ unwrap_or o end → FirstFree p start end ps fs r
first-free None l h e = record { low = omega arith; high = omega arith; passed = λ j a b. h j a (omega arith); free = λ m. absurd (omega arith) }
first-free (Some i) l h e = record { low = omega (arith, h.0); high = omega (arith, h.1); passed = λ j a b. h.3 j a (omega arith); free = λ m. rw e h.2 }

-- ---- which condition is taken

module _ (e p : ℕ) where
  consume-none : (cs : List Condition) → ((j : ℕ) → j < length cs → is_free p (get_or cs j no_condition) ≡ false) → consume e p cs ≡ cs
  unfolding consume
  consume-none [] h = refl
  consume-none (c ∷ cs) h = rw (h 0 (omega arith), consume-none cs (λ j l. h (suc j) (omega arith)))

  consume-at : (cs : List Condition) (i : ℕ) → i < length cs → ((j : ℕ) → j < i → is_free p (get_or cs j no_condition) ≡ false) → is_free p (get_or cs i no_condition) ≡ true
      → consume e p cs ≡ set cs i (consumed_by e (get_or cs i no_condition))
  unfolding consume
  consume-at [] i l h q = absurd (omega arith)
  consume-at (c ∷ cs) zero l h q = rw q
  consume-at (c ∷ cs) (suc i) l h q = rw (h 0 (omega arith), consume-at cs i (omega arith) (λ j m. h (suc j) (omega arith)) q)

-- ---- one token is taken

taken-one : (e p : ℕ) (cs : List Condition) → taking (flow e p ∷ []) cs ≡ consume e p cs
unfolding taking flow
taken-one e p cs = refl

module _ (e p n : ℕ) (ps fs : List ℕ) (passed : (i : ℕ) → i < n → free_at p ps fs i ≡ false) where
  pub none-taken : (gs : List ℕ) → conditions_in n ps gs fs ≡ taking (flow e p ∷ []) (conditions_in n ps gs fs)
  none-taken gs = sym (taken-one e p (conditions_in n ps gs fs) ∙ consume-none e p (conditions_in n ps gs fs) (λ j l.
      let m : j < n = omega (arith, length-conditions n ps gs fs) in
      ap (is_free p) (condition-at n ps gs fs j m) ∙ free-is p ps gs fs j ∙ passed j m))

module _ (e n : ℕ) (ps fs : List ℕ) (i : ℕ) (low : e < 128) (l : i < n) (m : i < length fs) where
  consumed-at : (gs : List ℕ) → conditions_in n ps gs (set fs i e) ≡ set (conditions_in n ps gs fs) i (consumed_by e (condition_in ps gs fs i))
  unfolding conditions_in condition_in consumed_by
  consumed-at gs = table-set (condition_in ps gs fs) (condition_in ps gs (set fs i e)) n i (consumed_by e (condition_in ps gs fs i)) l
      (λ j q. rw (get_or-set_other fs i j e 0 q))
      (rw (get_or-set_same fs i e 0 m, event-coded e low))

  -- what was not free is not free now
  still-taken : (q j : ℕ) → free_at q ps fs j ≡ false → free_at q ps (set fs i e) j ≡ false
  still-taken q j h = unfold free_at in (elim (ℕ_discrete j i) [
    | yes z ↦ rw (z, get_or-set_same fs i e 0 m, ne_eqb e 128 (λ y. omega arith)) (and-false (eqb (get_or ps i 0) q))
    | no z ↦ rw (get_or-set_other fs i j e 0 z) h
  ])

  now-taken : (q : ℕ) → free_at q ps (set fs i e) i ≡ false
  now-taken q = unfold free_at in (rw (get_or-set_same fs i e 0 m, ne_eqb e 128 (λ y. omega arith)) (and-false (eqb (get_or ps i 0) q)))

module _ (e p n s : ℕ) (ps fs nx : List ℕ) (r : ℕ) (R : Ready n ps fs nx) (q : s ≡ get_or nx p 0) (F : FirstFree p s n ps fs r) where
  none_before : (j : ℕ) → j < r → free_at p ps fs j ≡ false
  none_before j l = elim (dec_le s j) [ yes h ↦ F.passed j h l | no h ↦ R.cursors.passed p j (omega arith) ]

  pub took-none : n ≤ r → Took (flow e p ∷ []) n ps fs nx fs nx
  took-none l = record { ready = R; conditions = none-taken e p n ps fs (λ i m. none_before i (omega arith)) }

  module _ (low : e < 128) (near : p < 32) (l : r < n) where
    inside : r < length fs
    inside = omega (arith, R.few, R.long)

    one-taken : (gs : List ℕ) → conditions_in n ps gs (set fs r e) ≡ taking (flow e p ∷ []) (conditions_in n ps gs fs)
    one-taken gs =
        let cs = conditions_in n ps gs fs in
        let a : get_or cs r no_condition ≡ condition_in ps gs fs r = condition-at n ps gs fs r l in
        consumed-at e n ps fs r low l inside gs
        ∙ ap (λ c. set cs r (consumed_by e c)) (sym a)
        ∙ sym (consume-at e p cs r (omega (arith, length-conditions n ps gs fs))
        (λ j m. ap (is_free p) (condition-at n ps gs fs j (omega arith)) ∙ free-is p ps gs fs j ∙ none_before j m)
        (ap (is_free p) a ∙ free-is p ps gs fs r ∙ F.free l))
        ∙ sym (taken-one e p cs)

    moved : (q : ℕ) → ((q ≡ p) × (get_or (set nx p (r + 1)) q 0 ≡ r + 1)) ⊎ (get_or (set nx p (r + 1)) q 0 ≡ get_or nx q 0)
    moved q = elim (ℕ_discrete q p) [
      | yes z ↦ inl (z, rw z (get_or-set_same nx p (r + 1) 0 (omega (arith, R.wide))))
      | no z ↦ inr (get_or-set_other nx p q (r + 1) 0 z)
    ]

    pub took_one : Took (flow e p ∷ []) n ps fs nx (set fs r e) (set nx p (r + 1))
    took_one = record {
      ready = record {
        few = R.few;
        long = length-set fs r e ∙ R.long;
        wide = length-set nx p (r + 1) ∙ R.wide;
        cursors = record {
          within = λ q. elim (moved q) [ inl z ↦ omega (arith, z.1) | inr z ↦ omega (arith, z, R.cursors.within q) ];
          passed = λ q j m. elim (moved q) [
            | inl z ↦ elim (ℕ_discrete j r) [
              | yes y ↦ rw y (now-taken e n ps fs r low l inside q)
              | no y ↦ still-taken e n ps fs r low l inside q j (rw z.0 (none_before j (omega (arith, z.1))))
            ]
            | inr z ↦ still-taken e n ps fs r low l inside q j (R.cursors.passed q j (omega arith))
          ];
        };
      };
      conditions = one-taken;
    }

-- ---- tokens taken one after the other

taking-append : (xs ys : List Flow) (cs : List Condition) → taking (xs ++ ys) cs ≡ taking ys (taking xs cs)
unfolding taking
taking-append [] ys cs = refl
taking-append (x ∷ xs) ys cs = taking-append xs ys (consume x.event x.place cs)

module _ {n : ℕ} {ps fs nx : List ℕ} where
  pub took-nothing : Ready n ps fs nx → Took [] n ps fs nx fs nx
  unfolding taking
  took-nothing R = record { ready = R; conditions = λ gs. refl }

  pub took-then : {xs ys : List Flow} {fs' nx' fs'' nx'' : List ℕ} → Took xs n ps fs nx fs' nx' → Took ys n ps fs' nx' fs'' nx'' → Took (xs ++ ys) n ps fs nx fs'' nx''
  took-then {xs} {ys} a b = record { ready = b.ready; conditions = λ gs. b.conditions gs ∙ ap (taking ys) (a.conditions gs) ∙ sym (taking-append xs ys (conditions_in n ps gs fs)) }
