-- Steps: the tests by which building refuses one, 24 and 25, are the two halves of "enabled"; what a step does to a marking.
use Rattle.std.specs.Prelude.{◌≡◌, refl, ◌↔◌, ℕ, suc, ◌+◌, ◌-◌, ◌≤◌, ◌<◌, false, ◌&&◌, List, [], ◌∷◌, ◌++◌, length, get_or, take}
use Rattle.std.proofs.Common.{ap, ◌∙◌, le_trans, le_of_eq, arith, take-suc}
use Rattle.std.proofs.Math.Logic.{inl, inr}
use Rattle.std.proofs.Math.Bool.{and-false}
use Rattle.std.proofs.lemmas.List.{length-map}
use Rattle.std.proofs.Math.ListN.{get_or-eq_default}
use Rattle.std.proofs.Math.Dec.{ltb}
use borrow.Author.Tests.{ltb-false, le-ltb}
use Rattle.spec.specs.Lists.{any, up_to}
use Rattle.spec.specs.Net.{Net, places, inhibits, reads}
use Rattle.spec.specs.Step.{tokens_at, taken, made, needed, EnabledAt, short, inhibited, play, marking_after}
use Rattle.spec.specs.Runs.{marking_at}
use Rattle.lists.specs.Laws

module _ (N : Net) (m step : List ℕ) where
  -- what a step needs of a place is there
  not-fewer : short N m step ≡ false → (p : ℕ) → p < places N → needed N step p ≤ tokens_at m p
  unfolding short
  not-fewer h p l = ltb-false _ _ (Laws.any_none (λ p. ltb (tokens_at m p) (needed N step p)) _ h p (Laws.up_to-in (places N) l))

  tests-enabled : short N m step ≡ false → inhibited N m step ≡ false → EnabledAt N m step
  unfolding inhibited needed
  tests-enabled a b = record {
    enough = λ p l. omega (arith, not-fewer a p l);
    present = λ p t l i h. omega (arith, not-fewer a p l, Laws.count-true (Laws.any-in (reads N p) t step i h));
    clear = λ p t l i h. elim (Laws.and-false (ltb 0 (tokens_at m p)) (any (inhibits N p) step) (Laws.any_none (λ p. ltb 0 (tokens_at m p) && any (inhibits N p) step) _ b p (Laws.up_to-in (places N) l))) [
      | inl z ↦ omega (arith, ltb-false 0 (tokens_at m p) z)
      | inr z ↦ Laws.clash (Laws.any-in (inhibits N p) t step i h) z
    ];
  }

  not_short : EnabledAt N m step → short N m step ≡ false
  unfolding short needed
  not_short E = Laws.none_any _ (up_to (places N)) (λ p i.
      let l : p < places N = Laws.in-up_to (places N) i in
      le-ltb (tokens_at m p) (needed N step p) (elim (Laws.true-or-false (any (reads N p) step)) [
        | inl a ↦ let r = Laws.any_found (reads N p) step a in omega (arith, E.enough p l, E.present p r.0 l r.1 r.2, Laws.count-true a)
        | inr a ↦ omega (arith, E.enough p l, Laws.count-false a)
      ]))

  not-inhibited : EnabledAt N m step → inhibited N m step ≡ false
  unfolding inhibited
  not-inhibited E = Laws.none_any _ (up_to (places N)) (λ p i. elim (Laws.true-or-false (any (inhibits N p) step)) [
    | inl a ↦ let r = Laws.any_found (inhibits N p) step a in rw (E.clear p r.0 (Laws.in-up_to (places N) i) r.1 r.2)
    | inr a ↦ rw a (and-false (ltb 0 (tokens_at m p)))
  ])

  pub enabled-tests : ((short N m step ≡ false) × (inhibited N m step ≡ false)) ↔ EnabledAt N m step
  enabled-tests = (λ h. tests-enabled h.0 h.1, λ E. (not_short E, not-inhibited E))

-- ---- the markings along a sequence

pub play-at : (N : Net) (m step : List ℕ) (p : ℕ) → p < places N → tokens_at (play N m step) p ≡ tokens_at m p - taken N step p + made N step p
unfolding play
play-at N m step p l = Laws.get_or-table _ (places N) p 0 l

after-append : (N : Net) (m : List ℕ) (s t : List (List ℕ)) → marking_after N m (s ++ t) ≡ marking_after N (marking_after N m s) t
unfolding marking_after
after-append N m [] t = refl
after-append N m (step ∷ s) t = after-append N (play N m step) s t

pub marking-suc : (N : Net) (steps : List (List ℕ)) (k : ℕ) → k < length steps → marking_at N steps (suc k) ≡ play N (marking_at N steps k) (get_or steps k [])
unfolding marking_at marking_after
marking-suc N steps k h = ap (marking_after N N.tokens) (take-suc steps k [] h) ∙ after-append N N.tokens (take k steps) (get_or steps k [] ∷ [])

after-length : (N : Net) (m : List ℕ) (steps : List (List ℕ)) → length m ≡ places N → length (marking_after N m steps) ≡ places N
unfolding marking_after play
after-length N m [] h = h
after-length N m (step ∷ steps) h = after-length N (play N m step) steps (length-map (up_to (places N)) _ ∙ Laws.length-up_to (places N))

pub marking-length : (N : Net) (steps : List (List ℕ)) (k : ℕ) → length (marking_at N steps k) ≡ places N
unfolding marking_at
marking-length N steps k = after-length N N.tokens (take k steps) refl

pub marking-beyond : (N : Net) (steps : List (List ℕ)) (k p : ℕ) → places N ≤ p → tokens_at (marking_at N steps k) p ≡ 0
marking-beyond N steps k p h = get_or-eq_default (marking_at N steps k) 0 (le_trans (le_of_eq (marking-length N steps k)) h)
