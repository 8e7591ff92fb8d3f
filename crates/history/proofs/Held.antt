-- What is kept of a run by arrays is what the definitions say of the run.
use Prim.Native.Nat.{ℕ, zero, suc, ◌+◌, ◌-◌, ◌≤◌, ◌<◌}
use mathlib.Core.Path.{◌≡◌, refl, sym, ap, ap₂, ◌∙◌}
use mathlib.Core.List.{List, [], ◌∷◌, ◌++◌, map, append-nil}
use native.Mathlib.Omega.{arith}
use lib.ListN.{length, take, replicate}
use Rattle.spec.specs.Lists.{In, up_to, flat, sum_of}
use Rattle.spec.specs.Net.{Net, places}
use Rattle.spec.specs.Building.{Run, in_step, take_all, play_step}
use Rattle.lists.specs.Laws
use Rattle.lists.specs.Laws.{here, there}
use Rattle.lists.specs.Tables.{length-table, table_same}
use Rattle.lists.specs.Grouped.{length-by}
use Rattle.arc_sets.specs.Sets.{arc_at, Says, HoldsArcs}
use Rattle.arc_sets.specs.Weights.{arc-within}
use Rattle.steps.specs.StepArrays.{HoldsStep}
use Rattle.steps.proofs.Rows.{step-known}
use Rattle.conditions.proofs.Tokens.{spread-more}
use Rattle.runs.specs.Flows.{flow, spread, flows, in-flows, flows-sum}
use Rattle.runs.specs.Consume.{taking, made_of, take_all-taking, make_all-makings}
use Rattle.history.specs.HistoryColumns.{History, event_in, events_in, events_of, conditions_of, Grown}

-- ---- the tokens of a step by arrays

spread_same : (f g : ℕ → ℕ) (m : ℕ) → ((p : ℕ) → p < m → f p ≡ g p) → spread f m ≡ spread g m
unfolding spread
spread_same f g m h = ap flat (table_same (λ p. replicate (f p) p) (λ p. replicate (g p) p) m (λ p l. ap (λ (k : ℕ). replicate k p) (h p l)))

flows-same : (f g : ℕ → ℕ → ℕ) (m e : ℕ) (ts : List ℕ) → ((t p : ℕ) → In t ts → p < m → f t p ≡ g t p) → flows f m e ts ≡ flows g m e ts
unfolding flows
flows-same f g m e [] h = refl
flows-same f g m e (t ∷ ts) h = ap₂ (λ xs ys. map (flow e) xs ++ ys) (spread_same (f t) (g t) m (λ p l. h t p here l)) (flows-same f g m (suc e) ts (λ u p i. h u p (there i)))

-- a function that says nothing from m on
spread-places : (f : ℕ → ℕ) (m k : ℕ) → ((p : ℕ) → m ≤ p → f p ≡ 0) → spread f (m + k) ≡ spread f m
spread-places f m zero z = ap (spread f) (omega arith)
spread-places f m (suc k) z =
    ap (spread f) (omega arith)
    ∙ spread-more f (m + k)
    ∙ ap (λ (n : ℕ). spread f (m + k) ++ replicate n (m + k)) (z (m + k) (omega arith))
    ∙ append-nil (spread f (m + k))
    ∙ spread-places f m k z

flows-places : (f : ℕ → ℕ → ℕ) (m k e : ℕ) (ts : List ℕ) → ((t p : ℕ) → In t ts → m ≤ p → f t p ≡ 0) → flows f (m + k) e ts ≡ flows f m e ts
unfolding flows
flows-places f m k e [] z = refl
flows-places f m k e (t ∷ ts) z = ap₂ (λ xs ys. map (flow e) xs ++ ys) (spread-places (f t) m k (λ p. z t p here)) (flows-places f m k (suc e) ts (λ u p i. z u p (there i)))

module _ {N : Net} {sets xs ts : List ℕ} {m count : ℕ} (A : HoldsArcs N sets m) (S : HoldsStep xs count ts) (K : (t : ℕ) → In t ts → t < N.transitions) where
  pub flows-held : (a e : ℕ) {f : ℕ → ℕ → ℕ} → a ≤ 96 → Says N m sets a f → flows (arc_at sets a) 64 e (take count xs) ≡ flows f m e ts
  flows-held a e {f} l C =
      ap (flows (arc_at sets a) 64 e) S.events
      ∙ ap (λ (z : ℕ). flows (arc_at sets a) z e ts) (omega (arith, A.few))
      ∙ flows-places (arc_at sets a) m (64 - m) e ts (λ t p i h. arc-within sets A.within a t p (omega (arith, step-known S.step t (rw S.events i))) h)
      ∙ flows-same (arc_at sets a) f m e ts (λ t p i h. C t p (K t i) h)

-- how many there are, by place
pub flows-length : (f : ℕ → ℕ → ℕ) (m e : ℕ) (ts : List ℕ) → length (flows f m e ts) ≡ sum_of (λ p. sum_of (λ t. f t p) ts) (up_to m)
flows-length f m e ts =
    length-by (λ x. x.place) m (flows f m e ts) (λ x i. (in-flows f m e ts i).2)
    ∙ Laws.sum_of-same _ _ (up_to m) (λ p i. flows-sum f m p e ts (Laws.in-up_to m i))

-- ---- the history after a step

module _ {sets xs ts : List ℕ} {size m : ℕ} (N : Net) (A : HoldsArcs N sets m) (S : HoldsStep xs size ts) (K : (t : ℕ) → In t ts → t < N.transitions)
    {k : ℕ} {h h' : History} (r : Run) (es : events_of h ≡ r.events) (cs : conditions_of h ≡ r.conditions) (G : Grown k (take size xs) sets h h') where
  step-flows : (a : ℕ) {f : ℕ → ℕ → ℕ} → a ≤ 96 → Says N m sets a f → flows (arc_at sets a) 64 h.events (take size xs) ≡ flows f (places N) (length r.events) ts
  unfolding events_of events_in
  step-flows a {f} l C =
      let e : h.events ≡ length r.events = sym (length-table (event_in h.transitions h.steps) h.events) ∙ ap length es in
      flows-held A S K a h.events l C ∙ ap₂ (λ (a b : ℕ). flows f a b ts) A.places e

  pub events-grown : events_of h' ≡ (play_step N k ts r).events
  unfolding play_step
  events-grown = G.events ∙ ap₂ (λ vs us. vs ++ map (in_step k) us) es S.events

  pub conditions-grown : conditions_of h' ≡ (play_step N k ts r).conditions
  unfolding play_step
  conditions-grown =
      let n = length r.events in
      G.conditions
      ∙ ap₂ (λ ds ys. ds ++ map made_of ys) (ap₂ taking (step-flows 0 (omega arith) A.inputs) cs ∙ sym (take_all-taking N n ts r.conditions)) (step-flows 32 (omega arith) A.outputs)
      ∙ ap (λ ds. take_all N n ts r.conditions ++ ds) (sym (make_all-makings N n ts))
