-- What the bytes of a record say of producers and consumers.
use mathlib.Core.Path.{◌≡◌, refl, ap, ◌∙◌}
use Prim.Native.Nat.{ℕ, ◌+◌, ◌≤◌, ◌<◌}
use native.Mathlib.Omega.{arith}
use mathlib.Core.Bool.{Bool, true}
use mathlib.Core.Option.{Option, none, some}
use mathlib.Core.List.{List}
use lib.ListN.{length, get_or}
use lib.Dec.{eqb}
use borrow.Author.Tests.{ne_eqb, ltb-true}
use Rattle.spec.specs.Lists.{In, any, up_to}
use Rattle.spec.specs.Net.{Net as NetD}
use Rattle.spec.specs.Record.{RunRecord, no_condition, condition_at, names, is_none}
use Rattle.spec.specs.Process.{is_below}
use Rattle.lists.specs.Laws.{at_in}
use Rattle.lists.specs.Search.{any_same}
use Rattle.net.specs.declared.Net.{Net}
use Rattle.record_columns.specs.Layout.{event_code}
use Rattle.record_columns.specs.declared.Counts.{Counts}
use Rattle.record_columns.proofs.Steps.{code-small}
use Rattle.representation.specs.Held.{Held, Sound}

-- two tests that agree on the numbers below a bound
pub any_below : {p q : ℕ → Bool} (n k : ℕ) → n ≡ k → ((i : ℕ) → i < n → p i ≡ q i) → any p (up_to n) ≡ any q (up_to k)
unfolding up_to
any_below {p} {q} n k e h = any_same p q 0 n (λ i l. h i (omega arith)) ∙ ap (λ (z : ℕ). any q (up_to z)) e

-- an event, and none
pub names-code : (o : Option ℕ) (e : ℕ) → e < 128 → eqb (event_code o) e ≡ names o e
unfolding names
names-code none e l = ne_eqb 128 e (omega arith)
names-code (some f) e l = refl

pub none-code : (n : ℕ) (o : Option ℕ) → n ≤ 128 → is_below n o ≡ true → eqb (event_code o) 128 ≡ is_none o
unfolding is_below is_none
none-code n none l h = refl
none-code n (some f) l h = ne_eqb f 128 (λ q. omega (arith, ltb-true f n h))

module _ (net : Net) (s : Counts) (rec : List ℕ) (N : NetD) (R : RunRecord) (h : Held net s rec N R) where
  few-events : length R.events ≤ 128
  few-events = omega (arith, h.bytes.events, h.bytes.few_events)

  module _ (c : ℕ) (l : c < s.conditions) where
    pub in-record : In (condition_at R c) R.conditions
    in-record = at_in no_condition R.conditions c (omega (arith, h.bytes.conditions))

    pub no-producer : eqb (get_or rec (640 + c) 0) 128 ≡ is_none (condition_at R c).producer
    no-producer = ap (λ (x : ℕ). eqb x 128) (h.bytes.producer c l) ∙ none-code _ _ few-events (h.well_formed.producers _ in-record)

    pub no-consumer : eqb (get_or rec (1152 + c) 0) 128 ≡ is_none (condition_at R c).consumer
    no-consumer = ap (λ (x : ℕ). eqb x 128) (h.bytes.consumer c l) ∙ none-code _ _ few-events (h.well_formed.consumers _ in-record)

    pub is-producer : (e : ℕ) → e < 128 → eqb (get_or rec (640 + c) 0) e ≡ names (condition_at R c).producer e
    is-producer e k = ap (λ (x : ℕ). eqb x e) (h.bytes.producer c l) ∙ names-code _ e k

    pub is-consumer : (e : ℕ) → e < 128 → eqb (get_or rec (1152 + c) 0) e ≡ names (condition_at R c).consumer e
    is-consumer e k = ap (λ (x : ℕ). eqb x e) (h.bytes.consumer c l) ∙ names-code _ e k

    pub small-place : get_or rec (128 + c) 0 < 32
    small-place = omega (arith, h.bytes.place c l, h.well_formed.placed _ in-record, h.arrays.counts.places, h.arrays.counts.few_places)

  pub small-transition : (e : ℕ) → e < s.events → get_or rec e 0 < 32
  small-transition e l = omega (arith, h.bytes.transition e l, h.well_formed.known _ (at_in 0 R.events e (omega (arith, h.bytes.events))), h.arrays.counts.transitions, h.arrays.counts.few_transitions)

  -- what the code relies on
  pub sound : Sound s rec
  sound = record {
    events = h.bytes.few_events;
    conditions = h.bytes.few_conditions;
    long = h.bytes.long;
    transition = small-transition;
    producers = record { place = small-place; event = λ c l. omega (arith, h.bytes.producer c l, code-small _ _ few-events (h.well_formed.producers _ (in-record c l))) };
    consumers = record { place = small-place; event = λ c l. omega (arith, h.bytes.consumer c l, code-small _ _ few-events (h.well_formed.consumers _ (in-record c l))) };
  }
