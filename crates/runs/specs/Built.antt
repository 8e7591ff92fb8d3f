-- What building keeps from step to step: the start of a run has it, and every enabled step keeps it.
use Rattle.std.specs.Prelude.{◌≡◌, ◌⊎◌, Bool, false, ◌&&◌, List, [], ◌∷◌, ◌++◌, map, eqb}
use Rattle.std.proofs.Math.Path.{refl, ap}
use Rattle.std.proofs.Common.{sym, ◌∙◌, not-suc-le-zero, length-append, eq-eqb, ne_eqb, eqb-true}
use Rattle.std.proofs.Math.Logic.{inl, inr}
use Prim.Native.Nat.{ℕ, suc, ◌+◌, ◌-◌, ◌≤◌, ◌<◌}
use Rattle.std.proofs.Math.Decide.{dec_le}
use native.Mathlib.Omega.{arith}
use Rattle.std.proofs.Math.Bool.{true, and-true, and-false}
use Rattle.std.proofs.Math.Option.{Option, none, some, some-injective, none-ne-some}
use mathlib.Core.List.Memᴰ
use Rattle.std.proofs.lemmas.List.{map-append, length-map}
use Rattle.std.proofs.Math.ListN.{length, get_or, get_or-append}
use Rattle.std.proofs.Math.Seq.{get_or-append-add}
use Rattle.spec.specs.Lists.{In, count}
use Rattle.spec.specs.Net.{Net, places, takes, makes, inhibits, reads}
use Rattle.spec.specs.Step.{tokens_at, taken, EnabledAt, play}
use Rattle.spec.specs.Record.{Condition, names, is_none}
use Rattle.spec.specs.Process.{initial_in, consumed_in, produced_in}
use Rattle.spec.specs.Building.{Event, no_event, Run, step_of, start, initial_of, in_step, play_step, is_free, consumed_by, made_by, take_all, make_all}
use Rattle.lists.specs.Laws
use Rattle.runs.specs.Steps.{play-at}
use Rattle.runs.specs.Flows.{repeated, in-repeated, count-repeated, is_flow, flows, flows-before, flows-at}
use Rattle.runs.specs.Consume.{count-blind, free-left, consumed-more, free-made, produced-made, none_made, in-make_all, in-take_all, in_taken}

abbrev pub fired_by : List Event → ℕ → ℕ
fired_by es e = (get_or es e no_event).transition

-- the condition is consumed in a step earlier than event e's, or produced in no earlier one
abbrev pub ConsumedBefore : List Event → Condition → ℕ → Type 0
ConsumedBefore es c e = (f : ℕ) × (c.consumer ≡ some f) × (step_of es f < step_of es e)

abbrev pub ProducedSince : List Event → Condition → ℕ → Type 0
ProducedSince es c e = (g : ℕ) × (c.producer ≡ some g) × (step_of es e ≤ step_of es g)

-- A condition of a run: it is consumed in a later step than produced, and it does not hold when an event that its place
-- inhibits occurs.
pub record Sound (N : Net) (es : List Event) (c : Condition) : Type 0 where
  pub placed : c.place < places N
  pub producer : (g : ℕ) → c.producer ≡ some g → g < length es
  pub consumer : (f : ℕ) → c.consumer ≡ some f → f < length es
  pub apart : (g f : ℕ) → c.producer ≡ some g → c.consumer ≡ some f → step_of es g < step_of es f
  pub clear : (e : ℕ) → e < length es → inhibits N c.place (fired_by es e) ≡ true → ConsumedBefore es c e ⊎ ProducedSince es c e

-- The condition held when the step of event e began: it was produced in an earlier step, if at all, and consumed in none.
abbrev pub HeldAt : List Event → ℕ → Condition → Type 0
HeldAt es e c = ((g : ℕ) → c.producer ≡ some g → step_of es g < step_of es e) × ((f : ℕ) → c.consumer ≡ some f → step_of es e ≤ step_of es f)

-- such a condition of place p
abbrev pub HeldOf : List Event → List Condition → ℕ → ℕ → Type 0
HeldOf es cs p e = (c : Condition) × In c cs × (c.place ≡ p) × HeldAt es e c

-- A run whose next step has number k: its counts are those of a process, and its marking counts the free conditions.
pub record Good (N : Net) (k : ℕ) (r : Run) : Type 0 where
  pub steps : (e : ℕ) → e < length r.events → step_of r.events e < k
  pub ascend : (e f : ℕ) → e ≤ f → f < length r.events → step_of r.events e ≤ step_of r.events f
  pub known : (v : Event) → In v r.events → v.transition < N.transitions
  pub initial : (p : ℕ) → p < places N → count (initial_in p) r.conditions ≡ tokens_at N.tokens p
  pub consumed : (e p : ℕ) → e < length r.events → p < places N → count (consumed_in e p) r.conditions ≡ takes N (fired_by r.events e) p
  pub produced : (e p : ℕ) → e < length r.events → p < places N → count (produced_in e p) r.conditions ≡ makes N (fired_by r.events e) p
  pub marking : (p : ℕ) → p < places N → tokens_at r.marking p ≡ count (is_free p) r.conditions
  pub sound : (c : Condition) → In c r.conditions → Sound N r.events c
  pub readable : (e p : ℕ) → e < length r.events → p < places N → reads N p (fired_by r.events e) ≡ true → HeldOf r.events r.conditions p e

-- ---- the events after a step

abbrev after : List Event → ℕ → List ℕ → List Event
after es k ts = es ++ map (in_step k) ts

-- an event of before, and one of the step
record Old (es : List Event) (k : ℕ) (ts : List ℕ) (e : ℕ) : Type 0 where
  low : e < length es
  step : step_of (after es k ts) e ≡ step_of es e
  fired : fired_by (after es k ts) e ≡ fired_by es e

record New (es : List Event) (k : ℕ) (ts : List ℕ) (e : ℕ) : Type 0 where
  nth : ℕ
  is : e ≡ length es + nth
  inside : nth < length ts
  step : step_of (after es k ts) e ≡ k
  fired : fired_by (after es k ts) e ≡ get_or ts nth 0

module _ (es : List Event) (k : ℕ) (ts : List ℕ) where
  length-after : length (after es k ts) ≡ length es + length ts
  length-after = length-append es (map (in_step k) ts) ∙ ap (λ (z : ℕ). length es + z) (length-map ts (in_step k))

  old : (e : ℕ) → e < length es → Old es k ts e
  old e l =
      let q : get_or (after es k ts) e no_event ≡ get_or es e no_event = get_or-append es (map (in_step k) ts) no_event e l in
      record { low = l; step = ap (λ (v : Event). v.step) q; fired = ap (λ (v : Event). v.transition) q }

  new : (e : ℕ) → length es ≤ e → e < length es + length ts → New es k ts e
  unfolding in_step
  new e l h =
      let i : ℕ = e - length es in
      let d : e ≡ length es + i = omega arith in
      let q : get_or (after es k ts) e no_event ≡ in_step k (get_or ts i 0) =
      ap (λ (z : ℕ). get_or (after es k ts) z no_event) d ∙ get_or-append-add es (map (in_step k) ts) i no_event ∙ Laws.get_or-map-in (in_step k) ts i no_event 0 (omega arith) in
      record { nth = i; is = d; inside = omega arith; step = ap (λ (v : Event). v.step) q; fired = ap (λ (v : Event). v.transition) q }

  which : (e : ℕ) → e < length (after es k ts) → Old es k ts e ⊎ New es k ts e
  which e l = elim (dec_le (length es) e) [
    | yes h ↦ inr (new e h (omega (arith, length-after)))
    | no h ↦ inl (old e (omega arith))
  ]

-- ---- an enabled step

-- no condition names an event that is none of the run
none_named : (end : Condition → Option ℕ) (e p : ℕ) (cs : List Condition) → ((c : Condition) → In c cs → end c ≡ some e → ⊥) → count (λ c. eqb c.place p && names (end c) e) cs ≡ 0
none_named end e p cs h = Laws.count_none _ cs (λ c m. rw (not_named (end c) (h c m)) (and-false (eqb c.place p)))
  where
    not_named : (o : Option ℕ) → (o ≡ some e → ⊥) → names o e ≡ false
    not_named none h = unfold names in refl
    not_named (some f) h = unfold names in (ne_eqb f e (λ z. h (ap some z)))

module _ (N : Net) (k : ℕ) (r : Run) (G : Good N k r) (ts : List ℕ) (E : EnabledAt N r.marking ts) (K : (t : ℕ) → In t ts → t < N.transitions) where
  abbrev es : List Event
  es = r.events

  abbrev cs : List Condition
  cs = r.conditions

  abbrev n : ℕ
  n = length r.events

  abbrev es' : List Event
  es' = after r.events k ts

  abbrev cs' : List Condition
  cs' = take_all N n ts cs ++ make_all N n ts

  enough : (q : ℕ) → q < places N → taken N ts q ≤ count (is_free q) cs
  enough q l = omega (arith, E.enough q l, G.marking q l)

  steps' : (e : ℕ) → e < length es' → step_of es' e < suc k
  steps' e l = elim (which es k ts e l) [ inl o ↦ omega (arith, G.steps e o.low) | inr v ↦ omega arith ]

  old-step : (e : ℕ) → e < n → step_of es' e ≡ step_of es e
  old-step e l = (old es k ts e l).step

  ascend' : (e f : ℕ) → e ≤ f → f < length es' → step_of es' e ≤ step_of es' f
  ascend' e f l h = elim (which es k ts f h) [
    | inl o ↦ omega (arith, o.step, old-step e (omega (arith, o.low)), G.ascend e f l o.low)
    | inr v ↦ omega (arith, v.step, steps' e (omega arith))
  ]

  known' : (v : Event) → In v es' → v.transition < N.transitions
  unfolding in_step
  known' v m = elim (Memᴰ.append_cases es m) [
    | inl a ↦ G.known v a
    | inr a ↦ let z = Memᴰ.of_map (in_step k) ts a in rw (← z.2) (K z.0 z.1)
  ]

  -- ---- what is counted

  count-both : (w : Condition → Bool) → count w cs' ≡ count w (take_all N n ts cs) + count w (make_all N n ts)
  count-both w = Laws.count-append w (take_all N n ts cs) (make_all N n ts)

  initial' : (p : ℕ) → p < places N → count (initial_in p) cs' ≡ tokens_at N.tokens p
  unfolding initial_in consumed_by made_by is_none
  initial' p l = omega (
    arith,
    count-both (initial_in p),
    count-blind (initial_in p) (λ e c. refl) N n ts cs,
    none_made (initial_in p) (λ f q. and-false (eqb q p)) N n ts,
    G.initial p l,
  )

  -- a count for each event that grows by the tokens of the step's own events
  counted : (x : ℕ → Condition → Bool) (h : ℕ → ℕ → ℕ) (p : ℕ) → p < places N
      → ((e : ℕ) → e < n → count (x e) cs ≡ h (fired_by es e) p)
      → ((e : ℕ) → n ≤ e → count (x e) cs ≡ 0)
      → ((e : ℕ) → count (x e) cs' ≡ count (x e) cs + count (is_flow e p) (flows h (places N) n ts))
      → (e : ℕ) → e < length es' → count (x e) cs' ≡ h (fired_by es' e) p
  counted x h p l before beyond more e m = elim (which es k ts e m) [
    | inl o ↦ omega (arith, more e, before e o.low, flows-before h (places N) e p n ts o.low, ap (λ t. h t p) o.fired)
    | inr v ↦ omega (arith, more e, beyond e (omega arith), flows-at h (places N) e p n ts v.nth v.is v.inside l, ap (λ t. h t p) v.fired)
  ]

  consumed' : (e p : ℕ) → e < length es' → p < places N → count (consumed_in e p) cs' ≡ takes N (fired_by es' e) p
  unfolding consumed_in made_by names
  consumed' e p m l = counted (λ e. consumed_in e p) (takes N) p l
      (λ e h. G.consumed e p h l)
      (λ e h. none_named (λ c. c.consumer) e p cs (λ c m q. omega (arith, (G.sound c m).consumer e q)))
      (λ e. omega (
        arith,
        count-both (consumed_in e p),
        consumed-more N n ts cs enough e p,
        none_made (consumed_in e p) (λ f q. and-false (eqb q p)) N n ts,
      ))
      e m

  produced' : (e p : ℕ) → e < length es' → p < places N → count (produced_in e p) cs' ≡ makes N (fired_by es' e) p
  unfolding produced_in consumed_by names
  produced' e p m l = counted (λ e. produced_in e p) (makes N) p l
      (λ e h. G.produced e p h l)
      (λ e h. none_named (λ c. c.producer) e p cs (λ c m q. omega (arith, (G.sound c m).producer e q)))
      (λ e. omega (
        arith,
        count-both (produced_in e p),
        count-blind (produced_in e p) (λ f c. refl) N n ts cs,
        produced-made N n e p ts,
      ))
      e m

  marking' : (p : ℕ) → p < places N → tokens_at (play N r.marking ts) p ≡ count (is_free p) cs'
  marking' p l = omega (
    arith,
    play-at N r.marking ts p l,
    G.marking p l,
    enough p l,
    free-left N n ts cs enough p l,
    free-made N n p ts l,
    count-both (is_free p),
  )

  -- ---- each condition is sound

  -- no condition is free in a place that inhibits an event of the step
  not_free : (d : Condition) → In d cs → (t : ℕ) → In t ts → inhibits N d.place t ≡ true → d.consumer ≡ none → ⊥
  unfolding is_free is_none
  not_free d m t i q a =
      let z : is_free d.place d ≡ true = Laws.true-and (eq-eqb d.place d.place refl) (ap is_none a) in
      omega (arith, E.clear d.place t (G.sound d m).placed i q, G.marking d.place (G.sound d m).placed, Laws.count-in (is_free d.place) d cs m z)

  still-clear : (d : Condition) → In d cs → (e : ℕ) → e < length es' → inhibits N d.place (fired_by es' e) ≡ true → ConsumedBefore es' d e ⊎ ProducedSince es' d e
  still-clear d m e l q = elim (which es k ts e l) [
    | inl o ↦ elim ((G.sound d m).clear e o.low (rw o.fired at q)) [
      | inl z ↦ inl (z.0, z.1, omega (arith, z.2, old-step z.0 ((G.sound d m).consumer z.0 z.1)))
      | inr z ↦ inr (z.0, z.1, omega (arith, z.2, old-step z.0 ((G.sound d m).producer z.0 z.1)))
    ]
    | inr v ↦ elim (none_or_some d.consumer) [
      | inl z ↦ absurd (not_free d m (get_or ts v.nth 0) (Laws.at_in 0 ts v.nth v.inside) (rw v.fired at q) z)
      | inr z ↦ let l : z.0 < n = (G.sound d m).consumer z.0 z.1 in inl (z.0, z.1, omega (arith, old-step z.0 l, G.steps z.0 l))
    ]
  ]
    where
      none_or_some : (o : Option ℕ) → (o ≡ none) ⊎ ((e : ℕ) × (o ≡ some e))
      none_or_some none = inl refl
      none_or_some (some e) = inr (e, refl)

  kept-sound : (c : Condition) → In c cs → Sound N es' c
  kept-sound c m =
      let S : Sound N es c = G.sound c m in
      record {
        placed = S.placed;
        producer = λ g q. omega (arith, S.producer g q, length-after es k ts);
        consumer = λ f q. omega (arith, S.consumer f q, length-after es k ts);
        apart = λ g f a b. omega (arith, S.apart g f a b, old-step g (S.producer g a), old-step f (S.consumer f b));
        clear = still-clear c m;
      }

  taken-sound : (d : Condition) → In d cs → d.consumer ≡ none → (f : ℕ) → n ≤ f → f < n + length ts → Sound N es' (consumed_by f d)
  unfolding consumed_by
  taken-sound d m a f l h =
      let S : Sound N es d = G.sound d m in
      record {
        placed = S.placed;
        producer = λ g q. omega (arith, S.producer g q, length-after es k ts);
        consumer = λ f' q. omega (arith, some-injective f f' q, length-after es k ts);
        apart = λ g f' x y. omega (arith, (new es k ts f l h).step, ap (step_of es') (some-injective f f' y), old-step g (S.producer g x), G.steps g (S.producer g x));
        clear = λ e b q. elim (still-clear d m e b q) [ inl z ↦ absurd (none-ne-some z.0 (sym a ∙ z.1)) | inr z ↦ inr z ];
      }

  made-sound : (f p : ℕ) → n ≤ f → f < n + length ts → p < places N → Sound N es' (made_by f p)
  unfolding made_by
  made-sound f p l h j = record {
    placed = j;
    producer = λ g q. omega (arith, some-injective f g q, length-after es k ts);
    consumer = λ g q. absurd (none-ne-some g q);
    apart = λ g f' x y. absurd (none-ne-some f' y);
    clear = λ e b q. inr (f, refl, omega (arith, (new es k ts f l h).step, steps' e b));
  }

  sound' : (c : Condition) → In c cs' → Sound N es' c
  sound' c m = elim (Memᴰ.append_cases (take_all N n ts cs) m) [
    | inl a ↦ elim (in-take_all N n ts cs a) [
      | inl b ↦ kept-sound c b
      | inr z ↦ rw z.3.3 (taken-sound z.3.0 z.3.1 z.3.2 z.0 z.1 z.2)
    ]
    | inr a ↦ let z = in-make_all N n ts a in rw z.5 (made-sound z.0 z.1 z.2 z.3 z.4)
  ]

  -- ---- what an event reads held when its step began

  -- a condition that held for an event, and that an event of the step may have taken since
  still-held : (e p : ℕ) → step_of es' e ≤ k → (c : Condition) → In c cs → c.place ≡ p
      → ((g : ℕ) → c.producer ≡ some g → step_of es' g < step_of es' e) → ((f : ℕ) → c.consumer ≡ some f → step_of es' e ≤ step_of es' f)
      → HeldOf es' cs' p e
  unfolding consumed_by
  still-held e p s c m q a b = elim (in_taken N n ts cs m) [
    | inl i ↦ (c, Memᴰ.append_left _ i, q, (a, b))
    | inr z ↦ (consumed_by z.0 c, Memᴰ.append_left _ z.4, q, (a, λ f x. omega (arith, s, (new es k ts z.0 z.1 z.2).step, ap (step_of es') (some-injective z.0 f x))))
  ]

  readable' : (e p : ℕ) → e < length es' → p < places N → reads N p (fired_by es' e) ≡ true → HeldOf es' cs' p e
  unfolding is_free is_none
  readable' e p l j q = elim (which es k ts e l) [
    | inl o ↦
        let h : HeldOf es cs p e = G.readable e p o.low j (rw o.fired at q) in
        let c : Condition = h.0 in
        still-held e p (omega (arith, o.step, G.steps e o.low)) c h.1 h.2
        (λ g x. omega (arith, h.3.0 g x, o.step, old-step g ((G.sound c h.1).producer g x)))
        (λ f x. omega (arith, h.3.1 f x, o.step, old-step f ((G.sound c h.1).consumer f x)))
    | inr v ↦
        let t : ℕ = get_or ts v.nth 0 in
        let r : (c : Condition) × In c cs × (is_free p c ≡ true) =
        Laws.count-found (is_free p) cs (omega (arith, E.present p t j (Laws.at_in 0 ts v.nth v.inside) (rw v.fired at q), G.marking p j)) in
        let c : Condition = r.0 in
        let z = Laws.and-true _ _ r.2 in
        still-held e p (omega (arith, v.step)) c r.1 (eqb-true _ _ z.0)
        (λ g x. omega (arith, v.step, old-step g ((G.sound c r.1).producer g x), G.steps g ((G.sound c r.1).producer g x)))
        (λ f x. Laws.clash z.1 (ap is_none x))
  ]

  pub good-step : Good N (suc k) (play_step N k ts r)
  unfolding play_step
  good-step = record {
    steps = steps';
    ascend = ascend';
    known = known';
    initial = initial';
    consumed = consumed';
    produced = produced';
    marking = marking';
    sound = sound';
    readable = readable';
  }

-- ---- the start

unfoldable pub blank : ℕ → Condition
blank p = record { place = p; producer = none; consumer = none }

initial-blank : (a : ℕ) (ks : List ℕ) → initial_of a ks ≡ map blank (repeated a ks)
unfolding initial_of repeated blank
initial-blank a [] = refl
initial-blank a (k ∷ ks) = rw (initial-blank (suc a) ks, map-append blank, Laws.map-replicate)

-- as many in a place as it has tokens
pub start-count : (w : Condition → Bool) (p : ℕ) → ((q : ℕ) → w (blank q) ≡ eqb q p) → (ks : List ℕ) → count w (initial_of 0 ks) ≡ get_or ks p 0
start-count w p h ks =
    ap (count w) (initial-blank 0 ks)
    ∙ Laws.count_map w blank (repeated 0 ks)
    ∙ Laws.count_same (λ q. w (blank q)) (λ q. eqb q p) (repeated 0 ks) (λ q m. h q)
    ∙ count-repeated p 0 ks p (omega arith)

blank-sound : (N : Net) (q : ℕ) → q < places N → Sound N [] (blank q)
unfolding blank
blank-sound N q l = record {
  placed = l;
  producer = λ g x. absurd (none-ne-some g x);
  consumer = λ f x. absurd (none-ne-some f x);
  apart = λ g f x y. absurd (none-ne-some g x);
  clear = λ e b x. absurd (not-suc-le-zero b);
}

start-sound : (N : Net) (c : Condition) → In c (initial_of 0 N.tokens) → Sound N [] c
start-sound N c m =
    let r : (q : ℕ) × In q (repeated 0 N.tokens) × (blank q ≡ c) = Memᴰ.of_map blank (repeated 0 N.tokens) (rw (initial-blank 0 N.tokens) at m) in
    rw (← r.2) (blank-sound N r.0 (omega (arith, in-repeated 0 N.tokens r.1)))

pub good_start : (N : Net) → Good N 1 (start N)
unfolding start initial_in is_free blank is_none
good_start N = record {
  steps = λ e l. absurd (not-suc-le-zero l);
  ascend = λ e f l h. absurd (not-suc-le-zero h);
  known = λ v m. absurd (Memᴰ.not-nil m);
  initial = λ p l. start-count (initial_in p) p (λ q. and-true (eqb q p)) N.tokens;
  consumed = λ e p l. absurd (not-suc-le-zero l);
  produced = λ e p l. absurd (not-suc-le-zero l);
  marking = λ p l. sym (start-count (is_free p) p (λ q. and-true (eqb q p)) N.tokens);
  sound = start-sound N;
  readable = λ e p l. absurd (not-suc-le-zero l);
}
