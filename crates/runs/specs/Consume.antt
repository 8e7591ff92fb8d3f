-- What a step does to the conditions: what it leaves free, what its events consume and make, and where each condition comes from.
use Rattle.std.specs.Prelude.{◌≡◌, ◌⊎◌, ℕ, suc, ◌+◌, ◌≤◌, ◌<◌, Bool, true, false, length, eqb}
use Rattle.std.proofs.Math.Path.{refl}
use Rattle.std.proofs.Common.{sym, ap, ◌∙◌, not-suc-le-zero, arith}
use Rattle.std.proofs.Math.Logic.{inl, inr}
use Rattle.std.proofs.Math.Decide.{dec_le}
use Rattle.std.proofs.Math.Bool.{and-true, and-false}
use Rattle.std.proofs.Math.Option.{Option, none, some, some-ne-none}
use mathlib.Core.List.Memᴰ
use mathlib.Core.List.{List, [], ◌∷◌, ◌++◌, map, map-append, map-map}
use Rattle.std.proofs.Math.ListN.{length-map}
use borrow.Author.Tests.{eq-eqb, ne_eqb, eqb-true}
use Rattle.spec.specs.Lists.{In, count, as_count}
use Rattle.spec.specs.Net.{Net, places, takes, makes}
use Rattle.spec.specs.Step.{taken, made}
use Rattle.spec.specs.Record.{Condition, names, is_none}
use Rattle.spec.specs.Process.{consumed_in, produced_in}
use Rattle.spec.specs.Building.{is_free, consumed_by, consume, consume_all, inputs_of, outputs_of, take_all, made_by, make_all}
use Rattle.lists.specs.Laws
use Rattle.lists.specs.Laws.{here, there}
use Rattle.runs.specs.Flows.{Flow, flow, in_place, is_flow, spread, flows, in-flows, flows-sum}

none_is : (o : Option ℕ) → is_none o ≡ true → o ≡ none
unfolding is_none
none_is none h = refl
none_is (some e) h = Laws.clash h refl

-- ---- tokens taken one after another

abbrev take_one : Flow → List Condition → List Condition
take_one x cs = consume x.event x.place cs

unfoldable pub taking : List Flow → List Condition → List Condition
taking [] cs = cs
taking (x ∷ xs) cs = taking xs (take_one x cs)

-- the tokens that a step takes, and those that it makes
abbrev pub takings : Net → ℕ → List ℕ → List Flow
takings N = flows (takes N) (places N)

abbrev pub makings : Net → ℕ → List ℕ → List Flow
makings N = flows (makes N) (places N)

taking-event : (e : ℕ) (ps : List ℕ) (xs : List Flow) (cs : List Condition) → taking (map (flow e) ps ++ xs) cs ≡ taking xs (consume_all e ps cs)
unfolding taking consume_all flow
taking-event e [] xs cs = refl
taking-event e (p ∷ ps) xs cs = taking-event e ps xs (consume e p cs)

pub take_all-taking : (N : Net) (e : ℕ) (ts : List ℕ) (cs : List Condition) → take_all N e ts cs ≡ taking (takings N e ts) cs
unfolding take_all flows inputs_of spread
take_all-taking N e [] cs = unfold taking in refl
take_all-taking N e (t ∷ ts) cs = take_all-taking N (suc e) ts (consume_all e (inputs_of N t) cs) ∙ sym (taking-event e (inputs_of N t) (takings N (suc e) ts) cs)

unfoldable pub made_of : Flow → Condition
made_of x = made_by x.event x.place

pub make_all-makings : (N : Net) (e : ℕ) (ts : List ℕ) → make_all N e ts ≡ map made_of (makings N e ts)
unfolding make_all flows outputs_of spread made_of flow
make_all-makings N e [] = refl
make_all-makings N e (t ∷ ts) = rw (make_all-makings N (suc e) ts, map-append made_of, map-map)

-- ---- what does not depend on the consumer

module _ {A : Type 0} (f : Condition → A) (blind : (e : ℕ) (c : Condition) → f (consumed_by e c) ≡ f c) where
  consume-blind : (e p : ℕ) (cs : List Condition) → map f (consume e p cs) ≡ map f cs
  unfolding consume
  consume-blind e p [] = refl
  consume-blind e p (c ∷ cs) = elim (Laws.true-or-false (is_free p c)) [ inl q ↦ rw (q, blind e c) | inr q ↦ rw (q, consume-blind e p cs) ]

  taking-blind : (xs : List Flow) (cs : List Condition) → map f (taking xs cs) ≡ map f cs
  unfolding taking
  taking-blind [] cs = refl
  taking-blind (x ∷ xs) cs = taking-blind xs (take_one x cs) ∙ consume-blind x.event x.place cs

  pub take_all-blind : (N : Net) (e : ℕ) (ts : List ℕ) (cs : List Condition) → map f (take_all N e ts cs) ≡ map f cs
  take_all-blind N e ts cs = rw (take_all-taking N e ts cs) (taking-blind (takings N e ts) cs)

pub count-blind : (w : Condition → Bool) → ((e : ℕ) (c : Condition) → w (consumed_by e c) ≡ w c)
    → (N : Net) (e : ℕ) (ts : List ℕ) (cs : List Condition) → count w (take_all N e ts cs) ≡ count w cs
count-blind w blind N e ts cs = sym (Laws.count_map (λ b. b) w (take_all N e ts cs)) ∙ ap (count (λ b. b)) (take_all-blind w blind N e ts cs) ∙ Laws.count_map (λ b. b) w cs

pub length-take_all : (N : Net) (e : ℕ) (ts : List ℕ) (cs : List Condition) → length (take_all N e ts cs) ≡ length cs
length-take_all N e ts cs = sym (length-map (take_all N e ts cs) (λ c. c.place)) ∙ ap length (take_all-blind (λ c. c.place) (λ e c. unfold consumed_by in refl) N e ts cs) ∙ length-map cs (λ c. c.place)

-- ---- what a token that is taken changes

free-is : {p : ℕ} (c : Condition) → is_free p c ≡ true → (c.place ≡ p) × (c.consumer ≡ none)
unfolding is_free
free-is {p} c h = let r = Laws.and-true (eqb c.place p) (is_none c.consumer) h in (eqb-true _ _ r.0, none_is c.consumer r.1)

-- how a count of conditions changes when a free one is consumed
abbrev Changes : (Condition → Bool) → (Flow → Bool) → (Flow → Bool) → Type 0
Changes w loss gain = (x : Flow) (c : Condition) → is_free x.place c ≡ true → as_count (w (consumed_by x.event c)) + as_count (loss x) ≡ as_count (w c) + as_count (gain x)

free-change : (q : ℕ) → Changes (is_free q) (in_place q) (λ x. false)
unfolding is_free consumed_by is_none as_count
free-change q x c h = rw ((free-is c h).0, (free-is c h).1, and-false (eqb x.place q), and-true (eqb x.place q)) (omega arith)

consumed-change : (f q : ℕ) → Changes (consumed_in f q) (λ x. false) (is_flow f q)
unfolding consumed_in consumed_by is_flow names as_count
consumed-change f q x c h = rw ((free-is c h).0, (free-is c h).1, and-false (eqb x.place q)) (omega arith)

-- one token is taken where one is there
consume-count : (w : Condition → Bool) (loss gain : Flow → Bool) → Changes w loss gain
    → (x : Flow) (cs : List Condition) → 0 < count (is_free x.place) cs → count w (take_one x cs) + as_count (loss x) ≡ count w cs + as_count (gain x)
unfolding consume
consume-count w loss gain change x [] h = absurd (unfold count in (not-suc-le-zero h))
consume-count w loss gain change x (c ∷ cs) h = elim (Laws.true-or-false (is_free x.place c)) [
  | inl q ↦ rw q (omega (arith, change x c q, Laws.count-cons w c cs, Laws.count-cons w (consumed_by x.event c) cs))
  | inr q ↦ rw q (omega (
    arith,
    consume-count w loss gain change x cs (omega (arith, Laws.count-cons (is_free x.place) c cs, Laws.count-false q)),
    Laws.count-cons w c cs,
    Laws.count-cons w c (take_one x cs),
  ))
]

-- enough free conditions for all the tokens
abbrev Enough : List Flow → List Condition → Type 0
Enough xs cs = (q : ℕ) → count (in_place q) xs ≤ count (is_free q) cs

one_free : (x : Flow) (xs : List Flow) (cs : List Condition) → Enough (x ∷ xs) cs → 0 < count (is_free x.place) cs
one_free x xs cs h = omega (arith, h x.place, Laws.count-in (in_place x.place) x (x ∷ xs) here (eq-eqb x.place x.place refl))

rest-enough : (x : Flow) (xs : List Flow) (cs : List Condition) → Enough (x ∷ xs) cs → Enough xs (take_one x cs)
rest-enough x xs cs h q = omega (
  arith,
  h q,
  Laws.count-cons (in_place q) x xs,
  consume-count (is_free q) (in_place q) (λ y. false) (free-change q) x cs (one_free x xs cs h),
  Laws.count-false {b = false} refl,
)

taking-count : (w : Condition → Bool) (loss gain : Flow → Bool) → Changes w loss gain
    → (xs : List Flow) (cs : List Condition) → Enough xs cs → count w (taking xs cs) + count loss xs ≡ count w cs + count gain xs
unfolding taking
taking-count w loss gain change [] cs h = unfold count in refl
taking-count w loss gain change (x ∷ xs) cs h = omega (
  arith,
  consume-count w loss gain change x cs (one_free x xs cs h),
  taking-count w loss gain change xs (take_one x cs) (rest-enough x xs cs h),
  Laws.count-cons loss x xs,
  Laws.count-cons gain x xs,
)

-- ---- the counts of a step that has enough tokens

module _ (N : Net) (e : ℕ) (ts : List ℕ) (cs : List Condition) (enough : (q : ℕ) → q < places N → taken N ts q ≤ count (is_free q) cs) where
  step-enough : Enough (takings N e ts) cs
  unfolding taken
  step-enough q = elim (dec_le (places N) q) [
    | yes l ↦ omega (arith, Laws.count_none (in_place q) (takings N e ts) (λ x m. ne_eqb x.place q (λ z. omega (arith, in-flows (takes N) (places N) e ts m))))
    | no l ↦ omega (arith, enough q (omega arith), flows-sum (takes N) (places N) q e ts (omega arith))
  ]

  take_all-count : (w : Condition → Bool) (loss gain : Flow → Bool) → Changes w loss gain
      → count w (take_all N e ts cs) + count loss (takings N e ts) ≡ count w cs + count gain (takings N e ts)
  take_all-count w loss gain change = rw (take_all-taking N e ts cs) (taking-count w loss gain change (takings N e ts) cs step-enough)

  none-such : count (λ (x : Flow). false) (takings N e ts) ≡ 0
  none-such = Laws.count_none (λ x. false) (takings N e ts) (λ x m. refl)

  -- so many conditions stay free
  pub free-left : (q : ℕ) → q < places N → count (is_free q) (take_all N e ts cs) + taken N ts q ≡ count (is_free q) cs
  unfolding taken
  free-left q l = omega (arith, take_all-count (is_free q) (in_place q) (λ x. false) (free-change q), none-such, flows-sum (takes N) (places N) q e ts l)

  -- each event consumes what it takes
  pub consumed-more : (f q : ℕ) → count (consumed_in f q) (take_all N e ts cs) ≡ count (consumed_in f q) cs + count (is_flow f q) (takings N e ts)
  consumed-more f q = omega (arith, take_all-count (consumed_in f q) (λ x. false) (is_flow f q) (consumed-change f q), none-such)

pub free-made : (N : Net) (e q : ℕ) (ts : List ℕ) → q < places N → count (is_free q) (make_all N e ts) ≡ made N ts q
unfolding made is_free made_of made_by is_none
free-made N e q ts l =
    ap (count (is_free q)) (make_all-makings N e ts)
    ∙ Laws.count_map (is_free q) made_of (makings N e ts)
    ∙ Laws.count_same _ _ (makings N e ts) (λ x m. and-true (eqb x.place q))
    ∙ flows-sum (makes N) (places N) q e ts l

pub produced-made : (N : Net) (e f q : ℕ) (ts : List ℕ) → count (produced_in f q) (make_all N e ts) ≡ count (is_flow f q) (makings N e ts)
unfolding produced_in made_of made_by names is_flow
produced-made N e f q ts = ap (count (produced_in f q)) (make_all-makings N e ts) ∙ Laws.count_map (produced_in f q) made_of (makings N e ts)

-- ---- each condition's fate

-- a condition that a step makes
pub in-make_all : {c : Condition} (N : Net) (e : ℕ) (ts : List ℕ) → In c (make_all N e ts)
    → (f p : ℕ) × (e ≤ f) × (f < e + length ts) × (p < places N) × (c ≡ made_by f p)
unfolding made_of
in-make_all {c} N e ts m =
    let r : (x : Flow) × In x (makings N e ts) × (made_of x ≡ c) = Memᴰ.of_map made_of (makings N e ts) (rw (make_all-makings N e ts) at m) in
    let b = in-flows (makes N) (places N) e ts r.1 in
    (r.0.event, r.0.place, b.0, b.1, b.2, sym r.2)

pub none_made : (w : Condition → Bool) → ((f p : ℕ) → w (made_by f p) ≡ false) → (N : Net) (e : ℕ) (ts : List ℕ) → count w (make_all N e ts) ≡ 0
none_made w h N e ts = Laws.count_none w (make_all N e ts) (λ c m. let r = in-make_all N e ts m in rw r.5 (h r.0 r.1))

-- consumed by event e, and free before
abbrev pub TakenBy : ℕ → List Condition → Condition → Type 0
TakenBy e cs c = (d : Condition) × In d cs × (d.consumer ≡ none) × (c ≡ consumed_by e d)

in-consume : {c : Condition} (e p : ℕ) (cs : List Condition) → In c (consume e p cs) → In c cs ⊎ TakenBy e cs c
unfolding consume
in-consume e p [] m = inl m
in-consume e p (x ∷ cs) m = elim (Laws.true-or-false (is_free p x)) [
  | inl q ↦ elim (Memᴰ.cases_cons (rw q at m)) [ inl z ↦ inr (x, here, (free-is x q).1, z) | inr a ↦ inl (there a) ]
  | inr q ↦ elim (Memᴰ.cases_cons (rw q at m)) [
    | inl z ↦ inl (Memᴰ.head z)
    | inr a ↦ elim (in-consume e p cs a) [ inl b ↦ inl (there b) | inr b ↦ inr (b.0, there b.1, b.2, b.3) ]
  ]
]

-- what is consumed is free no more
not_free : (e : ℕ) (c d : Condition) → c ≡ consumed_by e d → c.consumer ≡ none → ⊥
unfolding consumed_by
not_free e c d p h = some-ne-none e (ap (λ (x : Condition). x.consumer) (sym p) ∙ h)

in-taking : {c : Condition} (xs : List Flow) (cs : List Condition) → In c (taking xs cs) → In c cs ⊎ ((x : Flow) × In x xs × TakenBy x.event cs c)
unfolding taking
in-taking [] cs m = inl m
in-taking (x ∷ xs) cs m = elim (in-taking xs (take_one x cs) m) [
  | inl a ↦ elim (in-consume x.event x.place cs a) [ inl b ↦ inl b | inr b ↦ inr (x, here, b) ]
  | inr a ↦ elim (in-consume x.event x.place cs a.2.1) [
    | inl b ↦ inr (a.0, there a.1, (a.2.0, b, a.2.2, a.2.3))
    | inr b ↦ absurd (not_free x.event a.2.0 b.0 b.3 a.2.2)
  ]
]

-- a condition that a step leaves: as it was, or taken by one of the events
pub in-take_all : {c : Condition} (N : Net) (e : ℕ) (ts : List ℕ) (cs : List Condition) → In c (take_all N e ts cs) → In c cs ⊎ ((f : ℕ) × (e ≤ f) × (f < e + length ts) × TakenBy f cs c)
in-take_all N e ts cs m = elim (in-taking (takings N e ts) cs (rw (take_all-taking N e ts cs) at m)) [
  | inl a ↦ inl a
  | inr a ↦ let b = in-flows (takes N) (places N) e ts a.1 in inr (a.0.event, b.0, b.1, a.2)
]

-- ---- no condition is lost

-- what is not free stays as it is
stays-consumed : {d : Condition} (e p : ℕ) (cs : List Condition) → In d cs → is_none d.consumer ≡ false → In d (consume e p cs)
unfolding consume is_free
stays-consumed e p [] m h = m
stays-consumed {d} e p (x ∷ cs) m h = elim (Laws.true-or-false (is_free p x)) [
  | inl q ↦ elim (Memᴰ.cases_cons m) [
    | inl z ↦ Laws.clash (Laws.and-true (eqb x.place p) (is_none x.consumer) q).1 (ap (λ (c : Condition). is_none c.consumer) (sym z) ∙ h)
    | inr a ↦ rw q (there a)
  ]
  | inr q ↦ elim (Memᴰ.cases_cons m) [ inl z ↦ rw q (Memᴰ.head z) | inr a ↦ rw q (there (stays-consumed e p cs a h)) ]
]

stays-taken : {d : Condition} (xs : List Flow) (cs : List Condition) → In d cs → is_none d.consumer ≡ false → In d (taking xs cs)
unfolding taking
stays-taken [] cs m h = m
stays-taken (x ∷ xs) cs m h = stays-taken xs (take_one x cs) (stays-consumed x.event x.place cs m h) h

-- any other stays, or is consumed
consumed-or-not : {c : Condition} (e p : ℕ) (cs : List Condition) → In c cs → In c (consume e p cs) ⊎ ((c.consumer ≡ none) × In (consumed_by e c) (consume e p cs))
unfolding consume
consumed-or-not e p [] m = inl m
consumed-or-not {c} e p (x ∷ cs) m = elim (Laws.true-or-false (is_free p x)) [
  | inl q ↦ elim (Memᴰ.cases_cons m) [
    | inl z ↦ inr (ap (λ (d : Condition). d.consumer) z ∙ (free-is x q).1, rw q (Memᴰ.head (ap (consumed_by e) z)))
    | inr a ↦ inl (rw q (there a))
  ]
  | inr q ↦ elim (Memᴰ.cases_cons m) [
    | inl z ↦ inl (rw q (Memᴰ.head z))
    | inr a ↦ elim (consumed-or-not e p cs a) [ inl b ↦ inl (rw q (there b)) | inr b ↦ inr (b.0, rw q (there b.1)) ]
  ]
]

taken-or-not : {c : Condition} (xs : List Flow) (cs : List Condition) → In c cs
    → In c (taking xs cs) ⊎ ((x : Flow) × In x xs × (c.consumer ≡ none) × In (consumed_by x.event c) (taking xs cs))
unfolding taking consumed_by is_none
taken-or-not [] cs m = inl m
taken-or-not (x ∷ xs) cs m = elim (consumed-or-not x.event x.place cs m) [
  | inl a ↦ elim (taken-or-not xs (take_one x cs) a) [ inl b ↦ inl b | inr b ↦ inr (b.0, there b.1, b.2, b.3) ]
  | inr a ↦ inr (x, here, a.0, stays-taken xs (take_one x cs) a.1 refl)
]

-- after a step a condition is as it was, or one of the step's events has taken it
pub in_taken : {c : Condition} (N : Net) (e : ℕ) (ts : List ℕ) (cs : List Condition) → In c cs
    → In c (take_all N e ts cs) ⊎ ((f : ℕ) × (e ≤ f) × (f < e + length ts) × (c.consumer ≡ none) × In (consumed_by f c) (take_all N e ts cs))
in_taken N e ts cs m = elim (taken-or-not (takings N e ts) cs m) [
  | inl a ↦ inl (rw (take_all-taking N e ts cs) a)
  | inr a ↦ let b = in-flows (takes N) (places N) e ts a.1 in inr (a.0.event, b.0, b.1, a.2, rw (take_all-taking N e ts cs) a.3)
]
