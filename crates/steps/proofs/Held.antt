-- What is read, judged and played on arrays is what the definitions say of the step and the marking that they hold.
use Prim.Native.Nat.{ℕ, ◌+◌, ◌-◌, ◌≤◌, ◌<◌, max}
use mathlib.Core.Path.{◌≡◌, sym, ap, ap₂, ◌∙◌}
use mathlib.Core.Bool.{Bool, true, false, not, ◌&&◌, ◌||◌, and-false}
use mathlib.Core.Logic.{inl, inr}
use mathlib.Core.List.{List}
use native.Mathlib.Decide.{dec_lt}
use native.Mathlib.Omega.{arith}
use lib.Dec.{ltb}
use lib.ListN.{length, get_or, take, replicate, length-map, get_or-eq_default}
use lib.Seq.{get_or-take, length-take-le}
use borrow.Author.Tests.{ltb-false, lt-ltb, le-ltb}
use Rattle.spec.specs.Answer.{gives, refuses, ◌>>◌, refuse◌at◌when◌}
use Rattle.spec.specs.Lists.{In, any, up_to, as_count}
use Rattle.spec.specs.Net.{Net as NetD, places, takes, makes, inhibits, reads}
use Rattle.spec.specs.Step.{taken, made, needed, short, inhibited, play}
use Rattle.lists.specs.Laws
use Rattle.lists.specs.Laws.{at_in, sum_of-same, in-up_to, length-up_to, get_or-table}
use Rattle.lists.specs.Arrays.{blank}
use Rattle.lists.specs.Along.{any-agree, some-counted}
use Rattle.lists.specs.Among.{any-or}
use Rattle.net.specs.NetArrays.{Holds}
use Rattle.net.specs.declared.Net.{Net}
use Rattle.number_lines.specs.Numbers.{Few, Begins}
use Rattle.bit_sets.specs.Bits.{bit, bit-most}
use Rattle.arc_sets.specs.Sets.{arc_at, Says, HoldsArcs}
use Rattle.steps.specs.StepArrays.{HoldsStep, over, Summed, Joined, HoldsMarking, falls, is_filled, SomePlace, Playable, MovedBy}
use Rattle.steps.specs.Judged.{judge_step}
use Rattle.steps.proofs.Rows.{over-past}

-- ---- a step

-- the numbers of a line are a step
pub step-held : {xs ts : List ℕ} {count : ℕ} → count ≡ length ts → Few 128 32 ts → Begins xs ts → HoldsStep xs count ts
step-held {xs} {ts} {count} e f b = record {
  step = record {
    long = b.long;
    few = omega (arith, f.few);
    known = λ i h. rw (← get_or-take count xs i 0 h, events) (f.low _ (at_in 0 ts i (omega arith)));
  };
  events = events;
}
  where
    events : take count xs ≡ ts
    events = rw e b.numbers

pub step-length : {xs ts : List ℕ} {count : ℕ} → HoldsStep xs count ts → length ts ≡ count
step-length {xs} {count = count} s = ap length (sym s.events) ∙ length-take-le count xs (omega (arith, s.step.long, s.step.few))

-- ---- a net's sets, summed over a step

module _ {N : NetD} {sets : List ℕ} {m : ℕ} (A : HoldsArcs N sets m) {xs ts : List ℕ} {count : ℕ} (S : HoldsStep xs count ts) (K : (t : ℕ) → In t ts → t < N.transitions) where
  -- what the sets say of a place is what the definitions say
  pub over-held : (a : ℕ) {f : ℕ → ℕ → ℕ} → Says N m sets a f → (p : ℕ) → p < m → over (arc_at sets a) (take count xs) p ≡ over f ts p
  over-held a C p h = ap (λ zs. over (arc_at sets a) zs p) S.events ∙ sum_of-same _ _ ts (λ t i. C t p (K t i) h)

  -- and nothing of a place beyond
  pub over-beyond : (a p : ℕ) → a ≤ 96 → m ≤ p → over (arc_at sets a) (take count xs) p ≡ 0
  over-beyond a p l h = over-past S.step sets a l A.within p h

-- ---- a marking

-- the tokens that a net begins with
pub initial-held : {n : Net} {m : NetD} {xs : List ℕ} → Holds n m → xs ≡ n.tokens → HoldsMarking n.places xs m.tokens
initial-held h e = rw e record {
  long = h.counts.long;
  few = h.counts.few_places;
  places = sym h.counts.places;
  tokens = h.counts.tokens;
}

-- fewer than the greater of two is fewer than one of them
below-either : (v k : ℕ) (d : Bool) → ltb v (max k (as_count d)) ≡ (ltb v k || (is_filled false v && d))
unfolding is_filled as_count
below-either v k true = elim (dec_lt v k) [
  | yes h ↦ rw (lt-ltb v (max k 1) (omega arith), lt-ltb v k h)
  | no h ↦ elim (dec_lt 0 v) [
    | yes u ↦ rw (le-ltb v (max k 1) (omega arith), le-ltb v k (omega arith), lt-ltb 0 v u)
    | no u ↦ rw (lt-ltb v (max k 1) (omega arith), le-ltb v k (omega arith), le-ltb 0 v (omega arith))
  ]
]
below-either v k false = elim (dec_lt v k) [
  | yes h ↦ rw (lt-ltb v (max k 0) (omega arith), lt-ltb v k h)
  | no h ↦ rw (le-ltb v (max k 0) (omega arith), le-ltb v k (omega arith), and-false (not (ltb 0 v)))
]

-- two tests that agree at each place
any-places : {n k : ℕ} (f g : ℕ → Bool) → n ≡ k → ((p : ℕ) → p < n → f p ≡ g p) → any f (up_to n) ≡ any g (up_to k)
any-places {n} f g e h = any-agree f g (up_to n) (λ p m. h p (in-up_to n m)) ∙ ap (λ (j : ℕ). any g (up_to j)) e

module _ {N : NetD} {sets : List ℕ} {m : ℕ} (A : HoldsArcs N sets m) {xs ts : List ℕ} {count : ℕ} (S : HoldsStep xs count ts) (K : (t : ℕ) → In t ts → t < N.transitions)
    {marking mk : List ℕ} (H : HoldsMarking m marking mk) where
  -- some place of the sets from a on is as asked
  pub some-held : (a : ℕ) (w : ℕ → ℕ → Bool) (b : Bool) {set : ℕ} {r : Bool} → a ≤ 96 → Says N m sets a (λ t p. as_count (w p t)) → Joined (arc_at sets a) (take count xs) set → SomePlace marking set b r
      → r ≡ any (λ p. is_filled b (get_or mk p 0) && any (w p) ts) (up_to (places N))
  some-held a w b {set} {r} front C G B = elim (Laws.true-or-false r) [
    | inl e ↦ e ∙ sym (found (B.found e))
    | inr e ↦ e ∙ sym (Laws.none_any test (up_to (places N)) (λ p i. none (B.none e) p (Laws.in-up_to (places N) i)))
  ]
    where
      test : ℕ → Bool
      test p = is_filled b (get_or mk p 0) && any (w p) ts

      by-sum : (p : ℕ) → p < m → ltb 0 (over (arc_at sets a) (take count xs) p) ≡ any (w p) ts
      by-sum p l = ap (ltb 0) (over-held A S K a C p l) ∙ some-counted (w p) ts

      found : (p : ℕ) × (bit set p ≡ 1) × (is_filled b (get_or marking p 0) ≡ true) → any test (up_to (places N)) ≡ true
      found x = elim (dec_lt x.0 m) [
        | yes l ↦ Laws.any-in test x.0 (up_to (places N)) (Laws.up_to-in (places N) (omega (arith, A.places)))
            (rw (← H.tokens x.0, x.2, ← by-sum x.0 l) (lt-ltb 0 (over (arc_at sets a) (take count xs) x.0) (G.some x.0 x.1)))
        | no l ↦ absurd (omega (arith, G.some x.0 x.1, over-beyond A S K a x.0 front (omega arith)))
      ]

      none : ((p : ℕ) → bit set p ≡ 1 → is_filled b (get_or marking p 0) ≡ false) → (p : ℕ) → p < places N → test p ≡ false
      none c p l = elim (dec_lt 0 (bit set p)) [
        | yes q ↦ rw (← H.tokens p, c p (omega (arith, bit-most set p)))
        | no q ↦ rw (← by-sum p (omega (arith, A.places)), le-ltb 0 (over (arc_at sets a) (take count xs) p) (omega (arith, G.none p (omega arith)))) (and-false (is_filled b (get_or mk p 0)))
      ]

  -- 24: what is taken, and then what is read
  abbrev taken-short : ℕ → Bool
  taken-short p = ltb (get_or mk p 0) (taken N ts p)

  abbrev read_short : ℕ → Bool
  read_short p = is_filled false (get_or mk p 0) && any (reads N p) ts

  short-parts : short N mk ts ≡ (any taken-short (up_to (places N)) || any read_short (up_to (places N)))
  unfolding short needed
  short-parts = any-agree _ _ (up_to (places N)) (λ p i. below-either (get_or mk p 0) (taken N ts p) (any (reads N p) ts)) ∙ any-or taken-short read_short (up_to (places N))

  falls-held : {tk : List ℕ} → Summed (arc_at sets 0) (take count xs) 0 (replicate 32 0) tk → falls marking tk m ≡ any taken-short (up_to (places N))
  unfolding falls taken
  falls-held {tk} U = any-places _ _ A.places (λ p l. ap₂ ltb (H.tokens p) (taken_at p l))
    where
      taken_at : (p : ℕ) → p < m → get_or tk p 0 ≡ over (takes N) ts p
      taken_at p l = omega (arith, U.here p (omega (arith, A.few)), ap (λ (z : ℕ). get_or tk z 0) front, ap {B = ℕ} (λ (z : ℕ). get_or (replicate 32 0) z 0) front, blank 32 p, over-held A S K 0 A.inputs p l)
        where
          front : 0 + p ≡ p
          front = omega arith

  module _ {tk : List ℕ} (U : Summed (arc_at sets 0) (take count xs) 0 (replicate 32 0) tk) where
    pub short-taken : falls marking tk m ≡ true → short N mk ts ≡ true
    short-taken e = short-parts ∙ rw (← falls-held U, e)

    pub short-read : {set : ℕ} {r : Bool} → falls marking tk m ≡ false → Joined (arc_at sets 96) (take count xs) set → SomePlace marking set false r → r ≡ short N mk ts
    short-read e G B = some-held 96 (reads N) false (omega arith) A.reads G B ∙ sym (short-parts ∙ rw (← falls-held U, e))

  -- 25
  pub inhibited-held : {set : ℕ} {r : Bool} → Joined (arc_at sets 64) (take count xs) set → SomePlace marking set true r → r ≡ inhibited N mk ts
  unfolding inhibited is_filled
  inhibited-held G B = some-held 64 (inhibits N) true (omega arith) A.inhibitors G B

  -- what is not short can be played
  pub playable : ((p : ℕ) → p < m → get_or mk p 0 ≤ 512) → short N mk ts ≡ false → Playable sets (take count xs) marking
  unfolding short needed taken
  playable low e = record {
    long = H.long;
    within = λ i p k h. A.within i p k (omega (arith, A.few));
    enough = λ p. elim (dec_lt p m) [
      | yes l ↦ omega (arith, over-held A S K 0 A.inputs p l, H.tokens p, ltb-false (get_or mk p 0) (needed N ts p) (Laws.any_none (λ p. ltb (get_or mk p 0) (needed N ts p)) (up_to (places N)) e p (Laws.up_to-in (places N) (omega (arith, A.places)))))
      | no l ↦ omega (arith, over-beyond A S K 0 p (omega arith) (omega arith))
    ];
    fits = λ p h. elim (dec_lt p m) [
      | yes l ↦ omega (arith, H.tokens p, low p l)
      | no l ↦ omega (arith, H.tokens p, none p (omega arith))
    ];
  }
    where
      none : (p : ℕ) → m ≤ p → get_or mk p 0 ≡ 0
      none p l = get_or-eq_default mk 0 (omega (arith, H.places))

  -- the marking after the step
  pub play-held : {new : List ℕ} → MovedBy sets (take count xs) marking new → HoldsMarking m new (play N mk ts)
  unfolding play taken made
  play-held {new} w = record {
    long = w.long ∙ H.long;
    few = H.few;
    places = long;
    tokens = λ p. elim (dec_lt p m) [
      | yes l ↦ w.here p (omega (arith, H.few)) ∙ here p l ∙ sym (get_or-table _ (places N) p 0 (omega (arith, A.places)))
      | no l ↦ beyond p (omega arith) ∙ sym (none (play N mk ts) p (omega (arith, long)))
    ];
  }
    where
      none : (zs : List ℕ) (p : ℕ) → length zs ≤ p → get_or zs p 0 ≡ 0
      none zs p l = get_or-eq_default zs 0 l

      here : (p : ℕ) → p < m → get_or marking p 0 - over (arc_at sets 0) (take count xs) p + over (arc_at sets 32) (take count xs) p ≡ get_or mk p 0 - over (takes N) ts p + over (makes N) ts p
      here p l = rw (H.tokens p, over-held A S K 0 A.inputs p l, over-held A S K 32 A.outputs p l)

      beyond : (p : ℕ) → m ≤ p → get_or new p 0 ≡ 0
      beyond p h = elim (dec_lt p 32) [
        | yes l ↦ omega (arith, w.here p l, H.tokens p, none mk p (omega (arith, H.places)), over-beyond A S K 32 p (omega arith) h)
        | no l ↦ none new p (omega (arith, w.long, H.long))
      ]

      long : length (play N mk ts) ≡ m
      long = length-map (up_to (places N)) _ ∙ length-up_to (places N) ∙ sym A.places

-- ---- the answer

module _ (N : NetD) (k : ℕ) (mk ts : List ℕ) where
  pub judged-24 : short N mk ts ≡ true → judge_step N k mk ts ≡ refuses 24 k
  unfolding judge_step ◌>>◌ refuse◌at◌when◌
  judged-24 a = rw a

  pub judged-25 : short N mk ts ≡ false → inhibited N mk ts ≡ true → judge_step N k mk ts ≡ refuses 25 k
  unfolding judge_step ◌>>◌ refuse◌at◌when◌
  judged-25 a b = rw (a, b)

  pub judged-on : short N mk ts ≡ false → inhibited N mk ts ≡ false → judge_step N k mk ts ≡ gives tt
  unfolding judge_step ◌>>◌ refuse◌at◌when◌
  judged-on a b = rw (a, b)

  -- and what a step that is enabled passed
  pub judged-tests : judge_step N k mk ts ≡ gives tt → (short N mk ts ≡ false) × (inhibited N mk ts ≡ false)
  judged-tests e = elim (Laws.true-or-false (short N mk ts)) [
    | inl a ↦ not-given (sym (judged-24 a) ∙ e)
    | inr a ↦ elim (Laws.true-or-false (inhibited N mk ts)) [ inl b ↦ not-given (sym (judged-25 a b) ∙ e) | inr b ↦ (a, b) ]
  ]
    where
      not-given : {A B : Type 0} {n s : ℕ} {v : A} → refuses n s ≡ gives v → B
      not-given q = let z : ◌≡◌ {A = ℕ} 0 1 = cc in absurd (omega arith)
