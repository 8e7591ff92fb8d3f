-- The places of a row, added to an array or taken from it one after the other by what they weigh, and looked at.
use Prim.Native.Nat.{ℕ, ◌+◌, ◌-◌, ◌≤◌, ◌<◌}
use mathlib.Core.Path.{◌≡◌, refl, sym, ◌∙◌}
use mathlib.Core.Bool.{Bool, true, false, beq}
use mathlib.Core.List.{List}
use native.Mathlib.Decide.{ℕ_discrete, dec_lt}
use native.Mathlib.Omega.{arith}
use lib.Dec.{ltb}
use lib.Count.{count_trailing_zeros}
use lib.ListN.{length, get_or, set, length-set}
use lib.Seq.{get_or-set_same, get_or-set_other}
use Rattle.bit_sets.specs.Bits.{bit}
use Rattle.arc_sets.specs.Sets.{more_at, weight_at}
use Rattle.arc_sets.specs.Weights.{weight-none, weight-some}
use Rattle.arc_sets.specs.Walk.{Left, without}
pub use Rattle.arc_sets.specs.Walk.{Lowest, at-lowest}
use Rattle.steps.specs.StepArrays.{is_filled, Addable, AddedTo, AddedRow, Payable, TakenRow, Within32}

-- ---- adding

module _ {from : ℕ} {w : ℕ → ℕ} where
  pub added_none : (xs : List ℕ) → AddedTo from w 0 xs xs
  added_none xs = record { long = refl; before = λ i h. refl; here = λ i h. absurd (omega arith); beyond = λ i h. refl }

  -- places that weigh nothing add nothing
  added-skip : {d : ℕ} {old new : List ℕ} (i : ℕ) → d ≤ i → ((j : ℕ) → d ≤ j → j < i → w j ≡ 0) → AddedTo from w d old new → AddedTo from w i old new
  added-skip {d} i h z a = record {
    long = a.long;
    before = a.before;
    here = λ j l. elim (dec_lt j d) [ yes k ↦ a.here j k | no k ↦ omega (arith, a.beyond j (omega arith), z j (omega arith) l) ];
    beyond = λ j l. a.beyond j (omega arith);
  }

  added-one : {old new : List ℕ} {i v : ℕ} → v ≡ w i → from + i < length old → AddedTo from w i old new → AddedTo from w (i + 1) old (set new (from + i) (get_or new (from + i) 0 + v))
  added-one {old} {new} {i} {v} e h a = record {
    long = length-set new (from + i) _ ∙ a.long;
    before = λ j l. get_or-set_other new (from + i) j _ 0 (λ e. omega arith) ∙ a.before j l;
    here = λ j l. elim (ℕ_discrete j i) [
      | yes q ↦ rw q (get_or-set_same new (from + i) _ 0 (omega (arith, a.long)) ∙ omega (arith, a.beyond i (omega arith)))
      | no d ↦ get_or-set_other new (from + i) (from + j) _ 0 (λ e. omega arith) ∙ a.here j (omega arith)
    ];
    beyond = λ j l. get_or-set_other new (from + i) (from + j) _ 0 (λ e. omega arith) ∙ a.beyond j (omega arith);
  }

  added-end : {d : ℕ} {old new : List ℕ} → ((j : ℕ) → d ≤ j → w j ≡ 0) → AddedTo from w d old new → AddedRow from w old new
  added-end {d} z a = record { long = a.long; before = a.before; here = λ j. elim (dec_lt j d) [ yes k ↦ a.here j k | no k ↦ omega (arith, a.beyond j (omega arith), z j (omega arith)) ] }

module _ (sets : List ℕ) (row : ℕ) where
  -- what one turn of the loop needs and does, where v is the weight that it reads
  pub record Adding (from : ℕ) (old : List ℕ) (bits i : ℕ) (new : List ℕ) : Type 0 where
    pub low : i < 32
    pub index : from + i < length new
    pub room : {v : ℕ} → v ≡ 1 + more_at sets row i → get_or new (from + i) 0 + v ≤ 4294967295
    pub less : without bits i < bits
    pub next : {v : ℕ} → v ≡ 1 + more_at sets row i
        → (n : ℕ) × Left (get_or sets row 0) (without bits i) n × AddedTo from (weight_at sets row) n old (set new (from + i) (get_or new (from + i) 0 + v))

  pub adding : {from bits d i : ℕ} {old new : List ℕ} → Addable from (weight_at sets row) old → Left (get_or sets row 0) bits d → AddedTo from (weight_at sets row) d old new → i ≡ count_trailing_zeros 64 bits → (bits ≡ 0 → ⊥) → Adding from old bits i new
  adding {from} {bits} {d} {i} {old} {new} R L A t z = record {
    low = r.0;
    index = omega (arith, r, A.long);
    room = λ e. omega (arith, r, A.beyond i w.within, weight-some sets row i w.set);
    less = w.less;
    next = λ e. (i + 1, w.next, added-one (e ∙ sym (weight-some sets row i w.set)) r.1 (added-skip i w.within (λ j k l. weight-none sets row j (w.passed j k l)) A));
  }
    where
      w : Lowest (get_or sets row 0) bits d i
      w = at-lowest L t z

      r : (i < 32) × (from + i < length old) × (get_or old (from + i) 0 + weight_at sets row i ≤ 4294967295)
      r = R i (omega (arith, weight-some sets row i w.set))

  -- all places of the set are passed
  pub added-all : {from d : ℕ} {old new : List ℕ} → ((j : ℕ) → d ≤ j → bit (get_or sets row 0) j ≡ 0) → AddedTo from (weight_at sets row) d old new → AddedRow from (weight_at sets row) old new
  added-all z A = added-end (λ j h. weight-none sets row j (z j h)) A

-- ---- taking

-- what the first n places weigh is taken
pub record TakenTo (w : ℕ → ℕ) (n : ℕ) (old new : List ℕ) : Type 0 where
  pub long : length new ≡ length old
  pub here : (i : ℕ) → i < n → get_or new i 0 ≡ get_or old i 0 - w i
  pub beyond : (i : ℕ) → n ≤ i → get_or new i 0 ≡ get_or old i 0

module _ {w : ℕ → ℕ} where
  pub taken_none : (xs : List ℕ) → TakenTo w 0 xs xs
  taken_none xs = record { long = refl; here = λ i h. absurd (omega arith); beyond = λ i h. refl }

  taken-skip : {d : ℕ} {old new : List ℕ} (i : ℕ) → d ≤ i → ((j : ℕ) → d ≤ j → j < i → w j ≡ 0) → TakenTo w d old new → TakenTo w i old new
  taken-skip {d} i h z a = record {
    long = a.long;
    here = λ j l. elim (dec_lt j d) [ yes k ↦ a.here j k | no k ↦ omega (arith, a.beyond j (omega arith), z j (omega arith) l) ];
    beyond = λ j l. a.beyond j (omega arith);
  }

  taken-one : {old new : List ℕ} {i v : ℕ} → v ≡ w i → i < length old → TakenTo w i old new → TakenTo w (i + 1) old (set new i (get_or new i 0 - v))
  taken-one {old} {new} {i} {v} e h a = record {
    long = length-set new i _ ∙ a.long;
    here = λ j l. elim (ℕ_discrete j i) [
      | yes q ↦ rw q (get_or-set_same new i _ 0 (omega (arith, a.long)) ∙ omega (arith, a.beyond i (omega arith)))
      | no d ↦ get_or-set_other new i j _ 0 d ∙ a.here j (omega arith)
    ];
    beyond = λ j l. get_or-set_other new i j _ 0 (λ e. omega arith) ∙ a.beyond j (omega arith);
  }

  taken-end : {d : ℕ} {old new : List ℕ} → ((j : ℕ) → d ≤ j → w j ≡ 0) → TakenTo w d old new → TakenRow w old new
  taken-end {d} z a = record { long = a.long; here = λ j. elim (dec_lt j d) [ yes k ↦ a.here j k | no k ↦ omega (arith, a.beyond j (omega arith), z j (omega arith)) ] }

module _ (sets : List ℕ) (row : ℕ) where
  pub record Taking (old : List ℕ) (bits i : ℕ) (new : List ℕ) : Type 0 where
    pub low : i < 32
    pub some : {v : ℕ} → v ≡ 1 + more_at sets row i → v ≤ get_or new i 0
    pub less : without bits i < bits
    pub next : {v : ℕ} → v ≡ 1 + more_at sets row i → (n : ℕ) × Left (get_or sets row 0) (without bits i) n × TakenTo (weight_at sets row) n old (set new i (get_or new i 0 - v))

  pub taking : {bits d i : ℕ} {old new : List ℕ} → length old ≡ 32 → Payable (weight_at sets row) old → Left (get_or sets row 0) bits d → TakenTo (weight_at sets row) d old new → i ≡ count_trailing_zeros 64 bits → (bits ≡ 0 → ⊥) → Taking old bits i new
  taking {bits} {d} {i} {old} {new} e R L A t z = record {
    low = r.0;
    some = λ q. omega (arith, r, A.beyond i w.within, weight-some sets row i w.set);
    less = w.less;
    next = λ q. (i + 1, w.next, taken-one (q ∙ sym (weight-some sets row i w.set)) (omega (arith, r)) (taken-skip i w.within (λ j k l. weight-none sets row j (w.passed j k l)) A));
  }
    where
      w : Lowest (get_or sets row 0) bits d i
      w = at-lowest L t z

      r : (i < 32) × (weight_at sets row i ≤ get_or old i 0)
      r = R i (omega (arith, weight-some sets row i w.set))

  pub taken-all : {d : ℕ} {old new : List ℕ} → ((j : ℕ) → d ≤ j → bit (get_or sets row 0) j ≡ 0) → TakenTo (weight_at sets row) d old new → TakenRow (weight_at sets row) old new
  taken-all z A = taken-end (λ j h. weight-none sets row j (z j h)) A

-- ---- looking

-- two tests compared, as the code asks for tokens or for none
pub filled_is : (b : Bool) (v : ℕ) → is_filled b v ≡ beq (ltb 0 v) b
unfolding is_filled
filled_is b v = go b (ltb 0 v) refl
  where
    go : (b t : Bool) → ltb 0 v ≡ t → is_filled b v ≡ beq t b
    go true true e = e
    go true false e = e
    go false true e = rw e
    go false false e = rw e

-- no place so far passes a test
pub record NoneTo (q : ℕ → Bool) (word n : ℕ) (xs : List ℕ) : Type 0 where
  pub fails : (i : ℕ) → i < n → bit word i ≡ 1 → q (get_or xs i 0) ≡ false

pub none-next : {q : ℕ → Bool} {word bits d i : ℕ} {xs : List ℕ} → Left word bits d → NoneTo q word d xs → i ≡ count_trailing_zeros 64 bits → (bits ≡ 0 → ⊥) → q (get_or xs i 0) ≡ false → Left word (without bits i) (i + 1) × NoneTo q word (i + 1) xs
none-next {q} {word} {bits} {d} {i} {xs} L E t z h = (
  w.next,
  record {
    fails = λ j l b. elim (ℕ_discrete j i) [
      | yes e ↦ rw e h
      | no n ↦ elim (dec_lt j d) [ yes k ↦ E.fails j k b | no k ↦ absurd (omega (arith, w.passed j (omega arith) (omega arith), b)) ]
    ];
  },
)
  where
    w : Lowest word bits d i
    w = at-lowest L t z

-- a place of the set is one of the array
pub looks : (word i : ℕ) → Within32 word → bit word i ≡ 1 → i < 32
looks word i R b = elim (dec_lt i 32) [ yes h ↦ h | no h ↦ absurd (omega (arith, R i (omega arith), b)) ]

pub none-all : {q : ℕ → Bool} {word d : ℕ} {xs : List ℕ} → ((j : ℕ) → d ≤ j → bit word j ≡ 0) → NoneTo q word d xs → (j : ℕ) → bit word j ≡ 1 → q (get_or xs j 0) ≡ false
none-all {d = d} z E j b = elim (dec_lt j d) [ yes k ↦ E.fails j k b | no k ↦ absurd (omega (arith, z j (omega arith), b)) ]
