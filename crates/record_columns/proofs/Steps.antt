-- What the definitions answer to one event, one condition, one mark, by the tests of the code.
use Prim.Native.Nat.{ℕ, suc, ◌≤◌, ◌<◌}
use mathlib.Core.Path.{◌≡◌, refl, sym, ap, ◌∙◌}
use mathlib.Core.Bool.{Bool, true, false, not, ◌&&◌, ◌||◌, and-false}
use mathlib.Core.Option.{Option, none, some}
use mathlib.Core.List.{List, [], ◌∷◌}
use native.Mathlib.Omega.{arith}
use lib.Dec.{eqb, ltb, leb}
use lib.ListN.{length}
use borrow.Author.Tests.{lt-ltb, le-ltb, ltb-true, ne_eqb}
use Rattle.spec.specs.Answer.{Answer, gives, refuses, ◌>>◌, refuse◌at◌when◌}
use Rattle.spec.specs.Net.{Net, places}
use Rattle.spec.specs.Record.{RunRecord, Condition, Mark, slot_of, marked}
use Rattle.spec.specs.Process.{is_below}
use Rattle.spec.specs.Checking.{is_empty, with_event, with_condition, with_mark, enter_event, enter_condition, enter_mark}
use Rattle.spec.specs.declared.Limits.{Limits}
use Rattle.lists.specs.Laws.{and-true, not-is-false}
use Rattle.reach.specs.Rows.{cell_of}
use Rattle.record_columns.specs.Layout.{event_code, mark_slots, mark_row, HoldsRecord, HoldsMarks}
use Rattle.record_columns.proofs.Marks.{marked-value}

-- ---- three refusals of a line in a row

module _ {A : Type 0} (k x : ℕ) (s : Bool) (y : ℕ) (t : Bool) (z : ℕ) (u : Bool) (a : A) where
  unfoldable pub judged : Answer A
  judged = refuse x at k when s >> (refuse y at k when t >> (refuse z at k when u >> gives a))

  pub first : s ≡ true → judged ≡ refuses x k
  unfolding judged ◌>>◌ refuse◌at◌when◌
  first e = rw e

  pub second : s ≡ false → t ≡ true → judged ≡ refuses y k
  unfolding judged ◌>>◌ refuse◌at◌when◌
  second e f = rw (e, f)

  pub third : s ≡ false → t ≡ false → u ≡ true → judged ≡ refuses z k
  unfolding judged ◌>>◌ refuse◌at◌when◌
  third e f g = rw (e, f, g)

  pub through : s ≡ false → t ≡ false → u ≡ false → judged ≡ gives a
  unfolding judged ◌>>◌ refuse◌at◌when◌
  through e f g = rw (e, f, g)

pub not-and : (a b : Bool) → not (a && b) ≡ (not a || not b)
not-and true b = refl
not-and false b = refl

empty-is : {A : Type 0} (xs : List A) → is_empty xs ≡ eqb (length xs) 0
unfolding is_empty
empty-is [] = refl
empty-is (x ∷ xs) = sym (ne_eqb (suc (length xs)) 0 (omega arith))

module _ {n m q : ℕ} {b : List ℕ} {R : RunRecord} (h : HoldsRecord n m q b R) (lim : Limits) (k : ℕ) where
  pub event-is : {ts : ℕ} (N : Net) (t : ℕ) → N.transitions ≡ ts → enter_event lim N k t R ≡ judged k 31 (not (eqb m 0) || not (eqb q 0)) 32 (leb lim.events n) 33 (leb ts t) (with_event t R)
  unfolding enter_event judged
  event-is N t d = rw (h.events, h.conditions, h.marks, ← d, ← empty-is R.conditions, ← empty-is R.marks, not-and (is_empty R.conditions) (is_empty R.marks))

  pub condition-is : {ps : ℕ} (N : Net) (c : Condition) → places N ≡ ps
      → enter_condition lim N k c R ≡ judged k 31 (not (eqb q 0)) 32 (leb lim.conditions m) 33 (not (ltb c.place ps && is_below n c.producer && is_below n c.consumer)) (with_condition c R)
  unfolding enter_condition judged
  condition-is N c d = rw (h.events, h.conditions, h.marks, ← d, empty-is R.marks)

  pub mark-is : (w : Mark) → enter_mark lim k w R ≡ judged k 32 (leb lim.marks q) 33 (not (ltb w.condition m && ltb w.event n)) 34 (marked R (slot_of w.kind) w.condition w.event) (with_mark w R)
  unfolding enter_mark judged
  mark-is w = rw (h.events, h.conditions, h.marks)

-- whether there is a mark is read in the words
pub mark-read : {words : List ℕ} {R : RunRecord} → HoldsMarks words R → (s c e : ℕ) → s < mark_slots → marked R s c e ≡ ltb 0 (cell_of words (mark_row c s) e)
mark-read {R} f s c e l = marked-value R s c e ∙ ap (ltb 0) (sym (f.cell s c e l))

-- ---- numbers that are declared

module _ (c m e n : ℕ) where
  pub no-condition : m ≤ c → not (ltb c m && ltb e n) ≡ true
  no-condition l = rw (le-ltb c m l)

  pub no-event : n ≤ e → not (ltb c m && ltb e n) ≡ true
  no-event l = rw (le-ltb e n l, and-false (ltb c m))

  pub both-declared : c < m → e < n → not (ltb c m && ltb e n) ≡ false
  both-declared l u = rw (lt-ltb c m l, lt-ltb e n u)

-- a place, a producer and a consumer that are declared fit a byte

pub record Known (p ps : ℕ) (x y : Option ℕ) : Type 0 where
  pub place : p < ps
  pub producer : event_code x ≤ 128
  pub consumer : event_code y ≤ 128

pub code-small : (n : ℕ) (o : Option ℕ) → n ≤ 128 → is_below n o ≡ true → event_code o ≤ 128
unfolding is_below
code-small n none l e = omega arith
code-small n (some f) l e = omega (arith, ltb-true f n e)

pub known : (p ps n : ℕ) (x y : Option ℕ) (s t : Bool) → s ≡ is_below n x → t ≡ is_below n y → n ≤ 128 → not (ltb p ps && s && t) ≡ false → Known p ps x y
known p ps n x y s t e f l q =
    let z = and-true (ltb p ps && s) t (not-is-false (ltb p ps && s && t) q) in
    let w = and-true (ltb p ps) s z.0 in
    record { place = ltb-true p ps w.0; producer = code-small n x l (sym e ∙ w.1); consumer = code-small n y l (sym f ∙ z.1) }
