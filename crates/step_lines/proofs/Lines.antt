-- Each part of a line is judged as the definitions say, and so is the line.
use Prim.Native.Nat.{ℕ, ◌+◌, ◌-◌, ◌≤◌, ◌<◌}
use mathlib.Core.Path.{◌≡◌, refl, sym, ap, ◌∙◌}
use mathlib.Core.Bool.{true, false}
use mathlib.Core.List.{List}
use native.Mathlib.Decide.{dec_lt}
use native.Mathlib.Omega.{arith}
use lib.Dec.{leb}
use lib.ListN.{length}
use borrow.Author.Tests.{lt-ltb, le-ltb, leb-false}
use Rattle.spec.specs.Answer.{Answer, gives, refuses, ◌>>=◌, ◌>>◌, refuse◌at◌when◌}
use Rattle.spec.specs.Lists.{any}
use Rattle.spec.specs.Text.{Line, most_digits, named, in_digits, class_of}
use Rattle.spec.specs.Classes.{alike}
use Rattle.line_forms.specs.Rows.{is_list}
use Rattle.line_forms.proofs.Ties.{list-line, list-some}
use Rattle.spec.specs.Net.{Net}
use Rattle.spec.specs.Building.{is_step_line}
use Rattle.lists.specs.Laws
use Rattle.byte_entries.specs.Entries.{class_by}
use Rattle.lines.specs.Agree.{Agrees, giving, refusing}
use Rattle.lines.specs.Lines.{line_of}
use Rattle.plain_lines.specs.Plain.{LetterEntry}
use Rattle.plain_lines.proofs.Plain.{letter-entry}
use Rattle.number_lines.specs.Numbers.{Begins}
use Rattle.number_lines.proofs.Lines.{few-known}
use Rattle.arc_sets.specs.Sets.{HoldsArcs}
use Rattle.steps.specs.StepArrays.{IsStep, HoldsMarking}
use Rattle.steps.specs.Judged.{numbers_in, read_step, count_step, judge_step, line_at, step_refused, nothing, Judges}
use Rattle.steps.specs.declared.Position.{Position}
use Rattle.std.specs.Prelude.{Result, Ok, Err}
use Rattle.steps.specs.declared.StepRefusal.{StepRefusal}
use Rattle.steps.specs.declared.StepRefusal.TheVariants.{Malformed, UnknownTransition, OverEvents, TooFewTokens, Inhibited}
use Rattle.steps.proofs.Held.{step-held}
use Rattle.step_lines.specs.Lines.{Named, ReadLine, HasStep, Enabled}

-- a line of a log has a number
some_number : (l : Line) → is_step_line l ≡ true → 0 < length (numbers_in l)
unfolding is_step_line
some_number l e = list-some l "S" e

-- the letter of a step, by its entry
pub letter-step : LetterEntry 18
letter-step = letter-entry 18 (omega arith) (omega arith)

pub list-step : (b : List ℕ) → is_list most_digits (class_by 18) b ≡ true → is_step_line (line_of b true) ≡ true
unfolding is_step_line alike class_of named in_digits class_by
list-step b e = list-line "S" refl (line_of b true) ∙ e

-- ---- read

module _ (l : Line) (x : Position) {step : List ℕ} (long : length step ≡ 128) where
  pub reads-21 : is_step_line l ≡ false → ReadLine l x (Err (Malformed x.line)) step
  unfolding read_step ◌>>◌ refuse◌at◌when◌
  reads-21 a = record { long = long; answers = refusing 21 x.line (rw a) refl }

  module _ (a : is_step_line l ≡ true) where
    pub reads-22 : any (leb x.transitions) (numbers_in l) ≡ true → ReadLine l x (Err (UnknownTransition x.line)) step
    unfolding read_step ◌>>◌ refuse◌at◌when◌
    reads-22 b = record { long = long; answers = refusing 22 x.line (rw (a, b)) refl }

    pub reads-step : {count : ℕ} → x.transitions ≤ 32 → any (leb x.transitions) (numbers_in l) ≡ false → count ≡ length (numbers_in l) → (count ≤ 128 → Begins step (numbers_in l)) → ReadLine l x (Ok count) step
    unfolding read_step ◌>>◌ refuse◌at◌when◌
    reads-step {count} k b e f = record {
      long = long;
      answers = giving (numbers_in l) (rw (a, b)) refl (record {
        some = omega (arith, some_number l a);
        size = e;
        each = λ t i. leb-false x.transitions t (Laws.any_none (leb x.transitions) (numbers_in l) b t i);
        holds = λ h. step-held e (few-known 32 x.transitions (numbers_in l) (omega arith) b k) (f h);
      });
    }

-- ---- counted

pub counts-23 : (k events count : ℕ) → 128 - events < count → events ≤ 128 → count_step k events count ≡ refuses 23 k
unfolding count_step refuse◌at◌when◌
counts-23 k events count h l = rw (lt-ltb 128 (events + count) (omega arith))

pub counts-on : (k events count : ℕ) → count ≤ 128 - events → events ≤ 128 → count_step k events count ≡ gives tt
unfolding count_step refuse◌at◌when◌
counts-on k events count h l = rw (le-ltb 128 (events + count) (omega arith))

-- ---- the line, by its parts

-- a refusal has a number and a spot
refusal_is : {A : Type 0} (w : StepRefusal) → (n : ℕ) × (s : ℕ) × (step_refused {A = A} w ≡ refuses n s)
refusal_is (Malformed k) = (21, k, refl)
refusal_is (UnknownTransition k) = (22, k, refl)
refusal_is (OverEvents k) = (23, k, refl)
refusal_is (TooFewTokens k) = (24, k, refl)
refusal_is (Inhibited k) = (25, k, refl)

pub refuses-not : {A : Type 0} {n s : ℕ} {v : A} {B : Type 0} → refuses n s ≡ gives v → B
refuses-not e = let z : ◌≡◌ {A = ℕ} 0 1 = cc in absurd (omega arith)

-- and gives nothing
pub refused-not : {A : Type 0} (w : StepRefusal) {v : A} {B : Type 0} → step_refused w ≡ gives v → B
refused-not {A} w e = let r = refusal_is {A = A} w in refuses-not (sym r.2 ∙ e)

-- what the parts make of the line
module _ (N : Net) (k : ℕ) (l : Line) (events : ℕ) (mk : List ℕ) {known : ℕ} (q : known ≡ N.transitions) where
  known_is : {b : Answer (List ℕ)} → read_step known k l ≡ b → read_step N.transitions k l ≡ b
  known_is e = ap (λ (z : ℕ). read_step z k l) (sym q) ∙ e

  at_read : {n s : ℕ} → read_step known k l ≡ refuses n s → line_at N k l events mk ≡ refuses n s
  unfolding line_at ◌>>=◌
  at_read e = rw (known_is e)

  module _ {ts : List ℕ} (e : read_step known k l ≡ gives ts) where
    at_count : {n s : ℕ} → count_step k events (length ts) ≡ refuses n s → line_at N k l events mk ≡ refuses n s
    unfolding line_at ◌>>=◌ ◌>>◌
    at_count f = rw (known_is e, f)

    module _ (f : count_step k events (length ts) ≡ gives tt) where
      at-judge : {n s : ℕ} → judge_step N k mk ts ≡ refuses n s → line_at N k l events mk ≡ refuses n s
      unfolding line_at ◌>>=◌ ◌>>◌
      at-judge g = rw (known_is e, f) (rw g)

      at-end : judge_step N k mk ts ≡ gives tt → line_at N k l events mk ≡ gives ts
      unfolding line_at ◌>>=◌ ◌>>◌
      at-end g = rw (known_is e, f) (rw g)

-- so many events that are counted fit
pub count_fits : (x : Position) (count : ℕ) → x.events ≤ 128 → gives tt ≡ count_step x.line x.events count → x.events + count ≤ 128
count_fits x count few d = elim (dec_lt 128 (x.events + count)) [
  | yes h ↦ refuses-not (sym (counts-23 x.line x.events count (omega arith) few) ∙ sym d)
  | no h ↦ omega arith
]

-- a line that is refused when it is read
pub line-unread : {l : Line} (x : Position) {w : StepRefusal} {step : List ℕ} → ReadLine l x (Err w) step → (N : Net) (mk : List ℕ) → x.transitions ≡ N.transitions
    → Agrees nothing (step_refused w) (λ ts. ⊥) (line_at N x.line l x.events mk)
line-unread {l} x {w} R N mk q = go R.answers
  where
    go : Agrees nothing (step_refused w) (λ ts. ⊥) (read_step x.transitions x.line l) → Agrees nothing (step_refused w) (λ ts. ⊥) (line_at N x.line l x.events mk)
    go (giving ts p y h) = absurd h
    go (refusing n s p y) = refusing n s (at_read N x.line l x.events mk q p) y

module _ {l : Line} {x : Position} {count : ℕ} {step : List ℕ} (R : ReadLine l x (Ok count) step) where
  -- the array has the step of a line that was read
  pub step-read : count ≤ 128 → IsStep step count
  step-read h = go R.answers
    where
      go : Agrees nothing (gives tt) (Named x.transitions count step) (read_step x.transitions x.line l) → IsStep step count
      go (giving ts p y n) = (n.holds h).step
      go (refusing n s p y) = refuses-not (sym y)

  module _ (N : Net) (mk : List ℕ) (q : x.transitions ≡ N.transitions) where
    -- 23
    pub line-uncounted : (w : StepRefusal) → step_refused w ≡ count_step x.line x.events count → Agrees nothing (step_refused w) (λ ts. ⊥) (line_at N x.line l x.events mk)
    line-uncounted w d = go R.answers
      where
        go : Agrees nothing (gives tt) (Named x.transitions count step) (read_step x.transitions x.line l) → Agrees nothing (step_refused w) (λ ts. ⊥) (line_at N x.line l x.events mk)
        go (giving ts p y h) = let r = refusal_is {A = Unit {0}} w in
            refusing r.0 r.1 (at_count N x.line l x.events mk q p (ap (count_step x.line x.events) (sym h.size) ∙ sym d ∙ r.2)) r.2
        go (refusing n s p y) = refuses-not (sym y)

    -- 24 and 25
    module _ {sets marking : List ℕ} (fits : x.events + count ≤ 128) (few : x.events ≤ 128) (A : HoldsArcs N sets x.places) (H : HoldsMarking x.places marking mk) where
      counted : (ts : List ℕ) → count ≡ length ts → count_step x.line x.events (length ts) ≡ gives tt
      counted ts h = counts-on x.line x.events (length ts) (omega arith) few

      pub line-barred : (w : StepRefusal) → Judges step count sets marking x.places x.line (Err w) → Agrees nothing (step_refused w) (λ ts. ⊥) (line_at N x.line l x.events mk)
      line-barred w G = go R.answers
        where
          go : Agrees nothing (gives tt) (Named x.transitions count step) (read_step x.transitions x.line l) → Agrees nothing (step_refused w) (λ ts. ⊥) (line_at N x.line l x.events mk)
          go (giving ts p y h) = let r = refusal_is {A = Unit {0}} w in
              refusing r.0 r.1 (at-judge N x.line l x.events mk q p (counted ts h.size) (sym (G N ts mk A (h.holds (omega arith)) (λ t i. omega (arith, h.each t i, q)) H) ∙ r.2)) r.2
          go (refusing n s p y) = refuses-not (sym y)

      pub line-judged : Judges step count sets marking x.places x.line (Ok tt)
          → Agrees nothing (gives tt) (Enabled N x mk count step) (line_at N x.line l x.events mk)
      line-judged G = go R.answers
        where
          go : Agrees nothing (gives tt) (Named x.transitions count step) (read_step x.transitions x.line l) → Agrees nothing (gives tt) (Enabled N x mk count step) (line_at N x.line l x.events mk)
          go (giving ts p y h) = let u = sym (G N ts mk A (h.holds (omega arith)) (λ t i. omega (arith, h.each t i, q)) H) in giving ts (at-end N x.line l x.events mk q p (counted ts h.size) u) refl (record {
            some = h.some;
            each = λ t i. omega (arith, h.each t i, q);
            events = fits;
            holds = h.holds (omega arith);
            judged = u;
          })
          go (refusing n s p y) = refuses-not (sym y)

-- of a line that was refused it has nothing to have
pub has-step : {l : Line} {x : Position} (r : Result ℕ StepRefusal) {step : List ℕ} → ReadLine l x r step → HasStep r step
has-step (Ok count) R = step-read R
has-step (Err w) R = tt
