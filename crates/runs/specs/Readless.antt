-- Nets without read arcs (02, 2026-01): a net text without `R` lines is read as before the request, and from its net the same
-- record is built.
use Rattle.std.specs.Prelude.{◌≡◌, ℕ, suc, Bool, true, false, cond, length, get_or, eqb}
use Rattle.std.proofs.Math.Path.{refl, ap}
use Rattle.std.proofs.Common.{sym, ◌∙◌, subst, inl, inr, arith}
use Prim.Native.Char.{Char, code}
use mathlib.Core.List.Memᴰ
use mathlib.Core.List.{List, [], ◌∷◌, map, append-nil}
use Rattle.spec.specs.Lists.{In, any, up_to, keep, flat, as_count}
use Rattle.spec.specs.Answer.{Answer, gives, refuses, ◌>>=◌, ◌>>◌, refuse◌at◌when◌}
use Rattle.spec.specs.Classes.{alike}
use Rattle.spec.specs.Text.{Line, named, in_digits, class_of, is_a, pieces, is_only, by_lines}
use Rattle.spec.specs.Forms.{FieldForm, number, has_letter, fields_of, are_of, is_line, number_at}
use Rattle.spec.specs.Net.{Net, arc_kind_code, is_arc, joined, reads, read_and_consumed, with_place, with_transition, with_arc, add_place, add_transition, add_arc, add_line, empty_net, whole, net_of}
use Rattle.spec.specs.Step.{taken, needed, short}
use Rattle.spec.specs.Record.{due}
use Rattle.spec.specs.Building.{Run, unmarked, mark_at, read_by, mark_if, marks_at, marks_of, marks_due, record_of, log_line, play_log, built}
use Rattle.spec.specs.WithoutReads.{LackR}
use Rattle.spec.specs.BeforeReads as Then
use Rattle.spec.specs.declared.ArcKind.{ArcKind}
use Rattle.spec.specs.declared.ArcKind.TheVariants.{Input, Output, Inhibitor, Read}
use Rattle.spec.specs.declared.Limits.{Limits}
use Rattle.lists.specs.Laws.{here, there, true-or-false, clash, and-true, and-three, none_any, map_same}
use Rattle.runs.specs.Answers.{of-gives, not-refused, of-bind, of-when, of-lowest, of-cond}
use Rattle.runs.specs.Bytes.{other-class}
use Rattle.runs.specs.Readers.{lines_keep}

-- ---- two readers that answer alike

pub bind-same : {A B : Type 0} (m : Answer A) (f g : A → Answer B) → ((a : A) → m ≡ gives a → f a ≡ g a) → (m >>= f) ≡ (m >>= g)
unfolding ◌>>=◌
bind-same (gives a) f g h = h a refl
bind-same (refuses n s) f g h = refl

module _ {S : Type 0} (f g : ℕ → Line → S → Answer S) (P : S → Type 0) (Q : Line → Type 0) where
  -- where they agree at each line with Q and each state with P, which g keeps, they agree on all lines with Q
  pub lines_same : ((k : ℕ) (l : Line) (s : S) → Q l → P s → f k l s ≡ g k l s) → ((k : ℕ) (l : Line) (s t : S) → g k l s ≡ gives t → P s → P t)
      → (k : ℕ) (ls : List Line) (s : S) → ((l : Line) → In l ls → Q l) → P s → by_lines f k ls s ≡ by_lines g k ls s
  unfolding by_lines
  lines_same same keeps k [] s q p = refl
  lines_same same keeps k (l ∷ ls) s q p =
      rw (same k l s (q l here) p) (bind-same (g k l s) _ _ (λ t h. lines_same same keeps (suc k) ls t (λ m i. q m (there i)) (keeps k l s t h p)))

-- what a reader asks of each line that it accepts, the lines of an accepted text have
pub lines-asked : {S : Type 0} (g : ℕ → Line → S → Answer S) (Q : Line → Type 0) → ((k : ℕ) (l : Line) (s t : S) → g k l s ≡ gives t → Q l)
    → (k : ℕ) (ls : List Line) (s t : S) → by_lines g k ls s ≡ gives t → (l : Line) → In l ls → Q l
unfolding by_lines
lines-asked g Q asks k [] s t h l i = absurd (Memᴰ.not-nil i)
lines-asked g Q asks k (m ∷ ls) s t h l (Memᴰ.head e) = subst Q (sym e) (asks k m s _ (of-bind (g k m s) _ h).1)
lines-asked g Q asks k (m ∷ ls) s t h l (Memᴰ.tail i) = let r = of-bind (g k m s) _ h in lines-asked g Q asks (suc k) ls r.0 t r.2 l i

-- ---- lines

abbrev pub IsNoR : Line → Type 0
IsNoR l = is_line "R" (number ∷ number ∷ []) l ≡ false

-- a line with a form begins with its letter
formed : (c : Char) (fs : List FieldForm) (l : Line) → is_line c fs l ≡ true → is_a (class_of (code c)) (get_or (get_or (pieces l.bytes) 0 []) 0 0) ≡ true
unfolding is_line has_letter is_only
formed c fs l h =
    let b : List ℕ = get_or (pieces l.bytes) 0 [] in
    (and-true (eqb (length b) 1) (is_a (class_of (code c)) (get_or b 0 0)) (and-three l.ended (has_letter c l) (are_of fs (fields_of l)) h).1).1

-- so it is no line of another letter
pub other-letter : (c d : Char) → alike (class_of (code c)) (class_of (code d)) ≡ false → (fs gs : List FieldForm) (l : Line) → is_line c fs l ≡ true → is_line d gs l ≡ false
other-letter c d o fs gs l h = elim (true-or-false (is_line d gs l)) [
  | inl a ↦ clash (formed d gs l a) (other-class (class_of (code c)) (class_of (code d)) o _ (formed c fs l h))
  | inr a ↦ a
]

pub other-form : (c : Char) → alike (class_of (code c)) (class_of (code "R")) ≡ false → (fs : List FieldForm) (l : Line) → is_line c fs l ≡ true → IsNoR l
other-form c o fs = other-letter c "R" o fs (number ∷ number ∷ [])

-- ---- a net text

abbrev pub NoReads : Net → Type 0
NoReads n = (p t : ℕ) → reads n p t ≡ false

arc-same : (x : ArcKind) (k p t w : ℕ) (n : Net) → read_and_consumed n x p t ≡ false → add_arc x k p t w n ≡ Then.add_arc x k p t w n
unfolding add_arc Then.add_arc ◌>>◌ refuse◌at◌when◌
arc-same x k p t w n h = rw h

line_same : (k : ℕ) (l : Line) (n : Net) → IsNoR l → NoReads n → add_line k l n ≡ Then.add_line k l n
unfolding add_line Then.add_line read_and_consumed reads
line_same k l n q r =
    let u = number_at l 0 in
    let v = number_at l 1 in
    let w = number_at l 2 in
    rw (q, arc-same Input k u v 1 n (r u v), arc-same Input k u v w n (r u v), arc-same Output k v u 1 n refl, arc-same Output k v u w n refl, arc-same Inhibitor k u v 1 n refl)

arc-kept : (x : ArcKind) (k p t w : ℕ) (n m : Net) → eqb (arc_kind_code x) (arc_kind_code Read) ≡ false → Then.add_arc x k p t w n ≡ gives m → NoReads n → NoReads m
unfolding Then.add_arc with_arc reads joined any is_arc
arc-kept x k p t w n m d h r =
    let a = of-when 54 k _ _ (of-when 13 k _ _ h).1 in
    let b = of-when 14 k (joined n x p t) (gives (with_arc x p t w n)) a.1 in
    subst NoReads (of-gives b.1) (λ q u. rw d (r q u))

-- what the reader then accepted had no R, and it makes no read arc
line_kept : (k : ℕ) (l : Line) (n m : Net) → Then.add_line k l n ≡ gives m → IsNoR l × (NoReads n → NoReads m)
unfolding Then.add_line add_place add_transition with_place with_transition reads joined alike class_of named in_digits
line_kept k l n m h =
    let two = number ∷ number ∷ [] in
    let three = number ∷ number ∷ number ∷ [] in
    let u = number_at l 0 in
    let v = number_at l 1 in
    let w = number_at l 2 in
    of-cond (is_line "P" (number ∷ []) l) _ _ h (λ t q. (other-form "P" refl _ l t, subst NoReads (of-gives (of-when 12 k _ _ q).1))) λ h.
    of-cond (is_line "T" [] l) _ _ h (λ t q. (other-form "T" refl _ l t, subst NoReads (of-gives (of-when 12 k _ _ q).1))) λ h.
    of-cond (is_line "I" two l) _ _ h (λ t q. (other-form "I" refl two l t, arc-kept Input k u v 1 n m refl q)) λ h.
    of-cond (is_line "I" three l) _ _ h (λ t q. (other-form "I" refl three l t, arc-kept Input k u v w n m refl q)) λ h.
    of-cond (is_line "O" two l) _ _ h (λ t q. (other-form "O" refl two l t, arc-kept Output k v u 1 n m refl q)) λ h.
    of-cond (is_line "O" three l) _ _ h (λ t q. (other-form "O" refl three l t, arc-kept Output k v u w n m refl q)) λ h.
    of-cond (is_line "H" two l) _ _ h (λ t q. (other-form "H" refl two l t, arc-kept Inhibitor k u v 1 n m refl q)) not-refused

none_yet : NoReads empty_net
unfolding reads joined any empty_net
none_yet p t = refl

pub net-same : (ls : List Line) → LackR ls → net_of ls ≡ Then.net_of ls
unfolding net_of Then.net_of
net-same ls q = rw (lines_same add_line Then.add_line NoReads IsNoR line_same (λ k l n m h. (line_kept k l n m h).1) 1 ls empty_net q none_yet)

pub net-kept : (ls : List Line) (N : Net) → Then.net_of ls ≡ gives N → LackR ls × NoReads N
unfolding Then.net_of whole
net-kept ls N h =
    let z = of-bind (by_lines Then.add_line 1 ls empty_net) _ h in
    let y = of-lowest 15 _ (gives z.0) z.2 in (
      lines-asked Then.add_line IsNoR (λ k l n m h. (line_kept k l n m h).0) 1 ls empty_net z.0 z.1,
      subst NoReads (of-gives y.1) (lines_keep Then.add_line (λ k n done. NoReads n) (λ k l n m done h. (line_kept k l n m h).1) 1 ls empty_net z.0 [] z.1 none_yet).1,
    )

-- ---- building

-- what is made where a test passes, one after another, is made of what the test keeps
kept-flat : {A : Type 0} (p : ℕ → Bool) (g : ℕ → A) (xs : List ℕ) → flat (map (λ c. cond (p c) (g c ∷ []) []) xs) ≡ map g (keep p xs)
unfolding flat keep
kept-flat p g [] = refl
kept-flat p g (x ∷ xs) = elim (true-or-false (p x)) [
  | inl a ↦ rw (a, kept-flat p g xs)
  | inr a ↦ rw (a, kept-flat p g xs)
]

module _ (n : Net) (w : NoReads n) where
  needed-taken : (step : List ℕ) (p : ℕ) → needed n step p ≡ taken n step p
  unfolding needed as_count
  needed-taken step p = rw (none_any (reads n p) step (λ t m. w p t)) (omega arith)

  short-same : (m step : List ℕ) → short n m step ≡ Then.short n m step
  unfolding short Then.short
  short-same m step = simp needed-taken

  at_same : (r : Run) (e c : ℕ) → marks_at n r e c ≡ cond (due n (unmarked r) c e) (mark_at r e c ∷ []) []
  unfolding marks_at mark_if read_by
  at_same r e c = rw (w _ _) (append-nil _)

  pub marks-same : (r : Run) → marks_due n r ≡ Then.marks_due n r
  unfolding marks_due Then.marks_due marks_of Then.marks_of
  marks-same r = ap flat (map_same _ _ (up_to (length r.events)) (λ e i.
      ap flat (map_same _ _ (up_to (length r.conditions)) (λ c j. at_same r e c))
      ∙ kept-flat (λ c. due n (unmarked r) c e) (mark_at r e) (up_to (length r.conditions))))

  log-same : (lim : Limits) (k : ℕ) (l : Line) (r : Run) → log_line lim n k l r ≡ Then.log_line lim n k l r
  unfolding log_line Then.log_line
  log-same lim k l r = simp (short-same, marks-same)

  pub built-same : (lim : Limits) (ls : List Line) → built lim n ls ≡ Then.built lim n ls
  unfolding built Then.built play_log Then.play_log record_of Then.record_of
  built-same lim ls =
      rw (lines_same (log_line lim n) (Then.log_line lim n) (λ r. Unit {0}) (λ l. Unit {0}) (λ k l r q p. log-same lim k l r) (λ k l r s h p. tt) 1 ls _ (λ l i. tt) tt)
      (simp marks-same)
