-- The answer to all lines of an arrangement: a line that breaks the order comes before what reading met, which is
-- behind it; where nothing was met, the lowest event that no line has is the same in the array and in the lines.
use Prim.Native.Nat.{ℕ, ◌+◌, ◌≤◌, ◌<◌}
use mathlib.Core.Path.{◌≡◌, refl, sym, ap, ◌∙◌}
use mathlib.Core.Bool.{not}
use mathlib.Core.Option.{Option, none, some}
use mathlib.Core.List.{List, [], append-nil}
use native.Mathlib.Omega.{arith}
use lib.ListN.{length}
use borrow.Author.Tests.{lt-ltb}
use Rattle.spec.specs.Lists.{flat, up_to, from, first, lowest, is_in}
use Rattle.spec.specs.Answer.{Answer, gives, refuses, ◌>>=◌, ◌>>◌, refuse◌at?◌}
use Rattle.spec.specs.Text.{lines_of, by_lines}
use Rattle.spec.specs.Record.{RunRecord}
use Rattle.spec.specs.Replaying.{missing, groups_line, read_arrangement}
use Rattle.lists.specs.Search.{first-same}
use Rattle.lines.specs.Agree.{Agrees, giving, refusing}
use Rattle.lines.proofs.Answers.{refuses≢gives}
use Rattle.arrangement_reader.specs.Lined.{TellsOrder, Stands, Lined, or_zero, FindsBroken}
use Rattle.arrangement_reader.specs.Arrangement.{answer_of, answer_behind, lines_played, unless_broken, ReadsLines, missing_in, finished}
use Rattle.arrangement_reader.specs.declared.ArrangementRefusal.{ArrangementRefusal}
use Rattle.arrangement_reader.specs.declared.ArrangementRefusal.TheVariants.{Broken}
use Rattle.std.proofs.Common.{Option as Found, Some, None, Result, Err}
use Rattle.arrangement_reader.specs.declared.LinesRead.{LinesRead}
use Rattle.arrangement_reader.proofs.Reading.{events-few, lines-few}
use Rattle.played_lines.specs.Lines.{Arranged, JudgesLines}

-- ---- the answer to the lines, and then to the rule behind them

module _ (R : RunRecord) (text : List ℕ) where
  read-refused : {r s : ℕ} → by_lines (groups_line R) 1 (lines_of text) [] ≡ refuses r s → read_arrangement R text ≡ refuses r s
  unfolding read_arrangement ◌>>=◌
  read-refused e = rw e

  read-given : {gs : List (List ℕ)} → by_lines (groups_line R) 1 (lines_of text) [] ≡ gives gs → read_arrangement R text ≡ (refuse 45 at? lowest (missing gs) (length R.events) >> gives gs)
  unfolding read_arrangement ◌>>=◌
  read-given e = rw e

-- the event that no line has
lowest-held : {n k : ℕ} {xs t : List ℕ} (gs : List (List ℕ)) (R : RunRecord) → n ≤ 128 → TellsOrder n t R → Stands k xs (flat gs) [] → lowest (missing_in xs) n ≡ lowest (missing gs) (length R.events)
unfolding lowest up_to missing_in missing
lowest-held {n} gs R few o s =
    first-same _ _ 0 n (λ e l. ap not (sym (ap (is_in e) (sym (append-nil (flat gs))) ∙ s.come e (omega arith)))) ∙ ap (λ (j : ℕ). first (missing gs) (from 0 j)) o.events

-- ---- by the first line that breaks the order

module _ {A : Type 0} (b : ℕ) (a : Answer A) where
  one-broken : 0 < b → unless_broken b a ≡ refuses 44 b
  unfolding unless_broken
  one-broken h = rw (lt-ltb 0 b h)

  none-broken : b ≤ 0 → unless_broken b a ≡ a
  unfolding unless_broken
  none-broken h = let z : b ≡ 0 = omega arith in rw z

module _ {n : ℕ} {t text : List ℕ} {r : LinesRead} {xs lined : List ℕ} {b : Found ℕ} (few : n ≤ 128) (L : ReadsLines n text r xs lined) (B : FindsBroken n r.lines t xs lined b) where
  module _ (R : RunRecord) (o : TellsOrder n t R) where
    lines_are : by_lines (groups_line R) 1 (lines_of text) [] ≡ unless_broken (or_zero b) L.last
    lines_are = L.whole R o.events ∙ ap (λ (k : ℕ). unless_broken k L.last) (sym (B.by R L.groups o L.taken))

    kept : b ≡ None → by_lines (groups_line R) 1 (lines_of text) [] ≡ L.last
    kept h = lines_are ∙ none-broken (or_zero b) L.last (rw h (omega arith))

  pub broken : {k : ℕ} → b ≡ Some k → JudgesLines n t text (Err (Broken k)) lined
  broken {k} h R o =
      let positive : 0 < k = rw h at B.some in
      refusing 44 k (read-refused R text (lines_are R o ∙ rw h (one-broken k L.last positive))) refl

  pub refused : b ≡ None → {x : ArrangementRefusal} → r.refused ≡ Some x → JudgesLines n t text (Err x) lined
  refused h {x} f R o = go (rw f at L.answer)
    where
      go : Agrees lines_played (answer_behind r.lines (Some x)) (λ gs. gs ≡ L.groups) L.last → Agrees lines_played (answer_of (Err x)) (λ gs. Arranged n gs lined) (read_arrangement R text)
      go (giving gs q y z) = absurd (refuses≢gives y)
      go (refusing q s e y) = refusing q s (read-refused R text (kept R o h ∙ e)) y

  pub finishes : b ≡ None → r.refused ≡ None → (a : Result ℕ ArrangementRefusal) → answer_of a ≡ finished xs n r.lines → JudgesLines n t text a lined
  unfolding finished ◌>>◌ refuse◌at?◌
  finishes h f a e R o = go (lowest (missing gs) (length R.events)) refl
    where
      gs : List (List ℕ)
      gs = L.groups

      stood : Lined n (r.lines + 1) xs gs
      stood = L.stood f

      given : Agrees lines_played (answer_behind r.lines None) (λ gs'. gs' ≡ gs) L.last → L.last ≡ gives gs
      given (giving gs' q x y) = q ∙ ap (λ zs. gives zs) y
      given (refusing q s d x) = absurd (refuses≢gives (sym x))

      all : read_arrangement R text ≡ (refuse 45 at? lowest (missing gs) (length R.events) >> gives gs)
      all = read-given R text (kept R o h ∙ given (rw f at L.answer))

      low : lowest (missing_in xs) n ≡ lowest (missing gs) (length R.events)
      low = lowest-held gs R few o stood.stands

      arranged : Arranged n gs lined
      arranged = record { ordered = L.taken.ordered; few = omega (arith, stood.lines, lines-few stood few); events = events-few stood few; known = stood.known }

      go : (z : Option ℕ) → lowest (missing gs) (length R.events) ≡ z → Agrees lines_played (answer_of a) (λ gs. Arranged n gs lined) (read_arrangement R text)
      go none q = giving gs (all ∙ rw q refl) (e ∙ rw (low, q) (ap (λ (j : ℕ). gives (j, 0, 0)) L.taken.lines)) arranged
      go (some s) q = refusing 45 s (all ∙ rw q refl) (e ∙ rw (low, q) refl)
