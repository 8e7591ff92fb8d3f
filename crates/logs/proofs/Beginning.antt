-- The run at the initial marking.
use Prim.Native.Nat.{ℕ, ◌+◌, ◌≤◌, ◌<◌}
use mathlib.Core.Path.{◌≡◌, refl, sym, ap, ◌∙◌}
use mathlib.Core.List.{List}
use native.Mathlib.Decide.{dec_le}
use native.Mathlib.Omega.{arith}
use lib.ListN.{length, get_or, take, get_or-eq_default}
use lib.Seq.{ext_get_or, get_or-take, length-take-le}
use Rattle.spec.specs.Lists.{count, sum_of}
use Rattle.spec.specs.Net.{Net}
use Rattle.spec.specs.Building.{start, initial_of}
use Rattle.steps.specs.StepArrays.{HoldsMarking}
use Rattle.runs.specs.Built.{good_start, start-count, blank as blank_condition}
use Rattle.lists.specs.Stretch.{MappedFrom}
use Rattle.columns.specs.Columns.{column, column-length, column-at}
use Rattle.run_counts.specs.Tally.{in_place, own_all, reads_all, tally_at, Tallied}
use Rattle.history.specs.HistoryColumns.{History, Starts}
use Rattle.log_steps.specs.RunArrays.{HoldsRun}
use Rattle.logs.specs.LogRun.{Beginnable}

module _ {m : ℕ} {tokens : List ℕ} (N : Net) (h : HoldsMarking m tokens N.tokens) where
  pub tokens-are : take m tokens ≡ N.tokens
  tokens-are = ext_get_or 0 (take m tokens) N.tokens (long ∙ sym h.places) (λ i l. get_or-take m tokens i 0 (omega (arith, long)) ∙ h.tokens i)
    where
      long : length (take m tokens) ≡ m
      long = length-take-le m tokens (omega (arith, h.few, h.long))

  module _ (counts : List ℕ) (l : length counts ≡ 96) (hd : column 0 32 counts ≡ tokens) (wt : (p : ℕ) → p < 32 → get_or (column 32 32 counts) p 0 ≡ 0) where
    tallied : Tallied N (start N) (tally_at 0 0 counts)
    unfolding start
    tallied = record {
      long_held = column-length 0 32 counts (omega arith);
      long_watched = column-length 32 32 counts (omega arith);
      held = λ p k. ap (λ (z : List ℕ). get_or z p 0) hd ∙ h.tokens p ∙ sym (start-count (in_place p) p (λ q. unfold in_place blank_condition in refl) N.tokens);
      watched = λ p k. wt p (omega (arith, h.few, h.places)) ∙ unfold count in refl;
      own = unfold own_all sum_of in refl;
      reads = unfold reads_all sum_of in refl;
    }

    pub begins : {g : History} → Starts (take m tokens) g → HoldsRun N 1 (record { tally = tally_at 0 0 counts; history = g }) (start N)
    begins S = record {
      good = good_start N;
      tally = tallied;
      whole = S.whole;
      events = unfold start in S.events;
      conditions = unfold start in (S.conditions ∙ ap (initial_of 0) tokens-are);
      early = omega arith;
    }

-- the arrays into which the tokens were put
module _ {tokens counts marking : List ℕ} {m : ℕ} {rec : List ℕ} (B : Beginnable tokens m rec counts marking) where
  pub put-marking : {marking' : List ℕ} → MappedFrom marking 0 32 (λ p. get_or tokens p 0) marking' → marking' ≡ tokens
  put-marking {marking'} A = ext_get_or 0 _ tokens (A.long ∙ B.marked ∙ sym B.tokens) (λ p l. ap (λ (i : ℕ). get_or marking' i 0) (omega arith) ∙ A.here p (omega (arith, A.long, B.marked)))

  module _ {counts' : List ℕ} (C : MappedFrom counts 0 32 (λ p. get_or tokens p 0) counts') where
    pub put-long : length counts' ≡ 96
    put-long = C.long ∙ B.wide

    pub put-held : column 0 32 counts' ≡ tokens
    put-held = ext_get_or 0 _ tokens (long ∙ sym B.tokens) (λ p l. let h : p < 32 = omega (arith, long) in column-at 0 32 counts' p h ∙ C.here p h)
      where
        long : length (column 0 32 counts') ≡ 32
        long = column-length 0 32 counts' (omega (arith, put-long))

    pub put-blank : (at p : ℕ) → 32 ≤ at → p < 32 → get_or (column at 32 counts') p 0 ≡ 0
    put-blank at p h l = column-at at 32 counts' p l ∙ C.beyond (at + p) (omega arith) ∙ B.blank (at + p)

    -- the cursors are at the first condition
    pub put-cursors : (p : ℕ) → get_or (column 64 32 counts') p 0 ≡ 0
    put-cursors p = elim (dec_le 32 p) [
      | yes h ↦ get_or-eq_default (column 64 32 counts') 0 (omega (arith, column-length 64 32 counts' (omega (arith, put-long))))
      | no h ↦ put-blank 64 p (omega arith) (omega arith)
    ]
