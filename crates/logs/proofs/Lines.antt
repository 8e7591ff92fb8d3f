-- A line of a log is what its step is at the marking, and then what is built of it.
use Prim.Native.Nat.{ℕ, ◌+◌, ◌≤◌, ◌<◌}
use mathlib.Core.Path.{◌≡◌, sym, ap, ◌∙◌}
use mathlib.Core.Bool.{not}
use mathlib.Core.Logic.{inl, inr}
use mathlib.Core.List.{List}
use native.Mathlib.Omega.{arith}
use lib.Dec.{ltb, leb}
use lib.ListN.{length, get_or, take}
use Rattle.std.specs.Prelude.{Result, Ok, Err}
use Rattle.spec.specs.Answer.{Answer, gives, refuses, ◌>>=◌, ◌>>◌, refuse◌at◌when◌}
use Rattle.spec.specs.Lists.{any}
use Rattle.spec.specs.Text.{Line}
use Rattle.line_forms.proofs.Ties.{numbers-are}
use Rattle.spec.specs.Net.{Net, places}
use Rattle.spec.specs.Step.{short, inhibited}
use Rattle.spec.specs.Record.{bench}
use Rattle.spec.specs.Building.{Run as RunD, is_free, is_step_line, play_step, log_line}
use Rattle.lists.specs.Laws
use Rattle.lines.specs.Agree.{Agrees, giving, refusing}
use Rattle.arc_sets.specs.Sets.{HoldsArcs}
use Rattle.steps.specs.StepArrays.{Playable, MovedBy}
use Rattle.steps.specs.Judged.{numbers_in, read_step, count_step, judge_step, line_at, step_refused, step_answer, nothing}
use Rattle.steps.specs.declared.StepRefusal.{StepRefusal}
use Rattle.steps.proofs.Held.{playable, play-held, judged-tests}
use Rattle.step_lines.specs.Lines.{Enabled, EnabledOf, LineAt}
use Rattle.step_lines.specs.declared.StepLine.{StepLine}
use Rattle.step_lines.proofs.Lines.{refuses-not}
use Rattle.conditions.specs.declared.Extent.{Extent}
use Rattle.log_steps.specs.RunArrays.{Run, HoldsRun, BuildsOn, build_step, log_answer}
use Rattle.log_steps.specs.declared.LogRefusal.{LogRefusal}
use Rattle.log_steps.specs.declared.LogRefusal.TheVariants.{Step}
use Rattle.log_steps.proofs.Reaching.{events-held, conditions-held}
use Rattle.logs.specs.LogRun.{HoldsAt, position_of, LinesOn}

-- ---- the parts of a line

line-parts : (N : Net) (k : ℕ) (l : Line) (r : RunD) → log_line bench N k l r ≡ (line_at N k l (length r.events) r.marking >>= λ ts. build_step N k ts r)
unfolding log_line line_at read_step count_step judge_step build_step ◌>>◌ ◌>>=◌ refuse◌at◌when◌ bench
line-parts N k l r = rw (numbers-are l) (elim (Laws.true-or-false (not (is_step_line l))) [
  | inl a ↦ rw a
  | inr a ↦ rw a (elim (Laws.true-or-false (any (leb N.transitions) (numbers_in l))) [
    | inl b ↦ rw b
    | inr b ↦ rw b (elim (Laws.true-or-false (ltb 128 (length r.events + length (numbers_in l)))) [
      | inl c ↦ rw c
      | inr c ↦ rw c (elim (Laws.true-or-false (short N r.marking (numbers_in l))) [
        | inl d ↦ rw d
        | inr d ↦ rw d (elim (Laws.true-or-false (inhibited N r.marking (numbers_in l))) [ inl e ↦ rw e | inr e ↦ rw e ])
      ])
    ])
  ])
])

module _ (N : Net) (k : ℕ) (l : Line) (r : RunD) where
  line_refused : {n s : ℕ} → line_at N k l (length r.events) r.marking ≡ refuses n s → log_line bench N k l r ≡ refuses n s
  unfolding ◌>>=◌
  line_refused e = line-parts N k l r ∙ ap (λ (z : Answer (List ℕ)). z >>= λ ts. build_step N k ts r) e

  line-built : {ts : List ℕ} → line_at N k l (length r.events) r.marking ≡ gives ts → log_line bench N k l r ≡ build_step N k ts r
  unfolding ◌>>=◌
  line-built e = line-parts N k l r ∙ ap (λ (z : Answer (List ℕ)). z >>= λ ts. build_step N k ts r) e

-- ---- a line that was judged, built and played

-- a place has as many tokens as free conditions
marking-low : {N : Net} {k : ℕ} {x : Run} {r : RunD} → HoldsRun N k x r → (p : ℕ) → p < places N → get_or r.marking p 0 ≤ 512
marking-low {r = r} H p l = omega (arith, H.good.marking p l, Laws.count-length (is_free p) r.conditions, conditions-held H, H.whole.conditions)

module _ (x : Extent) {log sets : List ℕ} {i : ℕ} {mk step : List ℕ} {z : Run} (e : z.history.events ≡ x.events) where
  at-line : (v : StepLine) (S : LineAt log i sets (position_of x) mk v step) (N : Net) (r : RunD) → HoldsArcs N sets x.places → x.transitions ≡ N.transitions → HoldsAt N x.places x.line z mk r
      → Agrees nothing (step_answer v.events) (EnabledOf N (position_of x) r.marking v.events step) (line_at N x.line S.found.line (length r.events) r.marking)
  at-line v S N r A q H = rw (events-held H.run ∙ e) (S.answers N r.marking A q H.marking)

  -- it is refused as a step
  pub refused-on : (w : StepRefusal) (v : StepLine) (S : LineAt log i sets (position_of x) mk v step) → v.events ≡ Err w → {y : Run} {mk' : List ℕ} → LinesOn sets x.places x.transitions x.line S.found.line z mk (Err (Step w)) y mk'
  refused-on w v S e {y} {mk'} N r A q H = go (rw e at (at-line v S N r A q H))
    where
      go : Agrees nothing (step_refused w) (λ ts. ⊥) (line_at N x.line S.found.line (length r.events) r.marking) → Agrees nothing (step_refused w) (HoldsAt N x.places (x.line + 1) y mk') (log_line bench N x.line S.found.line r)
      go (giving ts p u h) = absurd h
      go (refusing n s p u) = refusing n s (line_refused N x.line S.found.line r p) u

  module _ (v : StepLine) (S : LineAt log i sets (position_of x) mk v step) {count : ℕ} (goes : v.events ≡ Ok count) where
    -- what is known of it
    pub enabled-on : (N : Net) (r : RunD) → HoldsArcs N sets x.places → x.transitions ≡ N.transitions → HoldsAt N x.places x.line z mk r → (ts : List ℕ) × Enabled N (position_of x) r.marking count step ts
    enabled-on N r A q H = go (rw goes at (at-line v S N r A q H))
      where
        go : Agrees nothing (gives tt) (Enabled N (position_of x) r.marking count step) (line_at N x.line S.found.line (length r.events) r.marking) → (ts : List ℕ) × Enabled N (position_of x) r.marking count step ts
        go (giving ts p u h) = (ts, h)
        go (refusing n s p u) = refuses-not (sym u)

    -- it can be played
    pub playable-on : (N : Net) (r : RunD) → HoldsArcs N sets x.places → x.transitions ≡ N.transitions → HoldsAt N x.places x.line z mk r → Playable sets (take count step) mk
    playable-on N r A q H = let E = (enabled-on N r A q H).1 in
        playable A E.holds E.each H.marking (λ p h. marking-low H.run p (omega (arith, A.places))) (judged-tests N x.line r.marking _ E.judged).0

    -- and its step answers
    pub stepped-on : (b : Result Extent LogRefusal) {y : Run} {mk' : List ℕ} → BuildsOn sets x.places x.line step count z b y → (log_answer b ≡ gives tt → MovedBy sets (take count step) mk mk') → LinesOn sets x.places x.transitions x.line S.found.line z mk b y mk'
    stepped-on b {y} {mk'} D M N r A q H = go (rw goes at (at-line v S N r A q H))
      where
        end : (ts : List ℕ) → line_at N x.line S.found.line (length r.events) r.marking ≡ gives ts → Enabled N (position_of x) r.marking count step ts → Agrees nothing (log_answer b) (λ r'. HoldsRun N (x.line + 1) y r' × (r' ≡ play_step N x.line ts r)) (build_step N x.line ts r)
            → Agrees nothing (log_answer b) (HoldsAt N x.places (x.line + 1) y mk') (log_line bench N x.line S.found.line r)
        end ts p E (giving r' d u h) = giving r' (line-built N x.line S.found.line r p ∙ d) u (record { run = h.0; marking = rw h.1 (unfold play_step in (play-held A E.holds E.each H.marking (M u))) })
        end ts p E (refusing n s d u) = refusing n s (line-built N x.line S.found.line r p ∙ d) u

        go : Agrees nothing (gives tt) (Enabled N (position_of x) r.marking count step) (line_at N x.line S.found.line (length r.events) r.marking) → Agrees nothing (log_answer b) (HoldsAt N x.places (x.line + 1) y mk') (log_line bench N x.line S.found.line r)
        go (giving ts p u E) = end ts p E (D N ts r A E.holds E.each E.judged H.run)
        go (refusing n s p u) = refuses-not (sym u)
