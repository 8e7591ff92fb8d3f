-- The text of an enabled step sequence within the limits is read and played, and a log that is played is the text of
-- one.
use Rattle.std.specs.Prelude.{◌≡◌, refl}
use Rattle.std.proofs.Math.Path.{sym, ap, ap₂, subst}
use Rattle.std.proofs.Common.{◌∙◌, le_of_eq, not-suc-le-zero, arith}
use Prim.Native.Nat.{ℕ, suc, ◌+◌, ◌^◌, ◌≤◌, ◌<◌}
use Rattle.std.proofs.Math.Nat.{le_trans}
use mathlib.Core.List.{List, [], ◌∷◌, ◌++◌, map}
use Rattle.std.proofs.Math.ListN.{length, get_or, take, length-append}
use Rattle.std.proofs.Math.Seq.{append_snoc, take-append_seam, get_or-append_seam}
use Rattle.std.proofs.lemmas.List.{take-append-le}
use borrow.Author.Tests.{le-ltb, ltb-false}
use Rattle.spec.specs.Lists.{In, flat}
use Rattle.spec.specs.Answer.{gives, ◌>>◌, refuse◌at◌when◌}
use Rattle.spec.specs.Text.{Line, lines_of, most_digits}
use Rattle.spec.specs.Forms.{numbers_of}
use Rattle.spec.specs.Net.{Net}
use Rattle.spec.specs.Step.{EnabledAt}
use Rattle.spec.specs.Building.{Run, start, play_step, play_steps, run_of, marks_due, record_of, record_for, is_step_line, log_line, play_log}
use Rattle.spec.specs.Runs.{marking_at, EnabledSequence, step_line, log_bytes}
use Rattle.spec.specs.Endings.{plain_ends}
use Rattle.spec.specs.declared.Field.TheVariants.{Number}
use Rattle.spec.specs.declared.Limits.{Limits}
use Rattle.lists.specs.Laws.{not-is-false, all-below, flat-map-snoc, index-snoc}
use Rattle.runs.specs.Bytes.{S-letter}
use Rattle.runs.specs.Fields.{body, ended}
use Rattle.runs.specs.LineForms.{list_back}
use Rattle.runs.specs.Answers.{of-gives, of-when}
use Rattle.runs.specs.Texts.{line_bytes, text-is, list-line}
use Rattle.runs.specs.Readers.{Takes, takes-line, takes-end, takes_all, lines_keep}
use Rattle.runs.specs.ReadRecord.{Fits}
use Rattle.runs.specs.Steps.{enabled-tests}
use Rattle.runs.specs.Log.{run-marking}
use Rattle.runs.specs.Growth.{step-events, run-snoc, fits-beginning}

-- ---- a log that is written is played

module _ (lim : Limits) (N : Net) (small : N.transitions ≤ 10 ^ most_digits) where
  line-played : (k : ℕ) (ts : List ℕ) (r : Run) → 0 < length ts → ((t : ℕ) → In t ts → t < N.transitions) → EnabledAt N r.marking ts
      → Fits lim (record_of N (play_step N k ts r)) → log_line lim N k (ended (body "S" (map Number ts))) r ≡ gives (play_step N k ts r)
  unfolding log_line is_step_line record_of ◌>>◌ refuse◌at◌when◌
  line-played k ts r l K E F =
      let b = list_back S-letter ts l (λ t m. le_trans (K t m) small) in
      let e = (enabled-tests N r.marking ts).1 E in
      rw (
        b.0,
        b.1,
        (all-below N.transitions ts).1 K,
        le-ltb lim.events (length r.events + length ts) (omega (arith, F.events, step-events N k ts r)),
        e.0,
        e.1,
        le-ltb lim.conditions (length (play_step N k ts r).conditions) F.conditions,
        le-ltb lim.marks (length (marks_due N (play_step N k ts r))) F.marks,
      )

  module _ (steps : List (List ℕ)) (E : EnabledSequence N steps) (F : Fits lim (record_for N steps)) where
    step-taken : (s : List (List ℕ)) (ts : List ℕ) (t : List (List ℕ)) → steps ≡ s ++ ts ∷ t → length s < length steps
        → Takes (log_line lim N) (1 + length s) (run_of N s) (step_line ts) (suc (1 + length s)) (run_of N (s ++ ts ∷ []))
    unfolding step_line record_for
    step-taken s ts t e l =
        let here : get_or steps (length s) [] ≡ ts = rw e (get_or-append_seam s ts t []) in
        let before : take (length s) steps ≡ s = rw e (take-append_seam s (ts ∷ t)) in
        let marking : marking_at N steps (length s) ≡ (run_of N s).marking = sym (run-marking N steps (length s)) ∙ ap (λ (z : List (List ℕ)). (run_of N z).marking) before in
        let known : (x : ℕ) → In x ts → x < N.transitions = λ x m. E.known (length s) x l (rw here m) in
        let fits : Fits lim (record_for N (s ++ ts ∷ [])) = fits-beginning lim N (s ++ ts ∷ []) t (rw (append_snoc s ts t, ← e) E) (rw (append_snoc s ts t, ← e) F) in
        takes-line S-letter (map Number ts)
        (line-played (1 + length s) ts (run_of N s) (rw here at (E.full (length s) l)) known (rw (here, marking) at (E.enabled (length s) l)) (rw (run-snoc N s ts) at fits)
        ∙ ap gives (sym (run-snoc N s ts)))

  pub log-played : (steps : List (List ℕ)) → EnabledSequence N steps → Fits lim (record_for N steps) → play_log lim N (lines_of (log_bytes steps)) ≡ gives (run_of N steps)
  unfolding play_log log_bytes run_of play_steps
  log-played steps E F = takes-end (takes_all step_line (run_of N) 1 steps (λ s ts t e m l. step-taken steps E F s ts t e l))

-- ---- a log that is played was written

-- the bytes are the text of an enabled sequence within the limits; r is its run, and k the next line's number
pub record IsLog (lim : Limits) (N : Net) (k : ℕ) (r : Run) (text : List ℕ) : Type 0 where
  pub steps : List (List ℕ)
  pub next : k ≡ 1 + length steps
  pub written : text ≡ log_bytes steps
  pub enabled : EnabledSequence N steps
  pub run : r ≡ run_of N steps
  pub fits : Fits lim (record_for N steps)

enabled-snoc : (N : Net) (steps : List (List ℕ)) (ts : List ℕ) → EnabledSequence N steps → 0 < length ts → ((t : ℕ) → In t ts → t < N.transitions)
    → EnabledAt N (run_of N steps).marking ts → EnabledSequence N (steps ++ ts ∷ [])
unfolding marking_at
enabled-snoc N steps ts E l K e = record {
  full = index-snoc (λ k ts. 0 < length ts) [] steps ts E.full l;
  known = λ k t h. index-snoc (λ k ts. In t ts → t < N.transitions) [] steps ts (λ k l. E.known k t l) (K t) k h;
  enabled = index-snoc (λ k step. EnabledAt N (marking_at N (steps ++ ts ∷ []) k) step) [] steps ts
      (λ k h. rw (take-append-le k steps (ts ∷ []) (omega arith)) (E.enabled k h)) (rw (← run-marking N (steps ++ ts ∷ []) (length steps), take-append_seam steps (ts ∷ [])) e);
}

no_steps : (lim : Limits) (N : Net) → Fits lim (record_for N []) → IsLog lim N 1 (start N) []
unfolding log_bytes flat run_of play_steps
no_steps lim N F = record {
  steps = [];
  next = refl;
  written = refl;
  enabled = record { full = λ k l. absurd (not-suc-le-zero l); known = λ k t l. absurd (not-suc-le-zero l); enabled = λ k l. absurd (not-suc-le-zero l) };
  run = refl;
  fits = F;
}

module _ (lim : Limits) (N : Net) where
  step-logged : (k : ℕ) (r : Run) (done ts : List ℕ) → IsLog lim N k r done → 0 < length ts → ((t : ℕ) → In t ts → t < N.transitions) → EnabledAt N r.marking ts
      → Fits lim (record_of N (play_step N k ts r)) → IsLog lim N (suc k) (play_step N k ts r) (done ++ step_line ts)
  unfolding log_bytes record_for
  step-logged k r done ts I l K E F =
      let run : play_step N k ts r ≡ run_of N (I.steps ++ ts ∷ []) = ap₂ (λ (j : ℕ) (r : Run). play_step N j ts r) I.next I.run ∙ sym (run-snoc N I.steps ts) in
      record {
        steps = I.steps ++ ts ∷ [];
        next = omega (arith, I.next, length-append I.steps (ts ∷ []));
        written = ap (λ (x : List ℕ). x ++ step_line ts) I.written ∙ sym (flat-map-snoc step_line I.steps ts);
        enabled = enabled-snoc N I.steps ts I.enabled l K (rw I.run at E);
        run = run;
        fits = rw run at F;
      }

  line-logged : (k : ℕ) (l : Line) (r s : Run) (done : List ℕ) → log_line lim N k l r ≡ gives s → IsLog lim N k r done → IsLog lim N (suc k) s (done ++ line_bytes l)
  unfolding log_line is_step_line step_line record_of
  line-logged k l r s done h I =
      let ts : List ℕ = numbers_of l in
      let a = of-when 21 k _ _ h in
      let b = of-when 22 k _ _ a.1 in
      let c = of-when 23 k _ _ b.1 in
      let d = of-when 24 k _ _ c.1 in
      let e = of-when 25 k _ _ d.1 in
      let f = of-when 26 k _ _ e.1 in
      let g = of-when 27 k _ _ f.1 in
      let y = list-line S-letter l (not-is-false _ a.0) in
      subst (λ s. IsLog lim N (suc k) s (done ++ line_bytes l)) (of-gives g.1) (rw y.0
      (step-logged k r done ts I y.1 ((all-below N.transitions ts).0 b.0) ((enabled-tests N r.marking ts).0 (d.0, e.0)) (record {
        events = le_trans (le_of_eq (step-events N k ts r)) (ltb-false lim.events _ c.0);
        conditions = ltb-false lim.conditions _ f.0;
        marks = ltb-false lim.marks _ g.0;
      })))

  -- the lines of a text, or of a part of one
  pub lines-exact : Fits lim (record_for N []) → (ls : List Line) (r : Run) → play_log lim N ls ≡ gives r
      → (steps : List (List ℕ)) × (flat (map line_bytes ls) ≡ log_bytes steps) × EnabledSequence N steps × (r ≡ run_of N steps) × Fits lim (record_for N steps)
  unfolding play_log
  lines-exact F ls r h =
      let I = (lines_keep (log_line lim N) (IsLog lim N) line-logged 1 ls (start N) r [] h (no_steps lim N F)).1 in
      (I.steps, I.written, I.enabled, I.run, I.fits)

  pub log-exact : Fits lim (record_for N []) → (log : List ℕ) (r : Run) → play_log lim N (lines_of log) ≡ gives r
      → (steps : List (List ℕ)) × (plain_ends log ≡ log_bytes steps) × EnabledSequence N steps × (r ≡ run_of N steps) × Fits lim (record_for N steps)
  log-exact F log r h = let z = lines-exact F (lines_of log) r h in (z.0, sym (text-is log) ∙ z.1, z.2, z.3, z.4)
