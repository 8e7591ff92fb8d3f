-- A record text is accepted exactly when it is the text of a well-formed record within the limits that is a process.
use Rattle.std.specs.Prelude.{◌≡◌, ℕ, zero, suc, ◌≤◌, ◌<◌, false, List, length}
use Rattle.std.proofs.Math.Path.{subst}
use Rattle.std.proofs.Common.{le_trans, le_of_eq, arith}
use Rattle.std.proofs.Math.Decide.{dec_le}
use Rattle.spec.specs.Answer.{gives, ◌>>=◌, ◌>>◌}
use Rattle.spec.specs.Text.{lines_of, by_lines}
use Rattle.spec.specs.Net.{Net, places, reads}
use Rattle.spec.specs.Lists.{In, count}
use Rattle.spec.specs.Record.{RunRecord, Mark, no_condition, transition_of, condition_at, guard_slot, read_slot, is_at, record_bytes}
use Rattle.spec.specs.Process.{Process, WellFormed, read_in}
use Rattle.spec.specs.Checking.{enter_line, empty_record, obeys, read_record}
use Rattle.spec.specs.Endings.{plain_ends}
use Rattle.spec.specs.declared.Limits.{Limits}
use Rattle.lists.specs.Laws.{count-le, count_none, one-le, at_in}
use Rattle.runs.specs.MarkSlots.{slots-few, not_at, at-reading}
use Rattle.runs.specs.Judge.{obeys-process, process-obeys}
use Rattle.runs.specs.Answers.{of-gives, of-bind, of-seq}
use Rattle.runs.specs.ReadRecord.{Fits, MarksOnce, Printed, read-record-lines}
use Rattle.runs.specs.RecordText.{IsRecord, record-text}

module _ (N : Net) (R : RunRecord) (W : WellFormed N R) (P : Process N R) where
  -- where no mark stands, none stands twice
  none : (s c e : ℕ) → ((m : Mark) → In m R.marks → is_at s c e m ≡ false) → count (is_at s c e) R.marks ≤ 1
  none s c e h = omega (arith, count_none (is_at s c e) R.marks h)

  -- at a condition and event: the rule on B and A bounds the one slot, the rule on R the other, and there is no third
  once-in : (s c e : ℕ) → c < length R.conditions → e < length R.events → count (is_at s c e) R.marks ≤ 1
  once-in zero c e l h = le_trans (le_of_eq (P.marks c e l h)) (one-le _)
  once-in (suc zero) c e l h =
      let p = (condition_at R c).place in
      let q : p < places N = W.placed (condition_at R c) (at_in no_condition R.conditions c l) in
      omega (arith, count-le (is_at read_slot c e) (read_in R e p) R.marks (λ m i. at-reading R c e m), P.readings e p h q, one-le (reads N p (transition_of R e)))
  once-in (suc (suc s)) c e l h = none (suc (suc s)) c e (λ m i. not_at (suc (suc s)) c e m (λ q x y. omega (arith, slots-few m.kind)))

  -- a process marks no condition and event twice in one slot
  pub process-once : MarksOnce R
  process-once s c e = elim (dec_le (length R.conditions) c) [
    | yes l ↦ none s c e (λ m i. not_at s c e m (λ x q y. omega (arith, W.conditions m i)))
    | no l ↦ elim (dec_le (length R.events) e) [
      | yes h ↦ none s c e (λ m i. not_at s c e m (λ x y q. omega (arith, W.events m i)))
      | no h ↦ once-in s c e (omega arith) (omega arith)
    ]
  ]

module _ (lim : Limits) (N : Net) where
  pub accepted-record : (text : List ℕ) (R : RunRecord) → read_record lim N text ≡ gives R → IsRecord lim N (plain_ends text) R × Process N R
  unfolding read_record
  accepted-record text R h =
      let z = of-bind (by_lines (enter_line lim N) 1 (lines_of text) empty_record) _ h in
      let y = of-seq (obeys N z.0) (gives z.0) z.2 in
      let I = record-text lim N text z.0 z.1 in
      subst (λ R. IsRecord lim N (plain_ends text) R × Process N R) (of-gives y.2) (I, obeys-process N z.0 I.well_formed (I.once guard_slot) y.1)

  pub record-accepted : Printed lim N → (R : RunRecord) → WellFormed N R → Fits lim R → Process N R → read_record lim N (record_bytes R) ≡ gives R
  unfolding read_record ◌>>=◌ ◌>>◌
  record-accepted S R W F P = rw (read-record-lines lim N S R W F (process-once N R W P), process-obeys N R W P)
