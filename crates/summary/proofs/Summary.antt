-- The summary of a record that is accepted, by what the code has counted of it.
use mathlib.Core.Path.{◌≡◌, sym, ap, ◌∙◌, subst}
use Prim.Native.Nat.{ℕ, ◌+◌, ◌≤◌}
use native.Mathlib.Omega.{arith}
use mathlib.Core.List.{List, [], ◌∷◌}
use lib.ListN.{length}
use Rattle.std.proofs.Common.{Option}
use Rattle.spec.specs.Answer.{gives}
use Rattle.spec.specs.Net.{read_net}
use Rattle.spec.specs.Text.{line_with}
use Rattle.spec.specs.Record.{bench}
use Rattle.spec.specs.Checking.{accepts, read_record, Accepted as AcceptedD}
use Rattle.spec.specs.Arranging.{levels, line_count}
use Rattle.spec.specs.Printing.{summary}
use Rattle.spec.specs.declared.Field.TheVariants.{Number}
use Rattle.order.specs.Order.{Order}
use Rattle.reach.specs.Rows.{cell_of}
use Rattle.row_facts.specs.Counts.{Ready}
use Rattle.row_independence.specs.Pairs.{independent_pairs}
use Rattle.runs.specs.Answers.{of-gives, of-bind}
use Rattle.runs.specs.Accepted.{accepted-record}
use Rattle.runs.specs.ReadRecord.{Fits}
use Rattle.writing.specs.Written.{Wrote, line_bytes}
use Rattle.record_columns.specs.declared.Counts.{Counts}
use Rattle.representation.specs.Noted.{Noted}
use Rattle.accepting.specs.Relation.{Ordered}
use Rattle.accepting.proofs.Accepting.{accepted-process}
use Rattle.checking.proofs.CheckTable.{pairs-counted}
use Rattle.arranging.specs.Answers.{levels_in}
use Rattle.arranging.proofs.Levels.{order-held, levels-held}
use Rattle.summary.proofs.Sizes.{summary-size}

-- ---- an accepted record

module _ (net text : List ℕ) where
  -- what an accepted record is
  record-fits : (a : AcceptedD) → accepts bench net text ≡ gives a → Fits bench a.run
  unfolding accepts
  record-fits a e =
      let z = of-bind (read_net net) _ e in
      let y = of-bind (read_record bench z.0 text) _ z.2 in
      subst (λ b. Fits bench b.run) (of-gives y.2) (accepted-record bench z.0 text y.0 y.1).0.fits

  pub summary-fits : (a : AcceptedD) → accepts bench net text ≡ gives a → length (summary a.run) ≤ 19
  summary-fits a e = let w = accepted-process bench net text a e in summary-size a.net a.run w.0 w.1 (record-fits a e)

-- ---- a record that is held by bytes

module _ {s : Counts} {rec words t : List ℕ} {g : Option ℕ} (K : Noted s rec words) (O : Ordered K.run t g) where
  pub noted-order : Ready s.events t × Order s.events (cell_of t)
  noted-order = (subst (λ (n : ℕ). Ready n t) (sym K.held.bytes.events) O.order.ready, order-held K.net K.run K.held.well_formed K.process s.events t K.held.bytes.events O.order)

  noted-line : {k m : ℕ} → k ≡ independent_pairs s.events (cell_of t) → m ≡ line_count (levels_in s.events t)
      → line_bytes 90 (Number s.events ∷ Number s.conditions ∷ Number k ∷ Number m ∷ []) ≡ summary K.run
  unfolding summary line_with
  noted-line p q =
      let l : line_count (levels_in s.events t) ≡ line_count (levels K.run) = ap line_count (levels-held K.net K.run K.held.well_formed K.process s.events t K.held.bytes.events O.order) in
      rw (p ∙ pairs-counted K.net K.run t s.events K.held.well_formed O.order K.held.bytes.events, q ∙ l, K.held.bytes.events, K.held.bytes.conditions)

  pub noted-room : (n : ℕ) {k m room : ℕ} → k ≡ independent_pairs s.events (cell_of t) → m ≡ line_count (levels_in s.events t) → n + 19 ≤ room
      → n + length (line_bytes 90 (Number s.events ∷ Number s.conditions ∷ Number k ∷ Number m ∷ [])) ≤ room
  noted-room n p q h = omega (arith, ap length (noted-line p q), summary-size K.net K.run K.held.well_formed K.process K.fits)

  pub noted-wrote : (n : ℕ) {old new : List ℕ} {k m r : ℕ} → k ≡ independent_pairs s.events (cell_of t) → m ≡ line_count (levels_in s.events t)
      → Wrote old n (line_bytes 90 (Number s.events ∷ Number s.conditions ∷ Number k ∷ Number m ∷ [])) r new → Wrote old n (summary K.run) r new
  noted-wrote n {old} {new} {r = r} p q w = subst (λ (bs : List ℕ). Wrote old n bs r new) (noted-line p q) w
