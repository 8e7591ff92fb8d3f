-- Independent means free to swap (02, 2026-04), proved: two events count exactly when there are arrangements with one first, with
-- the other first and with both in one step. Each of them is an extension of the record's pairs (`order`'s `Swap`).
use Rattle.std.specs.Prelude.{◌≡◌, ◌↔◌, ℕ, true, not, List, length, leb}
use Rattle.std.proofs.Math.Path.{refl}
use Rattle.std.proofs.Common.{ap, arith, ne_eqb, leb-false}
use Rattle.std.proofs.Math.Logic.{Ne-symm}
use Rattle.std.proofs.lemmas.Bool.{lt-leb}
use Rattle.spec.specs.Answer.{◌>>=◌}
use Rattle.spec.specs.Net.{Net}
use Rattle.spec.specs.Record.{RunRecord}
use Rattle.spec.specs.Order.{pairs}
use Rattle.spec.specs.Process.{Process, WellFormed}
use Rattle.spec.specs.Checking.{independent, independent_pairs, checked_of}
use Rattle.spec.specs.Runs.{TwoEvents, InSome}
use Rattle.spec.specs.Independence.{FreeToSwap, CountsSwaps, Independence}
use Rattle.lists.specs.Laws
use Rattle.order.specs.Order.{Acyclic}
use Rattle.order.proofs.Swap as Swap
use Rattle.order.proofs.Swap.{first-in-some, together-in-some}
use Rattle.runs.specs.Values.{pair_at, order_of, order}
use Rattle.runs.specs.Closure.{ordered-test}
use Rattle.runs.specs.Levels.{kept, kept_back}
use Rattle.runs.specs.Exactness.{exactness}
use Rattle.runs.specs.Spots.{answer_to}
use Rattle.runs.specs.Summary.{built-is-process, summary-back}
use Rattle.runs.specs.Demand.{check-given}

-- a test of a value that fails is one of 0
no_value : (x : ℕ) → (not (leb 1 x) ≡ true) ↔ (x ≡ 0)
no_value x = (
  λ h. let z = leb-false 1 x (Laws.not-is-true (leb 1 x) h) in omega arith,
  λ h. ap not (lt-leb 1 x (omega arith)),
)

module _ (N : Net) (R : RunRecord) (W : WellFormed N R) (P : Process N R) where
  abbrev n : ℕ
  n = length R.events

  abbrev c : ℕ → ℕ → ℕ
  c = order_of R

  acyclic : Acyclic (pair_at (pairs R)) n
  acyclic = (order N R W P).acyclic

  -- an arrangement that keeps the record's order is one that keeps it as numbers
  some-kept : {X : List (List ℕ) → Type 0} → InSome R X ↔ Swap.InSome (pair_at (pairs R)) n acyclic X
  some-kept = (λ r. (r.0, kept N R W r.1, r.2), λ r. (r.0, kept_back N R W r.1, r.2))

  module _ (e f : ℕ) (t : TwoEvents R e f) where
    -- neither has a value
    apart : (independent R e f ≡ true) ↔ ((c e f ≡ 0) × (c f e ≡ 0))
    unfolding independent
    apart = rw (ne_eqb e f t.differ, ordered-test N R W e f t.one t.other t.differ, ordered-test N R W f e t.other t.one (Ne-symm t.differ)) (
      λ h. let z = Laws.and-true (not (leb 1 (c e f))) (not (leb 1 (c f e))) h in ((no_value (c e f)).0 z.0, (no_value (c f e)).0 z.1),
      λ h. Laws.true-and ((no_value (c e f)).1 h.0) ((no_value (c f e)).1 h.1),
    )

    free : (independent R e f ≡ true) ↔ FreeToSwap R e f
    free =
        let ef = first-in-some (pair_at (pairs R)) n acyclic e f t.one t.other t.differ in
        let fe = first-in-some (pair_at (pairs R)) n acyclic f e t.other t.one (Ne-symm t.differ) in
        let both = together-in-some (pair_at (pairs R)) n acyclic e f t.one t.other in (
          λ h. let z = apart.0 h in record {
            one-first = some-kept.1 (ef.1 z.1);
            other-first = some-kept.1 (fe.1 z.0);
            together = some-kept.1 (both.1 (omega (arith, z.0), omega (arith, z.1)));
          },
          λ s. apart.1 (fe.0 (some-kept.0 s.other-first), ef.0 (some-kept.0 s.one-first)),
        )

  pub counts-swaps : CountsSwaps R (independent_pairs R)
  counts-swaps = unfold independent_pairs in record { counts = independent R; exactly = free; all = refl }

-- over texts: of every accepted net and record, and of every input that the program prints a record of
pub independence : Independence
unfolding checked_of answer_to ◌>>=◌
independence = record {
  checks = λ net N h_n text R h_r room h.
      let I = ((exactness.checks net N h_n text R).0 h_r).1 in
      (checked_of R, check-given net N h_n text R h_r room h, counts-swaps N R I.well_formed I.process);
  prints = λ input i hi N h_n R h_r.
      let I = built-is-process i.net i.log N R h_n h_r in
      (independent_pairs R, counts-swaps N R I.well_formed I.process, (summary-back input R (rw (hi, h_n) h_r)).0);
}
