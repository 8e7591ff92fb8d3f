-- Rows with the values of a record's closed order tell the order.
use Prim.Native.Nat.{ℕ, ◌<◌}
use mathlib.Core.Path.{◌≡◌}
use mathlib.Core.List.{List}
use native.Mathlib.Omega.{arith}
use lib.ListN.{length}
use borrow.Author.Tests.{leb-true, le-leb, ltb-true, lt-ltb}
use Rattle.spec.specs.Net.{Net}
use Rattle.spec.specs.Record.{RunRecord}
use Rattle.spec.specs.Process.{WellFormed}
use Rattle.reach.specs.Rows.{cell_of}
use Rattle.lists.specs.Laws.{same_tests}
use Rattle.runs.specs.Values.{order_of, strict-order, weak-order}
use Rattle.runs.specs.Closure.{strict-is, weak-is}
use Rattle.arrangement_reader.specs.Lined.{TellsOrder}

pub tells-order : (N : Net) (R : RunRecord) → WellFormed N R → {n : ℕ} {t : List ℕ} → n ≡ length R.events
    → ((d e : ℕ) → d < length R.events → e < length R.events → cell_of t d e ≡ order_of R d e) → TellsOrder n t R
tells-order N R W q cell = record {
  events = q;
  strict = λ d e l m. let i : d < length R.events = omega arith in let j : e < length R.events = omega arith in
      rw (cell d e i j) (same_tests _ _ (
        λ h. (strict-is N R W d e).1 ((strict-order N R W d e i j).0 (leb-true 2 (order_of R d e) h)),
        λ h. le-leb 2 (order_of R d e) ((strict-order N R W d e i j).1 ((strict-is N R W d e).0 h)),
      ));
  weak = λ d e l m apart. let i : d < length R.events = omega arith in let j : e < length R.events = omega arith in
      rw (cell d e i j) (same_tests _ _ (
        λ h. (weak-is N R W d e).1 ((weak-order N R W d e i j).0 (apart, ltb-true 0 (order_of R d e) h)),
        λ h. lt-ltb 0 (order_of R d e) ((weak-order N R W d e i j).1 ((weak-is N R W d e).0 h)).1,
      ));
}
