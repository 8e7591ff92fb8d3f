-- What is promised of pairs that are free to swap, from the theorem of the definitions: the check's answer is given, so
-- that its third number is the answer's, and what the program prints stands at the start of its buffer.
use mathlib.Core.Path.{ap, ◌∙◌, subst⁻¹}
use Prim.Native.Nat.{ℕ}
use mathlib.Core.List.{List}
use lib.ListN.{length}
use Rattle.spec.specs.Values.{check_values}
use Rattle.spec.specs.Buffer.{program_leaves}
use Rattle.spec.specs.Printing.{program}
use Rattle.spec.specs.Independence.{CountsSwaps}
use Rattle.spec.specs.declared.Numbers.{Numbers}
use Rattle.runs.specs.Independence.{independence}
use Rattle.pti.specs.Calls.{CheckCall, ProgramCall}
use Rattle.demands.specs.Swaps.{PairsPromised, PrintPromised}
use Rattle.demands.proofs.Given.{numbers-given, start_is}

pub pairs-promised : (net text old : List ℕ) {r : Numbers} {new : List ℕ} → CheckCall net text old r new → PairsPromised net text old r
pairs-promised net text old {r} c N R h_n h_r h =
    let a = independence.checks net N h_n text R h_r (length old) h in
    let q = numbers-given check_values (λ x. x.table) a.1 c.answer in
    record {
      accepted = ap (λ (z : Numbers). z.number) q;
      swaps = subst⁻¹ (CountsSwaps R) (ap (λ (z : Numbers). z.c) q) a.2;
    }

pub print-promised : (input old : List ℕ) {r : Numbers} {new : List ℕ} → ProgramCall input old r new → PrintPromised input r new
unfolding program_leaves
print-promised input old c i N R hi h_n h_r =
    let a = independence.prints input i hi N h_n R h_r in
    record {
      pairs = a.0;
      swaps = a.1;
      printed = start_is (program input) old c.buffer (ap (λ (z : Numbers). z.a) c.answer) ∙ a.2;
    }
